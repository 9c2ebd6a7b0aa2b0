-- The words of an object are those of its pages.
use Rattle.std.proofs.{Common.{refl, sym, ap, ◌∙◌, ⊎_elim, arith}, lemmas.Bool.{and_from, and_parts, both_ways}}
use Rattle.std.proofs.lemmas.Bool.{cases_Bool, cases_lt, le-leb, leb-true, lt-leb, lt-ltb, ltb-true, le-ltb}
use Rattle.std.proofs.lemmas.List.{get_or_append_left, get_or-append_right, set-append_left, set-append_right}
use Rattle.std.{proofs.lemmas.List.Elements.{All-head, All-tail}, specs.{List.list_any, Option.option_map_or}}
use Rattle.std.specs.Prelude.{◌≡◌, ◌≢◌, ◌+◌, ◌-◌, ◌*◌, ◌/◌, ◌<◌, ◌≤◌, ◌&&◌, ◌||◌, nat_le, nat_lt, ℕ, zero, suc, true}
use Rattle.std.specs.Prelude.{false, List, [], ◌∷◌, ◌++◌, All, if◌then◌else◌, map, slice_index, slice_set, Some}
use Rattle.{mg_disk.specs.Disk.Image, mg_model.specs.{Abbreviations.{pages_words, word_in}, Access.{at, covers}}}
use Rattle.mg_model.specs.{Limits.first_page, Objects.{page_behind, page_of, with_word, word_at}, Ranges.IsObjectRow}
use Rattle.mg_model.specs.{State.ObjectRow, Volume.{object_spelled, page_words}}
use Rattle.{mg_pages.specs.LengthLemmas.length-page, mg_volume.specs.{Meaning.is_page_in, Sound.all_spelled}}

-- a word of one of the pages
pub pages-at : (r : Image) (frames : ℕ) (table : List ℕ) (page n k i : ℕ) → k < n → i < 512 → slice_index (pages_words r frames table page n) (512 * k + i) ≡ slice_index (page_words r frames table (page + k)) i
pages-at r frames table page zero k i few within = absurd (omega arith)
pages-at r frames table page (suc n) zero i few within =
    let long = length-page r frames table page in
    let here : 512 * zero + i ≡ i = omega arith in
    let this : page + zero ≡ page = omega arith in
    ap (slice_index (page_words r frames table page ++ pages_words r frames table (page + 1) n)) here
    ∙ get_or_append_left (page_words r frames table page) (pages_words r frames table (page + 1) n) 0 i (omega arith)
    ∙ ap (λ p. slice_index (page_words r frames table p) i) (sym this)
pages-at r frames table page (suc n) (suc k) i few within =
    let place : 512 * suc k + i - 512 ≡ 512 * k + i = omega arith in
    let that : page + 1 + k ≡ page + suc k = omega arith in
    get_or-append_right (page_words r frames table page) (pages_words r frames table (page + 1) n) 512 (512 * suc k + i) 0 (length-page r frames table page) (omega arith)
    ∙ ap (slice_index (pages_words r frames table (page + 1) n)) place
    ∙ pages-at r frames table (page + 1) n k i (omega arith) within
    ∙ ap (λ p. slice_index (page_words r frames table p) i) that

-- pages that have the same words
pub pages-same : (r r' : Image) (frames frames' : ℕ) (table table' : List ℕ) (page n : ℕ) → ((k : ℕ) → page ≤ k → k < page + n → page_words r' frames' table' k ≡ page_words r frames table k)
    → pages_words r' frames' table' page n ≡ pages_words r frames table page n
pages-same r r' frames frames' table table' page zero same = refl
pages-same r r' frames frames' table table' page (suc n) same =
    ap (λ words. words ++ pages_words r' frames' table' (page + 1) n) (same page (omega arith) (omega arith))
    ∙ ap (λ words. page_words r frames table page ++ words) (pages-same r r' frames frames' table table' (page + 1) n (λ k low high. same k (omega arith) (omega arith)))

-- the pages of which one has another word
pub pages-set : (r r' : Image) (frames frames' : ℕ) (table table' : List ℕ) (page n k i value : ℕ) → k < n → i < 512
    → page_words r' frames' table' (page + k) ≡ slice_set (page_words r frames table (page + k)) i value
    → ((other : ℕ) → page ≤ other → other < page + n → other ≢ page + k → page_words r' frames' table' other ≡ page_words r frames table other)
    → pages_words r' frames' table' page n ≡ slice_set (pages_words r frames table page n) (512 * k + i) value
pages-set r r' frames frames' table table' page zero k i value few within this others = absurd (omega arith)
pages-set r r' frames frames' table table' page (suc n) zero i value few within this others =
    let long = length-page r frames table page in
    let here : page + zero ≡ page = omega arith in
    let place : 512 * zero + i ≡ i = omega arith in
    ap (λ words. words ++ pages_words r' frames' table' (page + 1) n) (ap (λ p. page_words r' frames' table' p) (sym here) ∙ this ∙ ap (λ p. slice_set (page_words r frames table p) i value) here)
    ∙ ap (λ words. slice_set (page_words r frames table page) i value ++ words)
    (pages-same r r' frames frames' table table' (page + 1) n (λ j low high. others j (omega arith) (omega arith) (λ is. omega arith)))
    ∙ sym (set-append_left (page_words r frames table page) (pages_words r frames table (page + 1) n) i value (omega arith))
    ∙ ap (λ j. slice_set (page_words r frames table page ++ pages_words r frames table (page + 1) n) j value) (sym place)
pages-set r r' frames frames' table table' page (suc n) (suc k) i value few within this others =
    let place : 512 * suc k + i - 512 ≡ 512 * k + i = omega arith in
    let that : page + suc k ≡ page + 1 + k = omega arith in
    ap (λ words. words ++ pages_words r' frames' table' (page + 1) n) (others page (omega arith) (omega arith) (λ is. omega arith))
    ∙ ap (λ words. page_words r frames table page ++ words)
    (pages-set r r' frames frames' table table' (page + 1) n k i value (omega arith) within
    (ap (λ p. page_words r' frames' table' p) (sym that) ∙ this ∙ ap (λ p. slice_set (page_words r frames table p) i value) that)
    (λ other low high not. others other (omega arith) (omega arith) (λ is. not (omega arith))))
    ∙ ap (λ j. page_words r frames table page ++ slice_set (pages_words r frames table (page + 1) n) j value) (sym place)
    ∙ sym (set-append_right (page_words r frames table page) (pages_words r frames table (page + 1) n) 512 (512 * suc k + i) value (length-page r frames table page) (omega arith))

-- an address is in an object if its page is
pub covers-page : (row : ObjectRow) (page index : ℕ) → IsObjectRow row → index < 512 → covers row (4096 * page + 8 * index) ≡ is_page_in page row
covers-page row page index is within =
    let aligned = is.place.aligned in
    let low : nat_le row.base (4096 * page + 8 * index) ≡ nat_le (page_of row) page =
    ⊎_elim (λ (above : page < page_of row). lt-leb row.base (4096 * page + 8 * index) (omega arith) ∙ sym (lt-leb (page_of row) page above))
    (λ below. le-leb row.base (4096 * page + 8 * index) (omega arith) ∙ sym (le-leb (page_of row) page below)) (cases_lt page (page_of row)) in
    let high : nat_lt (4096 * page + 8 * index) (row.base + 4096 * row.pages) ≡ nat_lt page (page_behind row) =
    ⊎_elim (λ (below : page < page_behind row). lt-ltb (4096 * page + 8 * index) (row.base + 4096 * row.pages) (omega arith) ∙ sym (lt-ltb page (page_behind row) below))
    (λ above. le-ltb (4096 * page + 8 * index) (row.base + 4096 * row.pages) (omega arith) ∙ sym (le-ltb page (page_behind row) above)) (cases_lt page (page_behind row)) in
    ap (λ t. t && nat_lt (4096 * page + 8 * index) (row.base + 4096 * row.pages)) low ∙ ap (λ t. nat_le (page_of row) page && t) high

-- where in an object it is
pub place-in : (row : ObjectRow) (page index : ℕ) → IsObjectRow row → is_page_in page row ≡ true → (4096 * page + 8 * index - row.base) / 8 ≡ 512 * (page - page_of row) + index
place-in row page index is inside =
    let parts = and_parts (nat_le (page_of row) page) (nat_lt page (page_behind row)) inside in
    let low = leb-true (page_of row) page parts.0 in
    let aligned = is.place.aligned in
    omega arith

-- the word at an address is that of its page
word-in : (r : Image) (frames : ℕ) (table : List ℕ) (row : ObjectRow) (page index : ℕ) → IsObjectRow row → index < 512 → is_page_in page row ≡ true
    → word_in (object_spelled r frames table row) (4096 * page + 8 * index) ≡ slice_index (page_words r frames table page) index
word-in r frames table row page index is within inside =
    let parts = and_parts (nat_le (page_of row) page) (nat_lt page (page_behind row)) inside in
    let low = leb-true (page_of row) page parts.0 in
    let high = ltb-true page (page_behind row) parts.1 in
    let this : page_of row + (page - page_of row) ≡ page = omega arith in
    ap (slice_index (pages_words r frames table (page_of row) row.pages)) (place-in row page index is inside)
    ∙ pages-at r frames table (page_of row) row.pages (page - page_of row) index (omega arith) within
    ∙ ap (λ p. slice_index (page_words r frames table p) index) this

pub word-spelled : (r : Image) (frames : ℕ) (table : List ℕ) (page index : ℕ) (os : List (ℕ × ObjectRow)) → All (λ (o : ℕ × ObjectRow). IsObjectRow o.1) os → index < 512
    → list_any (λ row. is_page_in page row) (map (λ (o : ℕ × ObjectRow). o.1) os) ≡ true
    → word_at (all_spelled r frames table os) (4096 * page + 8 * index) ≡ slice_index (page_words r frames table page) index
word-spelled r frames table page index [] kept within has = absurd (both_ways false refl has)
word-spelled r frames table page index (o ∷ os) kept within has =
    ⊎_elim
    (λ inside.
    let covered : covers o.1 (4096 * page + 8 * index) ≡ true = covers-page o.1 page index (All-head (λ (o : ℕ × ObjectRow). IsObjectRow o.1) o os kept) within ∙ inside in
    ap (λ t. option_map_or (λ object. word_in object (4096 * page + 8 * index)) (if t then Some (object_spelled r frames table o.1) else at (all_spelled r frames table os) (4096 * page + 8 * index)) 0) covered
    ∙ word-in r frames table o.1 page index (All-head (λ (o : ℕ × ObjectRow). IsObjectRow o.1) o os kept) within inside)
    (λ outside.
    let covered : covers o.1 (4096 * page + 8 * index) ≡ false = covers-page o.1 page index (All-head (λ (o : ℕ × ObjectRow). IsObjectRow o.1) o os kept) within ∙ outside in
    ap (λ t. option_map_or (λ object. word_in object (4096 * page + 8 * index)) (if t then Some (object_spelled r frames table o.1) else at (all_spelled r frames table os) (4096 * page + 8 * index)) 0) covered
    ∙ word-spelled r frames table page index os (All-tail (λ (o : ℕ × ObjectRow). IsObjectRow o.1) o os kept) within
    (sym (ap (λ t. t || list_any (λ row. is_page_in page row) (map (λ (o : ℕ × ObjectRow). o.1) os)) outside) ∙ has))
    (cases_Bool (is_page_in page o.1))

-- with another word of one page, an object has it if it has that page
object-set : (r r' : Image) (frames : ℕ) (table table' : List ℕ) (page index value : ℕ) (row : ObjectRow) → IsObjectRow row → index < 512
    → page_words r' frames table' page ≡ slice_set (page_words r frames table page) index value
    → ((other : ℕ) → other ≢ 0 → other ≢ page → page_words r' frames table' other ≡ page_words r frames table other)
    → object_spelled r' frames table' row
    ≡ (if covers row (4096 * page + 8 * index) then record (object_spelled r frames table row) { words = slice_set (object_spelled r frames table row).words ((4096 * page + 8 * index - row.base) / 8) value } else object_spelled r frames table row)
object-set r r' frames table table' page index value row is within this others = ⊎_elim inside outside (cases_Bool (is_page_in page row))
  where
    low : first_page ≤ page_of row
    low = is.place.low

    inside : is_page_in page row ≡ true
        → object_spelled r' frames table' row
        ≡ (if covers row (4096 * page + 8 * index) then record (object_spelled r frames table row) { words = slice_set (object_spelled r frames table row).words ((4096 * page + 8 * index - row.base) / 8) value } else object_spelled r frames table row)
    inside t =
        let parts = and_parts (nat_le (page_of row) page) (nat_lt page (page_behind row)) t in
        let from = leb-true (page_of row) page parts.0 in
        let to = ltb-true page (page_behind row) parts.1 in
        let here : page ≡ page_of row + (page - page_of row) = omega arith in
        let l = low in
        let words : pages_words r' frames table' (page_of row) row.pages ≡ slice_set (pages_words r frames table (page_of row) row.pages) (512 * (page - page_of row) + index) value =
        pages-set r r' frames frames table table' (page_of row) row.pages (page - page_of row) index value (omega arith) within
        (ap (page_words r' frames table') (sym here) ∙ this ∙ ap (λ p. slice_set (page_words r frames table p) index value) here)
        (λ other above below not. others other (λ nil. omega arith) (λ same. not (omega arith))) in
        ap (λ w. record { row = row; words = w }) (words ∙ ap (λ k. slice_set (pages_words r frames table (page_of row) row.pages) k value) (sym (place-in row page index is t)))
        ∙ sym (ap (λ b. if b then record { row = row; words = slice_set (pages_words r frames table (page_of row) row.pages) ((4096 * page + 8 * index - row.base) / 8) value } else object_spelled r frames table row) (covers-page row page index is within ∙ t))

    outside : is_page_in page row ≡ false
        → object_spelled r' frames table' row
        ≡ (if covers row (4096 * page + 8 * index) then record (object_spelled r frames table row) { words = slice_set (object_spelled r frames table row).words ((4096 * page + 8 * index - row.base) / 8) value } else object_spelled r frames table row)
    outside f =
        let l = low in
        ap (λ w. record { row = row; words = w })
        (pages-same r r' frames frames table table' (page_of row) row.pages
        (λ other above below. others other (λ nil. omega arith) (λ same. both_ways (is_page_in page row) f (and_from (nat_le (page_of row) page) (nat_lt page (page_behind row)) (le-leb (page_of row) page (omega arith)) (lt-ltb page (page_behind row) (omega arith))))))
        ∙ sym (ap (λ b. if b then record { row = row; words = slice_set (pages_words r frames table (page_of row) row.pages) ((4096 * page + 8 * index - row.base) / 8) value } else object_spelled r frames table row) (covers-page row page index is within ∙ f))

pub objects-set : (r r' : Image) (frames : ℕ) (table table' : List ℕ) (page index value : ℕ) (os : List (ℕ × ObjectRow)) → All (λ (o : ℕ × ObjectRow). IsObjectRow o.1) os → index < 512
    → page_words r' frames table' page ≡ slice_set (page_words r frames table page) index value
    → ((other : ℕ) → other ≢ 0 → other ≢ page → page_words r' frames table' other ≡ page_words r frames table other)
    → all_spelled r' frames table' os ≡ with_word (all_spelled r frames table os) (4096 * page + 8 * index) value
objects-set r r' frames table table' page index value [] kept within this others = refl
objects-set r r' frames table table' page index value (o ∷ os) kept within this others =
    ap (λ object. object ∷ all_spelled r' frames table' os) (object-set r r' frames table table' page index value o.1 (All-head (λ (o : ℕ × ObjectRow). IsObjectRow o.1) o os kept) within this others)
    ∙ ap (λ objects. (if covers o.1 (4096 * page + 8 * index) then record (object_spelled r frames table o.1) { words = slice_set (object_spelled r frames table o.1).words ((4096 * page + 8 * index - o.1.base) / 8) value } else object_spelled r frames table o.1) ∷ objects)
    (objects-set r r' frames table table' page index value os (All-tail (λ (o : ℕ × ObjectRow). IsObjectRow o.1) o os kept) within this others)
