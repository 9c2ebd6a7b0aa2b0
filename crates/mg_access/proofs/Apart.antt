-- Objects lie apart: the object with a base has each address of it.
use Rattle.{mg_access.specs.{FoundLemmas.found-passes, KnownLemmas.find-rows, Searching.words_based}, mg_model.specs.Abbreviations.word_in}
use Rattle.mg_model.specs.{Access.{at, based_at, covers}, Objects.{page_behind, page_of, word_at}, Ranges.IsPlace, RowTestLemmas.place-tells}
use Rattle.mg_model.specs.{State.{Object, ObjectRow}, Tests.{all_distinct, is_entry_of, is_object_row, is_password, is_place}, Volume.are_apart}
use Rattle.{mg_model.specs.declared.slots.Slot.Slot, mg_volume.specs.Meaning.is_page_in, std.proofs.Common.{ℕ, ◌+◌, ◌-◌, ◌*◌, ◌/◌, ◌<◌, ◌≤◌, ◌≡◌}}
use Rattle.std.proofs.Common.{◌==◌, ◌&&◌, not, Bool, true, false, List, [], ◌∷◌, length, if◌then◌else◌, Option, Some, None, refl, sym, ap, subst, ◌∙◌}
use Rattle.std.{proofs.{Common.arith, lemmas.Bool.{and_from, and_parts, eqb-true, leb-true, le-leb, lt-ltb, ltb-true}}, specs.List.list_all}
use Rattle.std.specs.{Option.option_map_or, Prelude.{find, map, nat_le, nat_lt, option_map, slice_index}}

-- the object after a row
pub found-object : (o : Option Object) (row : ObjectRow) → option_map (λ (o : Object). o.row) o ≡ Some row → (object : Object) × (o ≡ Some object) × (object.row ≡ row)
found-object None row h = cc
found-object (Some object) row h = let is : object.row ≡ row = cc in (object, refl, is)

pub found-none : (o : Option Object) → option_map (λ (o : Object). o.row) o ≡ None → o ≡ None
found-none None h = refl
found-none (Some object) h = cc

-- what is found passes what all pass
pub found-all : {X : Type 0} (test other : X → Bool) (xs : List X) (x : X) → list_all other xs ≡ true → find test xs ≡ Some x → other x ≡ true
found-all test other [] x all h = cc
found-all test other (y ∷ xs) x all h = let parts = and_parts (other y) (list_all other xs) all in by_test (test y) parts.0 (found-all test other xs x parts.1) h
  where
    by_test : (v : Bool) → other y ≡ true → (find test xs ≡ Some x → other x ≡ true) → (if v then Some y else find test xs) ≡ Some x → other x ≡ true
    by_test true here later h = let same : y ≡ x = cc in ap other (sym same) ∙ here
    by_test false here later h = later h

first_of : (a b c d e : Bool) → (a && b && c && d && e) ≡ true → a ≡ true
first_of true b c d e h = refl
first_of false b c d e h = cc

pub row-place : (row : ObjectRow) → is_object_row row ≡ true → IsPlace row.base row.pages
row-place row keeps =
    place-tells row.base row.pages
    (first_of (is_place row.base row.pages) (nat_le 1 row.account && nat_le row.account 1024) (nat_le (length row.passwords) 32 && list_all is_password row.passwords)
    (nat_le (length row.entries) 16 && list_all (is_entry_of row.base row.pages) row.entries && all_distinct row.entries) (option_map_or (λ (slot : Slot). not (slot.base == 0)) row.extension true) keeps)

-- an object that is found after others lies after them
behind-first : (o : Object) (objects : List Object) (base : ℕ) (object : Object) → are_apart (o ∷ objects) ≡ true → based_at objects base ≡ Some object → page_behind o.row ≤ page_of object.row
behind-first o [] base object apart h = cc
behind-first o (next ∷ objects) base object apart h =
    let parts = and_parts (nat_le (page_behind o.row) (page_of next.row)) (are_apart (next ∷ objects)) apart in
    by_base (next.row.base == base) (leb-true (page_behind o.row) (page_of next.row) parts.0) (behind-first next objects base object parts.1) h
  where
    by_base : (v : Bool) → page_behind o.row ≤ page_of next.row → (based_at objects base ≡ Some object → page_behind next.row ≤ page_of object.row)
        → (if v then Some next else based_at objects base) ≡ Some object → page_behind o.row ≤ page_of object.row
    by_base true near later h = let same : next ≡ object = cc in subst (λ (x : Object). page_behind o.row ≤ page_of x.row) same near
    by_base false near later h = let far = later h in omega arith

later-apart : (o : Object) (objects : List Object) → are_apart (o ∷ objects) ≡ true → are_apart objects ≡ true
later-apart o [] apart = refl
later-apart o (next ∷ objects) apart = (and_parts (nat_le (page_behind o.row) (page_of next.row)) (are_apart (next ∷ objects)) apart).1

-- the object with a base has each of its addresses
at-based : (objects : List Object) → are_apart objects ≡ true → list_all is_object_row (map (λ (o : Object). o.row) objects) ≡ true
    → (base address : ℕ) (object : Object) → based_at objects base ≡ Some object → covers object.row address ≡ true → at objects address ≡ Some object
at-based [] apart kept base address object h inside = cc
at-based (o ∷ objects) apart kept base address object h inside =
    let parts = and_parts (is_object_row o.row) (list_all is_object_row (map (λ (o : Object). o.row) objects)) kept in
    by_base (o.row.base == base) h (behind-first o objects base object apart) (row-place o.row parts.0)
    (at-based objects (later-apart o objects apart) parts.1 base address object)
  where
    by_cover : (v : Bool) → covers o.row address ≡ v → page_behind o.row ≤ page_of object.row → IsPlace o.row.base o.row.pages → at objects address ≡ Some object → (if v then Some o else at objects address) ≡ Some object
    by_cover true is near place later =
        let mine = and_parts (nat_le o.row.base address) (nat_lt address (o.row.base + 4096 * o.row.pages)) is in
        let other = and_parts (nat_le object.row.base address) (nat_lt address (object.row.base + 4096 * object.row.pages)) inside in
        let below = ltb-true address (o.row.base + 4096 * o.row.pages) mine.1 in
        let above = leb-true object.row.base address other.0 in
        let aligned = place.aligned in
        absurd (omega arith)
    by_cover false is near place later = later

    by_base : (v : Bool) → (if v then Some o else based_at objects base) ≡ Some object → (based_at objects base ≡ Some object → page_behind o.row ≤ page_of object.row) → IsPlace o.row.base o.row.pages
        → (based_at objects base ≡ Some object → covers object.row address ≡ true → at objects address ≡ Some object) → at (o ∷ objects) address ≡ Some object
    by_base true h near place later =
        let same : o ≡ object = cc in
        let covered : covers o.row address ≡ true = ap (λ (x : Object). covers x.row address) same ∙ inside in
        ap (λ v. if v then Some o else at objects address) covered ∙ ap Some same
    by_base false h near place later = by_cover (covers o.row address) refl (near h) place (later h inside)

-- a row that is found by a base has it
pub found-based : (rows : List ObjectRow) (base : ℕ) (row : ObjectRow) → find (λ (r : ObjectRow). r.base == base) rows ≡ Some row → row.base ≡ base
found-based rows base row h = eqb-true row.base base (found-passes (λ (r : ObjectRow). r.base == base) rows row h)

-- the word of a first page, by its address and by its place
pub word-based : (objects : List Object) → are_apart objects ≡ true → list_all is_object_row (map (λ (o : Object). o.row) objects) ≡ true
    → (row : ObjectRow) (base : ℕ) → find (λ (r : ObjectRow). r.base == base) (map (λ (o : Object). o.row) objects) ≡ Some row → (index : ℕ) → index < 512
    → word_at objects (4096 * (base / 4096) + 8 * index) ≡ slice_index (words_based objects base) index
word-based objects apart kept row base held index few =
    let (object, is, same) = found-object (based_at objects base) row (sym (find-rows (λ (r : ObjectRow). r.base == base) objects) ∙ held) in
    let own = found-based (map (λ (o : Object). o.row) objects) base row held in
    let place = row-place row (found-all (λ (r : ObjectRow). r.base == base) is_object_row (map (λ (o : Object). o.row) objects) row kept held) in
    let aligned = place.aligned in
    let some = place.some in
    let address : 4096 * (base / 4096) + 8 * index ≡ base + 8 * index = omega arith in
    let covered : covers row (base + 8 * index) ≡ true =
    and_from (nat_le row.base (base + 8 * index)) (nat_lt (base + 8 * index) (row.base + 4096 * row.pages)) (le-leb row.base (base + 8 * index) (omega arith)) (lt-ltb (base + 8 * index) (row.base + 4096 * row.pages) (omega arith)) in
    let there = at-based objects apart kept base (base + 8 * index) object is (ap (λ (r : ObjectRow). covers r (base + 8 * index)) same ∙ covered) in
    let spot : (base + 8 * index - row.base) / 8 ≡ index = omega arith in
    ap (λ a. word_at objects a) address
    ∙ ap (λ (o : Option Object). option_map_or (λ (x : Object). word_in x (base + 8 * index)) o 0) there
    ∙ ap (λ (r : ObjectRow). slice_index object.words ((base + 8 * index - r.base) / 8)) same
    ∙ ap (λ i. slice_index object.words i) spot
    ∙ ap (λ (o : Option Object). slice_index (option_map_or (λ (x : Object). x.words) o []) index) (sym is)

-- the first page of an object
pub first-page-in : (row : ObjectRow) (base : ℕ) → base ≡ row.base → IsPlace row.base row.pages → is_page_in (base / 4096) row ≡ true
first-page-in row base is place =
    let some = place.some in
    and_from (nat_le (row.base / 4096) (base / 4096)) (nat_lt (base / 4096) (row.base / 4096 + row.pages)) (le-leb (row.base / 4096) (base / 4096) (omega arith)) (lt-ltb (base / 4096) (row.base / 4096 + row.pages) (omega arith))
