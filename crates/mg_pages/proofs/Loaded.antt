-- Entries of a frame table that are bound one after another.
use Rattle.{mg_disk.specs.{Disk.{Image, block_at}, Stops.{CountGoes, WritesNothing}, declared.disk.Disk.Ghosts}, mg_frames.specs.Places.nowhere_any}
use Rattle.{mg_journal.specs.{Held.Store, Standing.Stands}, mg_model.specs.{Abbreviations.{table_of, whole_table}, Bytes.number_at}}
use Rattle.{mg_model.specs.{Layout.{table_block, table_blocks}, Tests.all_distinct, Volume.bound_pages}, mg_pages.proofs.Entries.entry-of}
use Rattle.mg_pages.{proofs.{Entries.length-entries, Places.place-of}, specs.Loading.{AreFreeFrom, AreLoaded, HasEntries, HoldFirstEntries}}
use Rattle.{mg_pages.specs.{Loading.{entry_bound, first_entry}, Meaning.replayed}, std.proofs.Common.{refl, sym, ap, ◌∙◌, ⊎_elim, inl, inr, arith}}
use Rattle.std.proofs.{Common.{get_or, subst}, lemmas.Bool.{and_parts, both_ways, cases_Bool, cases_eq, cases_lt, eq-eqb, eqb-false, eqb-true}}
use Rattle.std.proofs.lemmas.{Bool.{leb-false, leb-true, ne_eqb, not-true, or_left}, List.{ext_get_or, get_or-set_other, get_or-set_same}}
use Rattle.std.{proofs.lemmas.List.{get_or-take, length-set, length-take-le, Folds.{list_any_at, list_any_more}}, specs.List.list_any}
use Rattle.std.specs.{Option.{ForSome, option_map_or}, Prelude.{◌≡◌, ◌≢◌, ◌⊎◌, ◌+◌, ◌*◌, ◌≤◌, ◌<◌, ◌==◌, ◌||◌, nat_le, ℕ, zero, suc, Bool, true}}
use Rattle.std.specs.Prelude.{false, List, [], ◌∷◌, if◌then◌else◌, length, position, slice_set, take, Option, None, Some}

bound-free : (xs : List ℕ) (x : ℕ) → x ≡ 0 → bound_pages (x ∷ xs) ≡ bound_pages xs
bound-free xs x is = rw (eq-eqb x 0 is) refl

bound-page : (xs : List ℕ) (x : ℕ) → x ≢ 0 → bound_pages (x ∷ xs) ≡ x ∷ bound_pages xs
bound-page xs x some = rw (ne_eqb x 0 some) refl

-- a page that is in a place is one of those that are bound
page-any : (xs : List ℕ) (i page : ℕ) → page ≢ 0 → get_or xs i 0 ≡ page → list_any (λ y. page == y) (bound_pages xs) ≡ true
page-any [] i page some is = absurd (some (sym is))
page-any (x ∷ xs) zero page some is = grind (arith, bound-page, or_left, eq-eqb)
page-any (x ∷ xs) (suc i) page some is = grind (arith, (page-any xs i page some is))

distinct-parts : (xs : List ℕ) (x : ℕ) → all_distinct (x ∷ xs) ≡ true → (list_any (λ y. x == y) xs ≡ false) × (all_distinct xs ≡ true)
distinct-parts xs x is = grind (arith, and_parts, not-true)

rest-distinct : (x : ℕ) (xs : List ℕ) → all_distinct (bound_pages (x ∷ xs)) ≡ true → all_distinct (bound_pages xs) ≡ true
rest-distinct x xs distinct = grind arith

twice : (x : ℕ) (xs : List ℕ) (j page : ℕ) → all_distinct (bound_pages (x ∷ xs)) ≡ true → page ≢ 0 → x ≡ page → get_or xs j 0 ≡ page → ⊥
twice x xs j page distinct some at_x at_j = grind (arith, distinct-parts, bound-page, both_ways, page-any)

-- no page is in two places
one-place : (xs : List ℕ) (i j page : ℕ) → all_distinct (bound_pages xs) ≡ true → page ≢ 0 → get_or xs i 0 ≡ page → get_or xs j 0 ≡ page → i ≡ j
one-place [] i j page distinct some at_i at_j = absurd (some (sym at_i))
one-place (x ∷ xs) zero zero page distinct some at_i at_j = refl
one-place (x ∷ xs) zero (suc j) page distinct some at_i at_j = absurd (twice x xs j page distinct some at_i at_j)
one-place (x ∷ xs) (suc i) zero page distinct some at_i at_j = absurd (twice x xs i page distinct some at_j at_i)
one-place (x ∷ xs) (suc i) (suc j) page distinct some at_i at_j = ap suc (one-place xs i j page (rest-distinct x xs distinct) some at_i at_j)

-- one entry is taken
entry-cases : (P : List ℕ → Type 0) (frames : List ℕ) (i page : ℕ) → (length frames ≤ i → P frames) → (i < length frames → page ≡ 0 → P frames)
    → (i < length frames → page ≢ 0 → (f : ℕ) → position (λ entry. entry == page) frames ≡ Some f → P frames) → (i < length frames → page ≢ 0 → position (λ entry. entry == page) frames ≡ None → P (slice_set frames i page)) → P (entry_bound frames i page)
entry-cases P frames i page past free there new = by (nat_le (length frames) i) refl (page == 0) refl (position (λ entry. entry == page) frames) refl
  where
    by : (a : Bool) → nat_le (length frames) i ≡ a → (b : Bool) → (page == 0) ≡ b → (o : Option ℕ) → position (λ entry. entry == page) frames ≡ o
        → P (if a then frames else (if b then frames else option_map_or (λ bound. frames) o (slice_set frames i page)))
    by true e b z o is = past (leb-true (length frames) i e)
    by false e true z o is = free (leb-false (length frames) i e) (eqb-true page 0 z)
    by false e false z (Some f) is = there (leb-false (length frames) i e) (eqb-false page 0 z) f is
    by false e false z None is = new (leb-false (length frames) i e) (eqb-false page 0 z) is

entry-long : (frames : List ℕ) (i page : ℕ) → length (entry_bound frames i page) ≡ length frames
entry-long frames i page = entry-cases (λ new. length new ≡ length frames) frames i page (λ past. refl) (λ below none. refl) (λ below some f is. refl) (λ below some none. length-set frames i page)

entry-free : (frames : List ℕ) (i page : ℕ) → AreFreeFrom i frames → AreFreeFrom (i + 1) (entry_bound frames i page)
entry-free frames i page free = grind (arith, entry-cases, get_or-set_other)

-- what the first entry of a page is
module _ (table : List ℕ) (i : ℕ) where
  first-new : (page : ℕ) → page ≡ get_or table i 0 → list_any (λ entry. entry == page) (take i table) ≡ false → first_entry table i ≡ page
  first-new page is none = ap (λ p. if list_any (λ entry. entry == p) (take i table) then 0 else p) (sym is) ∙ ap (λ t. if t then 0 else page) none

  first-again : (page : ℕ) → page ≡ get_or table i 0 → list_any (λ entry. entry == page) (take i table) ≡ true → first_entry table i ≡ 0
  first-again page is some = ap (λ p. if list_any (λ entry. entry == p) (take i table) then 0 else p) (sym is) ∙ ap (λ t. if t then 0 else page) some

  first-free : get_or table i 0 ≡ 0 → first_entry table i ≡ 0
  first-free is = ap (λ p. if list_any (λ entry. entry == p) (take i table) then 0 else p) is ∙ either (list_any (λ entry. entry == 0) (take i table)) 0
    where
      either : (t : Bool) (n : ℕ) → (if t then n else n) ≡ n
      either true n = refl
      either false n = refl

  first-some : (page : ℕ) → first_entry table i ≡ page → page ≢ 0 → get_or table i 0 ≡ page
  first-some page is some = by (list_any (λ entry. entry == get_or table i 0) (take i table)) is
    where
      by : (t : Bool) → (if t then 0 else get_or table i 0) ≡ page → get_or table i 0 ≡ page
      by true e = absurd (some (sym e))
      by false e = e

-- the entry after the first ones has a page, or one of them
behind-first : (table : List ℕ) (page i : ℕ) → i < length table → list_any (λ entry. entry == page) (take (suc i) table) ≡ true
    → (list_any (λ entry. entry == page) (take i table) ≡ true) ⊎ ((list_any (λ entry. entry == page) (take i table) ≡ false) × (get_or table i 0 ≡ page))
behind-first table page i within is =
    let s : suc i ≡ i + 1 = omega arith in
    by (list_any (λ entry. entry == page) (take i table)) (sym (list_any_more (λ entry. entry == page) table i 0 within) ∙ sym (ap (λ k. list_any (λ entry. entry == page) (take k table)) s) ∙ is)
  where
    by : (t : Bool) → (t || get_or table i 0 == page) ≡ true → (t ≡ true) ⊎ ((t ≡ false) × (get_or table i 0 ≡ page))
    by true e = inl refl
    by false e = inr (refl, eqb-true (get_or table i 0) page e)

-- so a page that one of the first entries has is there
earlier-entry : (table : List ℕ) (page i : ℕ) → i ≤ length table → list_any (λ entry. entry == page) (take i table) ≡ true → (j : ℕ) × (j < i) × (get_or table j 0 ≡ page)
earlier-entry table page zero few is = absurd (cc)
earlier-entry table page (suc i) few is =
    ⊎_elim (λ earlier. let at = earlier-entry table page i (omega arith) earlier in let below = at.1 in (at.0, omega arith, at.2)) (λ here. (i, omega arith, here.1)) (behind-first table page i (omega arith) is)

-- and is bound
seen-bound : (table frames : List ℕ) (page i : ℕ) → page ≢ 0 → i ≤ length frames → length table ≡ length frames → AreLoaded table i frames → list_any (λ entry. entry == page) (take i table) ≡ true → list_any (λ entry. entry == page) frames ≡ true
seen-bound table frames page zero some few tall loaded is = absurd (cc)
seen-bound table frames page (suc i) some few tall loaded is =
    ⊎_elim (λ earlier. seen-bound table frames page i some (omega arith) tall (λ m before below. loaded m (omega arith) below) earlier)
    (λ here. list_any_at (λ entry. entry == page) frames i 0 (omega arith) (eq-eqb (get_or frames i 0) page (loaded i (omega arith) (omega arith) ∙ first-new table i page (sym here.1) here.0)))
    (behind-first table page i (omega arith) is)

entry-loaded : (table frames : List ℕ) (i page : ℕ) → length table ≡ length frames → (i < length frames → page ≡ get_or table i 0) → AreFreeFrom i frames → AreLoaded table i frames → AreLoaded table (i + 1) (entry_bound frames i page)
entry-loaded table frames i page tall page_is free loaded m before below =
    entry-cases (λ new. get_or new m 0 ≡ first_entry table m) frames i page
    (λ past. let w = within in loaded m (omega arith) w)
    (λ low none. ⊎_elim (λ earlier. loaded m earlier within) (λ here. still (omega arith) low (first-free table i (sym (page_is low) ∙ none))) (cases_lt m i))
    (λ low some f is. ⊎_elim (λ earlier. loaded m earlier within) (λ here. still (omega arith) low (first-again table i page (page_is low) (again low some f is))) (cases_lt m i))
    (λ low some none. ⊎_elim (λ earlier. get_or-set_other frames i m page 0 (λ is. absurd (omega arith)) ∙ loaded m earlier within) (λ here. let at : m ≡ i = omega arith in ap (λ k. get_or (slice_set frames i page) k 0) at ∙ get_or-set_same frames i page 0 low ∙ sym (first-new table i page (page_is low) (unseen low some none)) ∙ ap (first_entry table) (sym at)) (cases_lt m i))
  where
    within : m < length frames
    within = let e = entry-long frames i page in omega arith

    still : m ≡ i → i < length frames → first_entry table i ≡ 0 → get_or frames m 0 ≡ first_entry table m
    still at low none = ap (λ k. get_or frames k 0) at ∙ free i (omega arith) ∙ sym none ∙ ap (first_entry table) (sym at)

    again : i < length frames → page ≢ 0 → (f : ℕ) → position (λ entry. entry == page) frames ≡ Some f → list_any (λ entry. entry == page) (take i table) ≡ true
    again low some f is =
        let place = place-of frames page f is in
        ⊎_elim
        (λ earlier.
        let long = length-take-le i table (omega arith) in
        let at = first-some table f page (sym (loaded f earlier place.0) ∙ place.1) some in
        list_any_at (λ entry. entry == page) (take i table) f 0 (omega arith) (eq-eqb (get_or (take i table) f 0) page (get_or-take i table f 0 earlier ∙ at)))
        (λ later. absurd (some (sym place.1 ∙ free f later))) (cases_lt f i)

    unseen : i < length frames → page ≢ 0 → position (λ entry. entry == page) frames ≡ None → list_any (λ entry. entry == page) (take i table) ≡ false
    unseen low some none =
        ⊎_elim (λ is. absurd (both_ways (list_any (λ entry. entry == page) frames) (nowhere_any (λ entry. entry == page) frames none) (seen-bound table frames page i some (omega arith) tall loaded is))) (λ no. no)
        (cases_Bool (list_any (λ entry. entry == page) (take i table)))

-- when no page occurs twice, each entry is the first of its page
only-entry : (table : List ℕ) (i : ℕ) → i < length table → all_distinct (bound_pages table) ≡ true → first_entry table i ≡ get_or table i 0
only-entry table i within distinct = ⊎_elim again (λ none. ap (λ t. if t then 0 else get_or table i 0) none) (cases_Bool (list_any (λ entry. entry == get_or table i 0) (take i table)))
  where
    again : list_any (λ entry. entry == get_or table i 0) (take i table) ≡ true → first_entry table i ≡ get_or table i 0
    again is =
        let at = earlier-entry table (get_or table i 0) i (omega arith) is in
        let below = at.1 in
        ⊎_elim (λ free. first-free table i free ∙ sym free) (λ some. let same = one-place table at.0 i (get_or table i 0) distinct some at.2 refl in absurd (omega arith)) (cases_eq (get_or table i 0) 0)

-- the first entries of a block are taken
pub record AreBound (k j : ℕ) (bytes old now : List ℕ) : Type 0 where
  pub long : length now ≡ length old
  pub free : AreFreeFrom (512 * k + j) now
  pub loaded : (table : List ℕ) → length table ≡ length old → HasEntries table k bytes → AreLoaded table (512 * k) old → AreLoaded table (512 * k + j) now

pub bound-more : (k j page : ℕ) (bytes old now new : List ℕ) → j < 512 → page ≡ number_at bytes (8 * j) → new ≡ entry_bound now (512 * k + j) page → AreBound k j bytes old now → AreBound k (j + 1) bytes old new
bound-more k j page bytes old now new few page_is new_is are =
    let i = 512 * k + j in
    let many = are.long in
    let next : i + 1 ≡ 512 * k + (j + 1) = omega arith in
    subst (AreBound k (j + 1) bytes old) (sym new_is) record {
      long = entry-long now i page ∙ many;
      free = subst (λ n. AreFreeFrom n (entry_bound now i page)) next (entry-free now i page are.free);
      loaded = λ table tall has first. subst (λ n. AreLoaded table n (entry_bound now i page)) next (entry-loaded table now i page (tall ∙ sym many) (λ below. page_is ∙ has j few (omega arith)) are.free (are.loaded table tall has first));
    }

-- the first blocks of the table are read
pub record AreRead {D : Type 0} (facts : Ghosts D) (store : Store) (k : ℕ) (frames now : List ℕ) (old new : D) : Type 0 where
  pub long : length now ≡ length frames
  pub free : AreFreeFrom (512 * k) now
  pub loaded : ForSome (facts.seen old) (λ image. (table : List ℕ) → length table ≡ length frames → ((b : ℕ) → b < table_blocks (length frames) → HasEntries table b (block_at (replayed store.total image) (table_block + b))) → AreLoaded table (512 * k) now)
  pub stands : Stands facts store new
  pub writes : WritesNothing facts old new
  pub count : CountGoes facts old new
  pub blocks : facts.block_count new ≡ facts.block_count old

-- what was read is the table, as far as each page has its first entry there
module _ (r : Image) (frames now : List ℕ) (k : ℕ) (long : length now ≡ length frames) (all : k ≡ table_blocks (length frames))
    (loaded : (table : List ℕ) → length table ≡ length frames → ((b : ℕ) → b < table_blocks (length frames) → HasEntries table b (block_at r (table_block + b))) → AreLoaded table (512 * k) now) where
  abbrev n : ℕ
  n = length frames

  abbrev table : List ℕ
  table = table_of r n

  tall : length table ≡ n
  tall = let whole = length-entries r table_block (table_blocks n) in length-take-le n (whole_table r n) (omega arith)

  entries : (b : ℕ) → b < table_blocks n → HasEntries table b (block_at r (table_block + b))
  entries b few j low below = let e = tall in sym (get_or-take n (whole_table r n) (512 * b + j) 0 (omega arith) ∙ entry-of r table_block (table_blocks n) b j few low)

  pub loaded-first : HoldFirstEntries (table_of r (length frames)) now
  loaded-first i within = loaded table tall entries i (omega arith) within

  -- and the whole table, if no page occurs twice
  pub loaded-table : all_distinct (bound_pages (table_of r (length frames))) ≡ true → now ≡ table_of r (length frames)
  loaded-table distinct = let e = tall in ext_get_or 0 now table (long ∙ sym tall) (λ i within. loaded-first i within ∙ only-entry table i (omega arith) distinct)
