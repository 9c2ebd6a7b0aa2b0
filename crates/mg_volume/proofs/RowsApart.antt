-- Objects that lie apart, in the order of their bases.
use Rattle.{mg_model.specs.{Objects.{page_behind, page_of}, Ranges.IsObjectRow, State.ObjectRow}, mg_volume.specs.{Held.VolumeHeld, Meaning.IsKept}}
use Rattle.mg_volume.specs.{Meaning.{is_page_in, objects_in, rows_apart}, Staging.{MayChange, has_base, is_apart_from, with_new_row}}
use Rattle.std.proofs.{Common.{refl, ap, subst, ⊎_elim, inl, inr, arith}, lemmas.Bool.{and_from, and_parts, cases_Bool, le-leb, leb-true, or_cases}}
use Rattle.std.proofs.lemmas.{Bool.{or_left, or_right, cond_both, Decides.nat_tests}, List.Elements.{All-cons, All-head, All-map, All-nil, All-tail}}
use Rattle.std.{proofs.lemmas.List.Elements.All-weaker, specs.{List.list_any, Prelude.{◌≡◌, ◌≢◌, ◌≤◌, ◌<◌, ◌/◌, ◌⊎◌, ◌==◌, ◌||◌, nat_le, nat_lt, ℕ}}}
use Rattle.std.specs.Prelude.{true, false, All, List, [], ◌∷◌, find, if◌then◌else◌, IsSomeAnd, Some}

-- the rows that a volume holds keep their ranges
pub kept_rows : (v : VolumeHeld) → IsKept v → All IsObjectRow (objects_in v)
unfolding objects_in
kept_rows v kept = All-map IsObjectRow (λ (o : ℕ × ObjectRow). o.1) v.objects kept.rows

-- of the rows after the first
pub apart_tail : (row : ObjectRow) (rows : List ObjectRow) → rows_apart (row ∷ rows) ≡ true → rows_apart rows ≡ true
apart_tail row [] apart = refl
apart_tail row (next ∷ rows) apart = grind (arith, apart)

-- the first lies before all of them
pub apart_first : (row : ObjectRow) (rows : List ObjectRow) → rows_apart (row ∷ rows) ≡ true → All IsObjectRow rows → All (λ other. page_behind row ≤ page_of other) rows
apart_first row [] apart kept = All-nil (λ (other : ObjectRow). page_behind row ≤ page_of other)
apart_first row (next ∷ rows) apart kept =
    let parts = and_parts (nat_le (page_behind row) (page_of next)) (rows_apart (next ∷ rows)) apart in
    let here = leb-true (page_behind row) (page_of next) parts.0 in
    All-cons (λ other. page_behind row ≤ page_of other) next rows here
    (All-weaker (λ other. page_behind next ≤ page_of other) (λ other. page_behind row ≤ page_of other) (λ other more. omega arith) rows (apart_first next rows parts.1 (All-tail IsObjectRow next rows kept)))

-- and the other way
pub apart_from : (row : ObjectRow) (rows : List ObjectRow) → All (λ other. page_behind row ≤ page_of other) rows → rows_apart rows ≡ true → rows_apart (row ∷ rows) ≡ true
apart_from row [] before apart = refl
apart_from row (next ∷ rows) before apart = grind (arith, and_from, le-leb, All-head)

-- a row that is added before the next one, or after it
pub new_row_cases : (F : List ObjectRow → Type 0) (new row : ObjectRow) (rows : List ObjectRow) → (new.base < row.base → F (new ∷ row ∷ rows)) → (row.base ≤ new.base → F (row ∷ with_new_row new rows)) → F (with_new_row new (row ∷ rows))
new_row_cases F new row rows before behind = cond_both (nat_lt new.base row.base) (new ∷ row ∷ rows) (row ∷ with_new_row new rows) F (λ t. before (grind (arith, nat_tests, t))) (λ f. behind (grind (arith, nat_tests, f)))

pub new_row_all : (P : ObjectRow → Type 0) (new : ObjectRow) (rows : List ObjectRow) → P new → All P rows → All P (with_new_row new rows)
new_row_all P new [] here all = All-cons P new [] here all
new_row_all P new (row ∷ rows) here all =
    grind (arith, (new_row_all P new rows here (All-tail P row rows all)), new_row_cases, All-cons, All-head, All-tail)

-- one that meets none of them
module _ (new : ObjectRow) (is : IsObjectRow new) where
  other-apart : (row : ObjectRow) (rows : List ObjectRow) → is_apart_from (row ∷ rows) new ≡ true → ((nat_le (page_behind new) (page_of row) || nat_le (page_behind row) (page_of new)) ≡ true) × (is_apart_from rows new ≡ true)
  other-apart row rows apart = and_parts (nat_le (page_behind new) (page_of row) || nat_le (page_behind row) (page_of new)) (is_apart_from rows new) apart

  before-or-behind : (row : ObjectRow) → (nat_le (page_behind new) (page_of row) || nat_le (page_behind row) (page_of new)) ≡ true → (page_behind new ≤ page_of row) ⊎ (page_behind row ≤ page_of new)
  before-or-behind row apart = ⊎_elim (λ before. inl (leb-true (page_behind new) (page_of row) before)) (λ behind. inr (leb-true (page_behind row) (page_of new) behind)) (or_cases (nat_le (page_behind new) (page_of row)) (nat_le (page_behind row) (page_of new)) apart)

  -- lies apart in the order of the bases too
  pub apart_with : (rows : List ObjectRow) → All IsObjectRow rows → is_apart_from rows new ≡ true → rows_apart rows ≡ true → rows_apart (with_new_row new rows) ≡ true
  apart_with [] kept apart all = refl
  apart_with (row ∷ rows) kept apart all =
      let some_new = is.place.some in
      let some_row = (All-head IsObjectRow row rows kept).place.some in
      let rest = All-tail IsObjectRow row rows kept in
      let parts = other-apart row rows apart in
      let side = before-or-behind row parts.0 in
      let more = apart_with rows rest parts.1 (apart_tail row rows all) in
      new_row_cases (λ l. rows_apart l ≡ true) new row rows
      (λ low.
      let before : page_behind new ≤ page_of row = ⊎_elim (λ before. before) (λ behind. absurd (omega arith)) side in
      and_from (nat_le (page_behind new) (page_of row)) (rows_apart (row ∷ rows)) (le-leb (page_behind new) (page_of row) before) all)
      (λ high.
      let behind : page_behind row ≤ page_of new = ⊎_elim (λ before. absurd (omega arith)) (λ behind. behind) side in
      apart_from row (with_new_row new rows) (new_row_all (λ other. page_behind row ≤ page_of other) new rows behind (apart_first row rows all rest)) more)

  -- has a base of its own
  pub base_apart : (rows : List ObjectRow) → All IsObjectRow rows → is_apart_from rows new ≡ true → All (λ row. row.base ≢ new.base) rows
  base_apart [] kept apart = All-nil (λ (row : ObjectRow). row.base ≢ new.base)
  base_apart (row ∷ rows) kept apart =
      let some_new = is.place.some in
      let some_row = (All-head IsObjectRow row rows kept).place.some in
      let parts = other-apart row rows apart in
      let side = before-or-behind row parts.0 in
      All-cons (λ row. row.base ≢ new.base) row rows
      (λ same. (let page : page_of row ≡ page_of new = ap (λ b. b / 4096) same in ⊎_elim (λ before. omega arith) (λ behind. omega arith) side))
      (base_apart rows (All-tail IsObjectRow row rows kept) parts.1)

  -- and pages of its own
  pub page_apart : (rows : List ObjectRow) (page : ℕ) → is_apart_from rows new ≡ true → is_page_in page new ≡ true → list_any (λ row. is_page_in page row) rows ≡ false
  page_apart [] page apart inside = refl
  page_apart (row ∷ rows) page apart inside = grind (arith, nat_tests, apart, inside, page_apart rows page)

-- when no row has a base
pub no_base : (base : ℕ) (rows : List ObjectRow) → All (λ row. row.base ≢ base) rows → has_base base rows ≡ false
no_base base [] none = refl
no_base base (row ∷ rows) none = grind (arith, nat_tests, All-head (λ row. row.base ≢ base) row rows none, no_base base rows (All-tail (λ row. row.base ≢ base) row rows none))

-- what may change is there
pub changes_there : (rows : List ObjectRow) (row : ObjectRow) → MayChange rows row → has_base row.base rows ≡ true
changes_there [] row change = absurd change
changes_there (other ∷ rows) row change =
    ⊎_elim (λ here. or_left (other.base == row.base) (has_base row.base rows) here)
    (λ elsewhere.
    or_right (other.base == row.base) (has_base row.base rows)
    (changes_there rows row (subst (λ b. IsSomeAnd (if b then Some other else find (λ (old : ObjectRow). old.base == row.base) rows) (λ old. old.pages ≡ row.pages)) elsewhere change)))
    (cases_Bool (other.base == row.base))
