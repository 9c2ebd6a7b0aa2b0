-- Threads with their numbers, as a list.
use Rattle.{mg_model.specs.{Abbreviations.with_live, State.{Thread, ThreadRow}, Threads.with_new_thread}, mg_volume.proofs.Found.as_thread}
use Rattle.mg_volume.{proofs.ObjectRemoved.filter_mapped, specs.{Numbered.{has_number, into_number, numbered, rows_with}, RowLists.ArePlaced}}
use Rattle.{mg_volume.specs.{RowLists.{placed_wider, row_set}, Staging.threads_with}, std.proofs.Common.{refl, sym, ap, ⊎_elim, arith}}
use Rattle.std.{proofs.lemmas.Bool.{cases_eq, cases_lt, Decides.nat_tests}, specs.{List.list_any, Prelude.{◌≡◌, ◌+◌, ◌<◌, ◌==◌, ◌||◌, ℕ, false, not}}}
use Rattle.std.specs.Prelude.{List, [], ◌∷◌, filter, if◌then◌else◌, map, Option, Some, None}

-- as threads of the machine
pub any-mapped : (t : ℕ) (rows : List (ℕ × ThreadRow)) → has_number t rows ≡ list_any (λ (thread : Thread). thread.number == t) (map as_thread rows)
any-mapped t [] = refl
any-mapped t (x ∷ rows) = ap (λ b. (x.0 == t) || b) (any-mapped t rows)

change-mapped : (t : ℕ) (row : ThreadRow) (rows : List (ℕ × ThreadRow))
    → map as_thread (map (λ (x : ℕ × ThreadRow). if x.0 == t then (x.0, row) else x) rows) ≡ map (λ (thread : Thread). if thread.number == t then record thread { row = row } else thread) (map as_thread rows)
change-mapped t row [] = refl
change-mapped t row (x ∷ rows) = grind (arith, change-mapped t row rows)

into-mapped : (new : ℕ × ThreadRow) (rows : List (ℕ × ThreadRow)) → map as_thread (into_number new rows) ≡ with_new_thread (as_thread new) (map as_thread rows)
into-mapped new [] = refl
into-mapped new (x ∷ rows) = grind (arith, into-mapped new rows)

pub threads_mapped : (t : ℕ) (new : Option ThreadRow) (rows : List (ℕ × ThreadRow)) → map as_thread (rows_with t new rows) ≡ threads_with t new (map as_thread rows)
threads_mapped t None rows = filter_mapped as_thread (λ (thread : Thread). not (thread.number == t)) rows
threads_mapped t (Some row) rows = grind (arith, any-mapped t rows, change-mapped t row rows, into-mapped (t, row) rows)

-- when the numbers are the places of rows, each after the one before
none-number : (low high p : ℕ) (rows : List (ℕ × ThreadRow)) → ArePlaced low high rows → p < low → has_number (p + 1) (numbered rows) ≡ false
none-number low high p [] placed before = refl
none-number low high p ((i, r) ∷ rows) placed before = let above = placed.0 in grind (arith, nat_tests, none-number (i + 1) high p rows placed.2 (omega arith))

filter-none : (t : ℕ) (rows : List (ℕ × ThreadRow)) → has_number t rows ≡ false → filter (λ (x : ℕ × ThreadRow). not (x.0 == t)) rows ≡ rows
filter-none t [] absent = refl
filter-none t (x ∷ rows) absent = grind (arith, absent, filter-none t rows)

change-none : (t : ℕ) (row : ThreadRow) (rows : List (ℕ × ThreadRow)) → has_number t rows ≡ false → map (λ (x : ℕ × ThreadRow). if x.0 == t then (x.0, row) else x) rows ≡ rows
change-none t row [] absent = refl
change-none t row (x ∷ rows) absent = grind (arith, absent, change-none t row rows)

into-first : (low high p : ℕ) (row : ThreadRow) (rows : List (ℕ × ThreadRow)) → ArePlaced low high rows → p < low → into_number (p + 1, row) (numbered rows) ≡ (p + 1, row) ∷ numbered rows
into-first low high p row [] placed before = refl
into-first low high p row ((i, r) ∷ rows) placed before = let above = placed.0 in grind (arith, nat_tests)

-- added in front of the rows that follow
with-first : (low high p : ℕ) (new : Option ThreadRow) (rows : List (ℕ × ThreadRow)) → ArePlaced low high rows → p < low → numbered (with_live p new rows) ≡ rows_with (p + 1) new (numbered rows)
with-first low high p None rows placed before = sym (filter-none (p + 1) (numbered rows) (none-number low high p rows placed before))
with-first low high p (Some row) rows placed before = grind (arith, none-number low high p rows placed before, into-first low high p row rows placed before)

-- in place of the first
with-same : (high p : ℕ) (r : ThreadRow) (new : Option ThreadRow) (rows : List (ℕ × ThreadRow)) → ArePlaced (p + 1) high rows → numbered (with_live p new rows) ≡ rows_with (p + 1) new ((p + 1, r) ∷ numbered rows)
with-same high p r None rows placed = grind (arith, nat_tests, filter-none (p + 1) (numbered rows) (none-number (p + 1) high p rows placed (omega arith)))
with-same high p r (Some row) rows placed = grind (arith, nat_tests, change-none (p + 1) row (numbered rows) (none-number (p + 1) high p rows placed (omega arith)))

-- after the first
with-behind : (p i : ℕ) (r : ThreadRow) (new : Option ThreadRow) (rows : List (ℕ × ThreadRow)) → i < p → rows_with (p + 1) new ((i + 1, r) ∷ numbered rows) ≡ (i + 1, r) ∷ rows_with (p + 1) new (numbered rows)
with-behind p i r None rows before = grind (arith, nat_tests)
with-behind p i r (Some row) rows before = grind (arith, nat_tests)

pub numbered_set : (low high p : ℕ) (new : Option ThreadRow) (rows : List (ℕ × ThreadRow)) → ArePlaced low high rows → numbered (row_set p new rows) ≡ rows_with (p + 1) new (numbered rows)
numbered_set low high p new [] placed = with-first (p + 1) high p new [] tt (omega arith)
numbered_set low high p new ((i, r) ∷ rows) placed =
    ⊎_elim
    (λ (before : p < i). let first = with-first i high p new ((i, r) ∷ rows) (omega arith, placed.1, placed.2) before in grind (arith, nat_tests))
    (λ behind.
    ⊎_elim
    (λ (same : p ≡ i).
    let here = with-same high p r new rows (placed_wider (i + 1) (p + 1) high high rows (omega arith) refl placed.2) in
    grind (arith, nat_tests))
    (λ other.
    let rest = numbered_set (i + 1) high p new rows placed.2 in
    let past = with-behind p i r new rows (omega arith) in
    grind (arith, nat_tests))
    (cases_eq p i))
    (cases_lt p i)
