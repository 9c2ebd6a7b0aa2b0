-- Threads by their numbers: the rows of a table, each in its place, and the list of those that are there.
use Rattle.mg_model.specs.{Abbreviations.with_live, KeptListLemmas.{AllPairs-head, AllPairs-tail}, Limits.thread_limit, Ranges.IsThreadRow}
use Rattle.{mg_model.specs.State.ThreadRow, mg_objects.specs.Held.live_from, mg_volume.proofs.ObjectLists.{distinct_map, placed_distinct}}
use Rattle.mg_volume.{proofs.ThreadLists.numbered_set, specs.{Numbered.{AreByNumber, numbered, rows_with}, RowLists.{ArePlaced, DistinctBy}}}
use Rattle.{mg_volume.specs.RowLists.{placed_wider, row_at, row_before, row_set}, std.proofs.Common.{refl, sym, ap, get_or, subst, ◌∙◌, arith}}
use Rattle.std.proofs.{Common.length-set, lemmas.{Bool.Decides.nat_tests, List.{get_or-take, get_or_default, length-replicate, length-take}}}
use Rattle.std.proofs.lemmas.List.{take_more, length-map, Elements.{All-cons, All-head, All-nil, All-replicate, All-set, All-tail}}
use Rattle.std.specs.{Option.ForSome, Prelude.{◌≡◌, ◌+◌, ◌-◌, ◌≤◌, ◌<◌, ◌==◌, ℕ, zero, suc, All, AllPairs, List, [], ◌∷◌, ◌++◌, find, length}}
use Rattle.std.specs.Prelude.{option_map, replicate, slice_set, take, Option, Some, None}
use Rattle.mg_rules.specs.RowsRead as check

-- the rows that are there, in the order of their places
pub live-placed : {R : Type 0} (i : ℕ) (rows : List (Option R)) → ArePlaced i (i + length rows) (live_from i rows)
live-placed i [] = tt
live-placed i (None ∷ rows) = placed_wider (i + 1) i (i + 1 + length rows) (i + suc (length rows)) (live_from (i + 1) rows) (omega arith) (omega arith) (live-placed (i + 1) rows)
live-placed i (Some row ∷ rows) = (omega arith, omega arith, placed_wider (i + 1) (i + 1) (i + 1 + length rows) (i + suc (length rows)) (live_from (i + 1) rows) (omega arith) (omega arith) (live-placed (i + 1) rows))

pub live-at : {R : Type 0} (i : ℕ) (rows : List (Option R)) (k : ℕ) → row_at (i + k) (live_from i rows) ≡ get_or rows k None
live-at i [] k = refl
live-at i (None ∷ rows) zero = row_before (i + 1) (i + 1 + length rows) (i + zero) (live_from (i + 1) rows) (live-placed (i + 1) rows) (omega arith)
live-at i (Some row ∷ rows) zero = grind (arith, nat_tests)
live-at i (None ∷ rows) (suc k) = let e : i + suc k ≡ i + 1 + k = omega arith in grind (arith, live-at (i + 1) rows k)
live-at i (Some row ∷ rows) (suc k) = let e : i + suc k ≡ i + 1 + k = omega arith in grind (arith, nat_tests, live-at (i + 1) rows k)

-- with another one in a place, or none there
live-cons : {R : Type 0} (i : ℕ) (row : Option R) (rows : List (Option R)) → live_from i (row ∷ rows) ≡ with_live i row (live_from (i + 1) rows)
live-cons i None rows = refl
live-cons i (Some row) rows = refl

set-front : {R : Type 0} (low high p : ℕ) (new : Option R) (xs : List (ℕ × R)) → ArePlaced low high xs → p < low → row_set p new xs ≡ with_live p new xs
set-front low high p new [] placed before = refl
set-front low high p new ((j, r) ∷ xs) placed before = let above = placed.0 in grind (arith, nat_tests)

pub live-set : {R : Type 0} (i : ℕ) (rows : List (Option R)) (k : ℕ) (new : Option R) → k < length rows → live_from i (slice_set rows k new) ≡ row_set (i + k) new (live_from i rows)
live-set i [] k new under = absurd (omega arith)
live-set i (None ∷ rows) zero new under =
    let e : i ≡ i + zero = omega arith in
    live-cons i new rows ∙ ap (λ n. with_live n new (live_from (i + 1) rows)) e ∙ sym (set-front (i + 1) (i + 1 + length rows) (i + zero) new (live_from (i + 1) rows) (live-placed (i + 1) rows) (omega arith))
live-set i (Some r ∷ rows) zero new under = let e : i ≡ i + zero = omega arith in grind (arith, nat_tests, live-cons i new rows)
live-set i (None ∷ rows) (suc k) new under = let e : i + 1 + k ≡ i + suc k = omega arith in grind (arith, live-set (i + 1) rows k new (omega arith))
live-set i (Some r ∷ rows) (suc k) new under = let e : i + 1 + k ≡ i + suc k = omega arith in grind (arith, nat_tests, live-set (i + 1) rows k new (omega arith))

pub put_is : (rows : List (Option ThreadRow)) (t : ℕ) (new : Option ThreadRow) → 1 ≤ t → t ≤ length rows → numbered (live_from 0 (slice_set rows (t - 1) new)) ≡ rows_with t new (numbered (live_from 0 rows))
put_is rows t new some few =
    let here : 0 + (t - 1) ≡ t - 1 = omega arith in
    let number : t - 1 + 1 ≡ t = omega arith in
    ap numbered (live-set 0 rows (t - 1) new (omega arith) ∙ ap (λ n. row_set n new (live_from 0 rows)) here)
    ∙ numbered_set 0 (0 + length rows) (t - 1) new (live_from 0 rows) (live-placed 0 rows)
    ∙ ap (λ n. rows_with n new (numbered (live_from 0 rows))) number

pub put_held : (rows : List (Option ThreadRow)) (k : ℕ) (new : Option ThreadRow) → ForSome new IsThreadRow → AreByNumber rows → AreByNumber (slice_set rows k new)
put_held rows k new good held = record {
  long = length-set rows k new ∙ held.long;
  ranges = All-set (λ (row : Option ThreadRow). ForSome row IsThreadRow) rows k new good held.ranges;
}

-- no thread
live-none : (i n : ℕ) → live_from {R = ThreadRow} i (replicate n None) ≡ []
live-none i zero = refl
live-none i (suc n) = live-none (i + 1) n

pub none_is : (rows : List (Option ThreadRow)) → rows ≡ replicate 256 None → numbered (live_from 0 rows) ≡ []
none_is rows is = ap (λ xs. numbered (live_from 0 xs)) is ∙ ap numbered (live-none 0 256)

none-row : (x : ThreadRow) → None ≡ Some x → ⊥
none-row x is = cc

pub none_held : (rows : List (Option ThreadRow)) → rows ≡ replicate 256 None → AreByNumber rows
none_held rows is = record {
  long = ap length is ∙ (let l : length (replicate 256 free) ≡ 256 = length-replicate 256 free in l);
  ranges = let P : List (Option ThreadRow) → Type 0 = All (λ (row : Option ThreadRow). ForSome row IsThreadRow) in subst P (sym is) (All-replicate (λ (row : Option ThreadRow). ForSome row IsThreadRow) 256 None (λ x same. absurd (none-row x same)));
}
  where
    free : Option ThreadRow
    free = None

-- a thread by its number
pub find-number : (xs : List (ℕ × ThreadRow)) (k : ℕ) → option_map (λ (x : ℕ × ThreadRow). x.1) (find (λ (x : ℕ × ThreadRow). x.0 == k + 1) (numbered xs)) ≡ row_at k xs
find-number [] k = refl
find-number ((i, r) ∷ xs) k = grind (arith, nat_tests, find-number xs k)

pub thread_at : (rows : List (Option ThreadRow)) (t : ℕ) → 1 ≤ t → option_map (λ (x : ℕ × ThreadRow). x.1) (find (λ (x : ℕ × ThreadRow). x.0 == t) (numbered (live_from 0 rows))) ≡ get_or rows (t - 1) None
thread_at rows t some =
    let number : t ≡ t - 1 + 1 = omega arith in
    let here : t - 1 ≡ 0 + (t - 1) = omega arith in
    ap (λ n. option_map (λ (x : ℕ × ThreadRow). x.1) (find (λ (x : ℕ × ThreadRow). x.0 == n) (numbered (live_from 0 rows)))) number
    ∙ find-number (live_from 0 rows) (t - 1)
    ∙ ap (λ n. row_at n (live_from 0 rows)) here
    ∙ live-at 0 rows (t - 1)

pub thread_zero : (xs : List (ℕ × ThreadRow)) → option_map (λ (x : ℕ × ThreadRow). x.1) (find (λ (x : ℕ × ThreadRow). x.0 == 0) (numbered xs)) ≡ None
thread_zero [] = refl
thread_zero ((i, r) ∷ xs) = grind (arith, nat_tests, thread_zero xs)

-- how many there are, and their ranges
placed-few : {R : Type 0} (low high : ℕ) (xs : List (ℕ × R)) → ArePlaced low high xs → low ≤ high → length xs + low ≤ high
placed-few low high [] placed within = omega arith
placed-few low high ((i, r) ∷ xs) placed within = grind (arith, (placed-few (i + 1) high xs placed.2 (omega arith)))

pub few_are : (rows : List (Option ThreadRow)) → AreByNumber rows → length (numbered (live_from 0 rows)) ≤ 256
few_are rows held =
    let few = placed-few 0 (0 + length rows) (live_from 0 rows) (live-placed 0 rows) (omega arith) in
    let same = length-map {B = ℕ × ThreadRow} (live_from 0 rows) (λ (t : ℕ × ThreadRow). (t.0 + 1, t.1)) in
    let long = held.long in
    omega (arith, few, same, long)

live-ranges : (i : ℕ) (rows : List (Option ThreadRow)) → All (λ (row : Option ThreadRow). ForSome row IsThreadRow) rows → All (λ (t : ℕ × ThreadRow). IsThreadRow t.1) (numbered (live_from i rows))
live-ranges i [] all = All-nil (λ (t : ℕ × ThreadRow). IsThreadRow t.1)
live-ranges i (None ∷ rows) all = live-ranges (i + 1) rows (All-tail (λ (row : Option ThreadRow). ForSome row IsThreadRow) None rows all)
live-ranges i (Some row ∷ rows) all =
    All-cons (λ (t : ℕ × ThreadRow). IsThreadRow t.1) (i + 1, row) (numbered (live_from (i + 1) rows)) (All-head (λ (row : Option ThreadRow). ForSome row IsThreadRow) (Some row) rows all row refl)
    (live-ranges (i + 1) rows (All-tail (λ (row : Option ThreadRow). ForSome row IsThreadRow) (Some row) rows all))

pub ranges_are : (rows : List (Option ThreadRow)) → AreByNumber rows → All (λ (t : ℕ × ThreadRow). IsThreadRow t.1) (numbered (live_from 0 rows))
ranges_are rows held = live-ranges 0 rows held.ranges

-- no two have one number
pub apart_are : (rows : List (Option ThreadRow)) → DistinctBy (λ (t : ℕ × ThreadRow). t.0) (numbered (live_from 0 rows))
apart_are rows =
    distinct_map (λ (t : ℕ × ThreadRow). (t.0 + 1, t.1)) (λ (t : ℕ × ThreadRow). t.0) (λ (t : ℕ × ThreadRow). t.0) (λ x y same. omega arith) (live_from 0 rows) (placed_distinct 0 (0 + length rows) (live_from 0 rows) (live-placed 0 rows))

-- rows that come in the order of their places
set-behind : {R : Type 0} (p : ℕ) (row : R) (xs : List (ℕ × R)) → All (λ (x : ℕ × R). x.0 < p) xs → row_set p (Some row) xs ≡ xs ++ (p, row) ∷ []
set-behind p row [] low = refl
set-behind {R} p row ((i, r) ∷ xs) low =
    let here = All-head (λ (x : ℕ × R). x.0 < p) (i, r) xs low in
    grind (arith, nat_tests, set-behind p row xs (All-tail (λ (x : ℕ × R). x.0 < p) (i, r) xs low))

placed-rows : {R : Type 0} (low high : ℕ) (xs : List (ℕ × R)) → All (λ (x : ℕ × R). low ≤ x.0) xs → All (λ (x : ℕ × R). x.0 < high) xs → AllPairs (λ (x y : ℕ × R). x.0 < y.0) xs → ArePlaced low high xs
placed-rows low high [] from below rise = tt
placed-rows {R} low high ((i, r) ∷ xs) from below rise = (
  All-head (λ (x : ℕ × R). low ≤ x.0) (i, r) xs from,
  All-head (λ (x : ℕ × R). x.0 < high) (i, r) xs below,
  placed-rows (i + 1) high xs (λ k d under. let h = AllPairs-head (λ (x y : ℕ × R). x.0 < y.0) (i, r) xs rise k d under in omega arith) (All-tail (λ (x : ℕ × R). x.0 < high) (i, r) xs below)
      (AllPairs-tail (λ (x y : ℕ × R). x.0 < y.0) (i, r) xs rise),
)

pub next_row : (rows : List (ℕ × ThreadRow)) (i : ℕ) (o : ℕ × ThreadRow) → check.ArePlaced thread_limit rows → i < length rows → o ≡ get_or rows i o → rows_with (o.0 + 1) (Some o.1) (numbered (take i rows)) ≡ numbered (take (i + 1) rows)
next_row rows i o placed under at =
    sym (numbered_set 0 thread_limit o.0 (Some o.1) (take i rows) (placed-rows 0 thread_limit (take i rows) (λ k d few. omega arith) below rise))
    ∙ ap numbered (set-behind o.0 o.1 (take i rows) low ∙ ap (λ x. take i rows ++ x ∷ []) at ∙ sym (take_more rows i o under))
  where
    read : (k : ℕ) (d : ℕ × ThreadRow) → k < length (take i rows) → (k < i) × (k < length rows) × (get_or (take i rows) k d ≡ get_or rows k d)
    read k d few = let l = length-take i rows in (omega arith, omega arith, get_or-take i rows k d (omega arith))

    below : All (λ (x : ℕ × ThreadRow). x.0 < thread_limit) (take i rows)
    below k d few = let r = read k d few in let b = placed.below k d r.1 in let e = ap (λ (x : ℕ × ThreadRow). x.0) r.2 in omega arith

    low : All (λ (x : ℕ × ThreadRow). x.0 < o.0) (take i rows)
    low k d few =
        let r = read k d few in
        let before = placed.rise k i d r.0 under in
        let a = ap (λ (x : ℕ × ThreadRow). x.0) r.2 in
        let b = ap (λ (x : ℕ × ThreadRow). x.0) (at ∙ get_or_default rows i o d under) in
        omega arith

    rise : (j k : ℕ) (d : ℕ × ThreadRow) → j < k → k < length (take i rows) → (get_or (take i rows) j d).0 < (get_or (take i rows) k d).0
    rise j k d before few =
        let at_k = read k d few in
        let at_j = read j d (omega arith) in
        let up = placed.rise j k d before at_k.1 in
        let a = ap (λ (x : ℕ × ThreadRow). x.0) at_j.2 in
        let b = ap (λ (x : ℕ × ThreadRow). x.0) at_k.2 in
        omega arith
