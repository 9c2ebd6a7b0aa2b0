-- Objects as they are held, in the order of their bases, and their rows in the order of their places.
use Rattle.{mg_model.specs.State.ObjectRow, mg_objects.specs.Held.{by_base, into_place}, mg_volume.specs.RowLists.{ArePlaced, DistinctBy, row_at}}
use Rattle.{mg_volume.specs.RowLists.{row_before, row_set}, std.proofs.{Common.{refl, sym, ap, ◌∙◌, ⊎_elim, arith}, lemmas.Bool.{cases_eq, cases_lt}}}
use Rattle.std.proofs.lemmas.{Bool.{le-ltb, lt-ltb, Decides.nat_tests}, List.Elements.{All-cons, All-head, All-map, All-nil, All-tail, All-weaker}}
use Rattle.std.specs.Prelude.{◌≡◌, ◌≢◌, ◌+◌, ◌<◌, ◌==◌, ℕ, All, List, [], ◌∷◌, if◌then◌else◌, map, Some, None, ◌≤◌}

-- a change of one that is not there
pub change-none : {X : Type 0} (key : X → ℕ) (h : X → X) (k : ℕ) (xs : List X) → All (λ y. key y ≢ k) xs → map (λ y. if key y == k then h y else y) xs ≡ xs
change-none key h k [] absent = refl
change-none key h k (x ∷ xs) absent = grind (arith, nat_tests, All-head (λ y. key y ≢ k) x xs absent, change-none key h k xs (All-tail (λ y. key y ≢ k) x xs absent))

-- places in order are distinct
pub placed-none : {R : Type 0} (low high j : ℕ) (rows : List (ℕ × R)) → ArePlaced low high rows → j < low → All (λ (y : ℕ × R). y.0 ≢ j) rows
placed-none {R} low high j [] placed before = All-nil (λ (y : ℕ × R). y.0 ≢ j)
placed-none {R} low high j ((i, r) ∷ rows) placed before = grind (arith, (placed-none (i + 1) high j rows placed.2 (omega arith)))

pub placed_distinct : {R : Type 0} (low high : ℕ) (rows : List (ℕ × R)) → ArePlaced low high rows → DistinctBy (λ (y : ℕ × R). y.0) rows
placed_distinct low high [] placed = tt
placed_distinct low high ((i, r) ∷ rows) placed = (placed-none (i + 1) high i rows placed.2 (omega arith), placed_distinct (i + 1) high rows placed.2)

-- what differs by a key differs by a key that determines it
pub distinct_map : {X Y : Type 0} (f : X → Y) (key : X → ℕ) (key' : Y → ℕ) → ((x y : X) → key' (f y) ≡ key' (f x) → key y ≡ key x) → (xs : List X) → DistinctBy key xs → DistinctBy key' (map f xs)
distinct_map f key key' tells [] distinct = tt
distinct_map f key key' tells (x ∷ xs) distinct = (
  All-map (λ z. key' z ≢ key' (f x)) f xs (All-weaker (λ y. key y ≢ key x) (λ y. key' (f y) ≢ key' (f x)) (λ y differs same. differs (tells x y same)) xs distinct.0),
  distinct_map f key key' tells xs distinct.1,
)

-- in the order of the bases
pub place-cases : (F : List (ℕ × ObjectRow) → Type 0) (new o : ℕ × ObjectRow) (os : List (ℕ × ObjectRow)) → (new.1.base < o.1.base → F (new ∷ o ∷ os)) → (o.1.base ≤ new.1.base → F (o ∷ into_place new os)) → F (into_place new (o ∷ os))
place-cases F new o os before behind = grind (arith, lt-ltb, le-ltb, cases_lt)

pub into-all : (P : ℕ × ObjectRow → Type 0) (o : ℕ × ObjectRow) (os : List (ℕ × ObjectRow)) → P o → All P os → All P (into_place o os)
into-all P o [] here all = All-cons P o [] here (All-nil P)
into-all P o (x ∷ os) here all = grind (arith, (into-all P o os here (All-tail P x os all)), place-cases, All-cons, All-head, All-tail)

pub by_base_all : (P : ℕ × ObjectRow → Type 0) (rows : List (ℕ × ObjectRow)) → All P rows → All P (by_base rows)
by_base_all P [] all = all
by_base_all P (o ∷ rows) all = into-all P o (by_base rows) (All-head P o rows all) (by_base_all P rows (All-tail P o rows all))

into-distinct : (o : ℕ × ObjectRow) (os : List (ℕ × ObjectRow)) → All (λ (y : ℕ × ObjectRow). y.0 ≢ o.0) os → DistinctBy (λ (y : ℕ × ObjectRow). y.0) os → DistinctBy (λ (y : ℕ × ObjectRow). y.0) (into_place o os)
into-distinct o [] absent distinct = (All-nil (λ (y : ℕ × ObjectRow). y.0 ≢ o.0), tt)
into-distinct o (x ∷ os) absent distinct =
    let other = All-head (λ (y : ℕ × ObjectRow). y.0 ≢ o.0) x os absent in
    place-cases (DistinctBy (λ (y : ℕ × ObjectRow). y.0)) o x os (λ low. (absent, distinct))
    (λ high. (into-all (λ (y : ℕ × ObjectRow). y.0 ≢ x.0) o os (λ is. other (sym is)) distinct.0, into-distinct o os (All-tail (λ (y : ℕ × ObjectRow). y.0 ≢ o.0) x os absent) distinct.1))

pub by_base_distinct : (rows : List (ℕ × ObjectRow)) → DistinctBy (λ (y : ℕ × ObjectRow). y.0) rows → DistinctBy (λ (y : ℕ × ObjectRow). y.0) (by_base rows)
by_base_distinct [] distinct = distinct
by_base_distinct (o ∷ rows) distinct = into-distinct o (by_base rows) (by_base_all (λ (y : ℕ × ObjectRow). y.0 ≢ o.0) rows distinct.0) (by_base_distinct rows distinct.1)

-- a row is found in either order
into-row : (j : ℕ) (o : ℕ × ObjectRow) (os : List (ℕ × ObjectRow)) → All (λ (y : ℕ × ObjectRow). y.0 ≢ o.0) os → row_at j (into_place o os) ≡ row_at j (o ∷ os)
into-row j o [] absent = refl
into-row j o (x ∷ os) absent =
    let other = All-head (λ (y : ℕ × ObjectRow). y.0 ≢ o.0) x os absent in
    grind (arith, nat_tests, other, into-row j o os (All-tail (λ (y : ℕ × ObjectRow). y.0 ≢ o.0) x os absent))

pub by_base_row : (j : ℕ) (rows : List (ℕ × ObjectRow)) → DistinctBy (λ (y : ℕ × ObjectRow). y.0) rows → row_at j (by_base rows) ≡ row_at j rows
by_base_row j [] distinct = refl
by_base_row j (o ∷ rows) distinct =
    into-row j o (by_base rows) (by_base_all (λ (y : ℕ × ObjectRow). y.0 ≢ o.0) rows distinct.0)
    ∙ ap (λ r. if o.0 == j then Some o.1 else r) (by_base_row j rows distinct.1)

-- another row at a place that has one
abbrev pub put_at : ℕ → ObjectRow → ℕ × ObjectRow → ℕ × ObjectRow
put_at p row y = if y.0 == p then (p, row) else y

pub set_row_is : (low high p : ℕ) (row old : ObjectRow) (rows : List (ℕ × ObjectRow)) → ArePlaced low high rows → row_at p rows ≡ Some old → row_set p (Some row) rows ≡ map (put_at p row) rows
set_row_is low high p row old [] placed there = absurd (cc)
set_row_is low high p row old ((i, r) ∷ rows) placed there =
    let absent : p < i → row_at p ((i, r) ∷ rows) ≡ None = row_before i high p ((i, r) ∷ rows) (omega arith, placed.1, placed.2) in
    let same : p < i + 1 → map (put_at p row) rows ≡ rows = λ low. change-none (λ (y : ℕ × ObjectRow). y.0) (λ y. (p, row)) p rows (placed-none (i + 1) high p rows placed.2 low) in
    grind (arith, nat_tests, there, absent, same, set_row_is (i + 1) high p row old rows placed.2)

-- which keeps the order, if the base stays
into-change : (g : ℕ × ObjectRow → ℕ × ObjectRow) (o : ℕ × ObjectRow) (os : List (ℕ × ObjectRow)) → (g o).1.base ≡ o.1.base → All (λ y. (g y).1.base ≡ y.1.base) os → into_place (g o) (map g os) ≡ map g (into_place o os)
into-change g o [] here all = refl
into-change g o (x ∷ os) here all =
    grind (arith, nat_tests, here, All-head (λ y. (g y).1.base ≡ y.1.base) x os all, into-change g o os here (All-tail (λ y. (g y).1.base ≡ y.1.base) x os all))

by_base-change : (g : ℕ × ObjectRow → ℕ × ObjectRow) (rows : List (ℕ × ObjectRow)) → All (λ y. (g y).1.base ≡ y.1.base) rows → by_base (map g rows) ≡ map g (by_base rows)
by_base-change g [] all = refl
by_base-change g (o ∷ rows) all =
    let rest = All-tail (λ y. (g y).1.base ≡ y.1.base) o rows all in
    ap (into_place (g o)) (by_base-change g rows rest)
    ∙ into-change g o (by_base rows) (All-head (λ y. (g y).1.base ≡ y.1.base) o rows all) (by_base_all (λ y. (g y).1.base ≡ y.1.base) rows rest)

same-base : (low high p : ℕ) (row old : ObjectRow) (rows : List (ℕ × ObjectRow)) → ArePlaced low high rows → row_at p rows ≡ Some old → row.base ≡ old.base → All (λ y. (put_at p row y).1.base ≡ y.1.base) rows
same-base low high p row old [] placed there base = All-nil (λ y. (put_at p row y).1.base ≡ y.1.base)
same-base low high p row old ((i, r) ∷ rows) placed there base =
    ⊎_elim
    (λ (here : i ≡ p).
    let same : r ≡ old = grind (arith, nat_tests) in
    All-cons (λ y. (put_at p row y).1.base ≡ y.1.base) (i, r) rows (grind (arith, nat_tests))
    (All-weaker (λ (y : ℕ × ObjectRow). y.0 ≢ p) (λ y. (put_at p row y).1.base ≡ y.1.base) (λ y other. grind (arith, nat_tests)) rows (placed-none (i + 1) high p rows placed.2 (omega arith))))
    (λ other. All-cons (λ y. (put_at p row y).1.base ≡ y.1.base) (i, r) rows (grind (arith, nat_tests)) (same-base (i + 1) high p row old rows placed.2 (grind (arith, nat_tests)) base))
    (cases_eq i p)

pub changed_order : (high p : ℕ) (row old : ObjectRow) (rows : List (ℕ × ObjectRow)) → ArePlaced 0 high rows → row_at p rows ≡ Some old → row.base ≡ old.base → by_base (row_set p (Some row) rows) ≡ map (put_at p row) (by_base rows)
changed_order high p row old rows placed there base = grind (arith, set_row_is, by_base-change, same-base)
