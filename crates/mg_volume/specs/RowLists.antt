-- Live rows with their places, as a list: what is at a place, and the list with another row there.
use Rattle.std.proofs.{Common.{refl, sym, ap, subst, ◌∙◌, ⊎_elim, arith}, lemmas.Bool.{cases_eq, cases_lt, eq-eqb}}
use Rattle.std.{proofs.lemmas.Bool.{le-ltb, lt-ltb, ne_eqb, Decides.nat_tests}, specs.Prelude.{◌≡◌, ◌≢◌, ◌+◌, ◌≤◌, ◌<◌}}
use Rattle.std.specs.Prelude.{◌==◌, nat_lt, ℕ, zero, suc, All, List, [], ◌∷◌, if◌then◌else◌, Option, Some, None}
use Rattle.mg_model.specs.{Abbreviations.with_live, Spelling.Read, Volume.live_rows, Words.and_then}

-- the row at a place
abbrev pub row_at : {R : Type 0} → ℕ → List (ℕ × R) → Option R
row_at j [] = None
row_at j ((i, r) ∷ rows) = if i == j then Some r else row_at j rows

-- no two have the same key
abbrev pub DistinctBy : {X : Type 0} → (X → ℕ) → List X → Type 0
DistinctBy key [] = Unit {0}
DistinctBy key (x ∷ xs) = All (λ y. key y ≢ key x) xs × DistinctBy key xs

-- places from low on and below high, in order
abbrev pub ArePlaced : {R : Type 0} → ℕ → ℕ → List (ℕ × R) → Type 0
ArePlaced low high [] = Unit {0}
ArePlaced low high ((i, r) ∷ rows) = (low ≤ i) × (i < high) × ArePlaced (i + 1) high rows

-- the rows with another one at a place, or none there
abbrev pub row_set : {R : Type 0} → ℕ → Option R → List (ℕ × R) → List (ℕ × R)
row_set p new [] = with_live p new []
row_set p new ((i, r) ∷ rows) = if nat_lt p i then with_live p new ((i, r) ∷ rows) else if p == i then with_live p new rows else (i, r) ∷ row_set p new rows

-- what live rows say
pub record AreTold {R : Type 0} (f : ℕ → Read R) (i n : ℕ) (rows : List (ℕ × R)) : Type 0 where
  pub placed : ArePlaced i (i + n) rows
  pub each : (j : ℕ) → i ≤ j → j < i + n → f j ≡ Some (row_at j rows)

pub placed_wider : {R : Type 0} (low low' high high' : ℕ) (rows : List (ℕ × R)) → low' ≤ low → high ≡ high' → ArePlaced low high rows → ArePlaced low' high' rows
placed_wider low low' high high' [] wide same placed = tt
placed_wider low low' high high' ((i, r) ∷ rows) wide same placed =
    let above = placed.0 in
    let below = placed.1 in
    (omega arith, omega arith, placed_wider (i + 1) (i + 1) high high' rows (omega arith) same placed.2)

-- no row is before the first
pub row_before : {R : Type 0} (low high j : ℕ) (rows : List (ℕ × R)) → ArePlaced low high rows → j < low → row_at j rows ≡ None
row_before low high j [] placed before = refl
row_before low high j ((i, r) ∷ rows) placed before = let above = placed.0 in grind (arith, nat_tests, row_before (i + 1) high j rows placed.2 (omega arith))

row_here : {R : Type 0} (i : ℕ) (r : R) (rows : List (ℕ × R)) → row_at i ((i, r) ∷ rows) ≡ Some r
row_here i r rows = ap (λ b. if b then Some r else row_at i rows) (eq-eqb i i refl)

row_behind : {R : Type 0} (i j : ℕ) (r : R) (rows : List (ℕ × R)) → i ≢ j → row_at j ((i, r) ∷ rows) ≡ row_at j rows
row_behind i j r rows other = grind (arith, nat_tests)

told-more : {R : Type 0} (f : ℕ → Read R) (i n : ℕ) (row : Option R) (rest : List (ℕ × R)) → f i ≡ Some row → AreTold f (i + 1) n rest → AreTold f i (suc n) (with_live i row rest)
told-more f i n None rest here told = record {
  placed = placed_wider (i + 1) i (i + 1 + n) (i + suc n) rest (omega arith) (omega arith) told.placed;
  each = λ j low high. let gone = row_before (i + 1) (i + 1 + n) i rest told.placed (omega arith) in let later : j ≢ i → f j ≡ Some (row_at j rest) = λ other. told.each j (omega arith) (omega arith) in grind arith;
}
told-more f i n (Some r) rest here told = record {
  placed = (omega arith, omega arith, placed_wider (i + 1) (i + 1) (i + 1 + n) (i + suc n) rest (omega arith) (omega arith) told.placed);
  each = λ j low high. let later : j ≢ i → f j ≡ Some (row_at j rest) = λ other. told.each j (omega arith) (omega arith) in grind (arith, nat_tests);
}

pub told : {R : Type 0} (f : ℕ → Read R) (i n : ℕ) (rows : List (ℕ × R)) → live_rows f i n ≡ Some rows → AreTold f i n rows
told {R} f i zero rows is =
    let e : [] ≡ rows = (cc) in
    subst (AreTold f i zero) e (record { placed = tt; each = λ j low high. absurd (omega arith) })
told {R} f i (suc n) rows is = at (f i) refl (live_rows f (i + 1) n) refl is (told f (i + 1) n)
  where
    at : (o : Read R) → f i ≡ o → (rest : Option (List (ℕ × R))) → live_rows f (i + 1) n ≡ rest → and_then o (λ row. and_then rest (λ rows. Some (with_live i row rows))) ≡ Some rows
        → ((rest : List (ℕ × R)) → live_rows f (i + 1) n ≡ Some rest → AreTold f (i + 1) n rest) → AreTold f i (suc n) rows
    at None here rest later is more = absurd (cc)
    at (Some row) here None later is more = absurd (cc)
    at (Some row) here (Some rest) later is more =
        let e : with_live i row rest ≡ rows = (cc) in
        subst (AreTold f i (suc n)) e (told-more f i n row rest here (more rest later))

-- and the other way
pub tell : {R : Type 0} (f : ℕ → Read R) (i n : ℕ) (rows : List (ℕ × R)) → AreTold f i n rows → live_rows f i n ≡ Some rows
tell f i zero [] is_told = refl
tell f i zero ((j, r) ∷ rows) is_told =
    let low = is_told.placed.0 in
    let high = is_told.placed.1 in
    absurd (omega arith)
tell f i (suc n) [] is_told =
    let rest = tell f (i + 1) n [] (record { placed = tt; each = λ j low high. is_told.each j (omega arith) (omega arith) }) in
    let first = is_told.each i (omega arith) (omega arith) in
    grind arith
tell f i (suc n) ((j, r) ∷ rows) is_told =
    let low = is_told.placed.0 in
    let first = is_told.each i (omega arith) (omega arith) in
    ⊎_elim
    (λ (is : j ≡ i).
    let rest = tell f (i + 1) n rows (record {
      placed = placed_wider (j + 1) (i + 1) (i + suc n) (i + 1 + n) rows (omega arith) (omega arith) is_told.placed.2;
      each = λ k above below. is_told.each k (omega arith) (omega arith) ∙ ap (λ o. Some o) (row_behind j k r rows (λ same. omega arith));
    }) in
    grind (arith, nat_tests))
    (λ other.
    let rest = tell f (i + 1) n ((j, r) ∷ rows) (record { placed = (omega arith, omega (arith, is_told.placed.1), placed_wider (j + 1) (j + 1) (i + suc n) (i + 1 + n) rows (omega arith) (omega arith) is_told.placed.2); each = λ k above below. is_told.each k (omega arith) (omega arith) }) in
    let gone = row_before (i + 1) (i + suc n) i ((j, r) ∷ rows) (omega arith, is_told.placed.1, is_told.placed.2) (omega arith) in
    grind (arith, nat_tests))
    (cases_eq j i)

-- another row at a place
live_placed : {R : Type 0} (low high p : ℕ) (new : Option R) (rows : List (ℕ × R)) → ArePlaced (p + 1) high rows → low ≤ p → p < high → ArePlaced low high (with_live p new rows)
live_placed low high p None rows placed from to = placed_wider (p + 1) low high high rows (omega arith) (omega arith) placed
live_placed low high p (Some r) rows placed from to = (from, to, placed)

pub set_placed : {R : Type 0} (low high p : ℕ) (new : Option R) (rows : List (ℕ × R)) → ArePlaced low high rows → low ≤ p → p < high → ArePlaced low high (row_set p new rows)
set_placed low high p new [] placed from to = live_placed low high p new [] tt from to
set_placed {R} low high p new ((i, r) ∷ rows) placed from to =
    let above = placed.0 in
    let below = placed.1 in
    let P : List (ℕ × R) → Type 0 = λ l. ArePlaced low high l in
    ⊎_elim
    (λ (before : p < i).
    subst P (sym (ap (λ b. if b then with_live p new ((i, r) ∷ rows) else if p == i then with_live p new rows else (i, r) ∷ row_set p new rows) (lt-ltb p i before)))
    (live_placed low high p new ((i, r) ∷ rows) (omega arith, below, placed.2) from to))
    (λ behind.
    subst P (sym (ap (λ b. if b then with_live p new ((i, r) ∷ rows) else if p == i then with_live p new rows else (i, r) ∷ row_set p new rows) (le-ltb p i behind)))
    (⊎_elim
    (λ (same : p ≡ i).
    subst P (sym (ap (λ b. if b then with_live p new rows else (i, r) ∷ row_set p new rows) (eq-eqb p i same)))
    (live_placed low high p new rows (placed_wider (i + 1) (p + 1) high high rows (omega arith) (omega arith) placed.2) from to))
    (λ other.
    subst P (sym (ap (λ b. if b then with_live p new rows else (i, r) ∷ row_set p new rows) (ne_eqb p i other)))
    (above, below, set_placed (i + 1) high p new rows placed.2 (omega arith) to))
    (cases_eq p i)))
    (cases_lt p i)

live_at : {R : Type 0} (low high p : ℕ) (new : Option R) (rows : List (ℕ × R)) → ArePlaced low high rows → p < low → row_at p (with_live p new rows) ≡ new
live_at low high p None rows placed before = row_before low high p rows placed before
live_at low high p (Some r) rows placed before = row_here p r rows

pub set_at : {R : Type 0} (low high p : ℕ) (new : Option R) (rows : List (ℕ × R)) → ArePlaced low high rows → row_at p (row_set p new rows) ≡ new
set_at low high p new [] placed = live_at (p + 1) (p + 1) p new [] tt (omega arith)
set_at low high p new ((i, r) ∷ rows) placed =
    let before : p < i → row_at p (with_live p new ((i, r) ∷ rows)) ≡ new = live_at i high p new ((i, r) ∷ rows) (omega arith, placed.1, placed.2) in
    let here : p < i + 1 → row_at p (with_live p new rows) ≡ new = live_at (i + 1) high p new rows placed.2 in
    grind (arith, nat_tests, before, here, set_at (i + 1) high p new rows placed.2)

live_other : {R : Type 0} (j p : ℕ) (new : Option R) (rows : List (ℕ × R)) → j ≢ p → row_at j (with_live p new rows) ≡ row_at j rows
live_other j p None rows other = refl
live_other j p (Some r) rows other = row_behind p j r rows (λ is. other (sym is))

pub set_other : {R : Type 0} (j p : ℕ) (new : Option R) (rows : List (ℕ × R)) → j ≢ p → row_at j (row_set p new rows) ≡ row_at j rows
set_other j p new [] other = live_other j p new [] other
set_other j p new ((i, r) ∷ rows) other = grind (arith, nat_tests, live_other j p new ((i, r) ∷ rows) other, live_other j p new rows other, set_other j p new rows other)

-- So live rows with another one at a place are the rows with it.
pub told_set : {R : Type 0} (f g : ℕ → Read R) (n p : ℕ) (new : Option R) (rows : List (ℕ × R)) → live_rows f 0 n ≡ Some rows → p < n → g p ≡ Some new → ((j : ℕ) → j < n → j ≢ p → g j ≡ f j) → live_rows g 0 n ≡ Some (row_set p new rows)
told_set f g n p new rows is few here others =
    let all = told f 0 n rows is in
    tell g 0 n (row_set p new rows)
    (record {
      placed = set_placed 0 (0 + n) p new rows all.placed (omega arith) (omega arith);
      each = λ j low high.
          ⊎_elim
          (λ same. ap g same ∙ here ∙ ap (λ o. Some o) (sym (ap (λ k. row_at k (row_set p new rows)) same ∙ set_at 0 (0 + n) p new rows all.placed)))
          (λ other. others j (omega arith) other ∙ all.each j low high ∙ ap (λ o. Some o) (sym (set_other j p new rows other)))
          (cases_eq j p);
    })
