-- Rows without one at a place, and the same in the order of the bases.
use Rattle.{mg_model.specs.State.ObjectRow, mg_objects.specs.Held.{by_base, into_place}, mg_volume.proofs.ObjectLists.{into-all, placed-none}}
use Rattle.{mg_volume.{proofs.{ObjectLists.place-cases, ObjectRemoved.filter-all}, specs.RowLists.{ArePlaced, row_set}}, std.proofs.Common.refl}
use Rattle.std.proofs.{Common.arith, lemmas.{Bool.Decides.nat_tests, List.Elements.{All-cons, All-filter, All-head, All-nil, All-weaker}}}
use Rattle.std.specs.Prelude.{◌≡◌, ◌+◌, ◌≤◌, ◌<◌, ◌==◌, ℕ, Bool, true, false, not, All, List, [], ◌∷◌, filter, None}

-- no row at a place: all but the row that was there
pub row_set_none : {R : Type 0} (low high p : ℕ) (rows : List (ℕ × R)) → ArePlaced low high rows → row_set p None rows ≡ filter (λ (y : ℕ × R). not (y.0 == p)) rows
row_set_none low high p [] placed = refl
row_set_none {R} low high p ((i, r) ∷ rows) placed =
    let same : p < i + 1 → filter (λ (y : ℕ × R). not (y.0 == p)) rows ≡ rows = λ low. filter-all (λ (y : ℕ × R). y.0) p rows (placed-none (i + 1) high p rows placed.2 low) in
    grind (arith, nat_tests, same, row_set_none (i + 1) high p rows placed.2)

-- no base is before a smaller one
abbrev InOrder : List (ℕ × ObjectRow) → Type 0
InOrder [] = Unit {0}
InOrder (x ∷ xs) = All (λ (y : ℕ × ObjectRow). x.1.base ≤ y.1.base) xs × InOrder xs

into-order : (o : ℕ × ObjectRow) (os : List (ℕ × ObjectRow)) → InOrder os → InOrder (into_place o os)
into-order o [] order = (All-nil (λ (y : ℕ × ObjectRow). o.1.base ≤ y.1.base), tt)
into-order o (x ∷ os) order =
    place-cases InOrder o x os
    (λ before. (All-cons (λ (y : ℕ × ObjectRow). o.1.base ≤ y.1.base) x os (omega arith) (All-weaker (λ (y : ℕ × ObjectRow). x.1.base ≤ y.1.base) (λ (y : ℕ × ObjectRow). o.1.base ≤ y.1.base) (λ y more. omega arith) os order.0), order))
    (λ behind. (into-all (λ (y : ℕ × ObjectRow). x.1.base ≤ y.1.base) o os behind order.0, into-order o os order.1))

by_base-order : (rows : List (ℕ × ObjectRow)) → InOrder (by_base rows)
by_base-order [] = tt
by_base-order (o ∷ rows) = into-order o (by_base rows) (by_base-order rows)

-- before larger bases alone
into-first : (o : ℕ × ObjectRow) (os : List (ℕ × ObjectRow)) → All (λ (y : ℕ × ObjectRow). o.1.base < y.1.base) os → into_place o os ≡ o ∷ os
into-first o [] all = refl
into-first o (x ∷ os) all = grind (arith, nat_tests, All-head (λ (y : ℕ × ObjectRow). o.1.base < y.1.base) x os all)

module _ (p : ℕ × ObjectRow → Bool) where
  into-kept : (o : ℕ × ObjectRow) (os : List (ℕ × ObjectRow)) → InOrder os → p o ≡ true → filter p (into_place o os) ≡ into_place o (filter p os)
  into-kept o [] order kept = grind arith
  into-kept o (x ∷ os) order kept = grind (arith, (into-kept o os order.1 kept), into-first, All-filter, All-cons, All-weaker, nat_tests)

  into-gone : (o : ℕ × ObjectRow) (os : List (ℕ × ObjectRow)) → p o ≡ false → filter p (into_place o os) ≡ filter p os
  into-gone o [] gone = grind arith
  into-gone o (x ∷ os) gone = grind (arith, nat_tests, gone, into-gone o os gone)

  -- those that pass, in the order of the bases
  pub filter_order : (rows : List (ℕ × ObjectRow)) → by_base (filter p rows) ≡ filter p (by_base rows)
  filter_order [] = refl
  filter_order (o ∷ rows) = grind (arith, filter_order rows, into-kept o (by_base rows) (by_base-order rows), into-gone o (by_base rows))
