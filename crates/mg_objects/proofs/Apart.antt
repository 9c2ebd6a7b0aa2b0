-- Which object an address lies in.
use Rattle.{mg_index.specs.ListLemmas.pair-cases, mg_model.specs.{Access.covers, KeptListLemmas.{AllPairs-head, AllPairs-nil}, Ranges.IsObjectRow}}
use Rattle.{mg_model.specs.State.ObjectRow, mg_objects.proofs.{Lists.{find-none, find-only}, Rows.{at, before-lower, objects-had, within-table}}}
use Rattle.{mg_objects.specs.Held.{AreApart, IsBefore, key_of, objects_in}, std.proofs.Common.{refl, sym, ap, ◌∙◌, subst, ⊎_elim, arith, get_or}}
use Rattle.std.proofs.lemmas.{Bool.{both_ways, cases_eq, cases_lt, false_from_ne_true, Decides.nat_tests}, List.{get_or-map, get_or_default}}
use Rattle.std.{proofs.lemmas.List.{Elements.{All-cons, All-contains, Contains-get_or}, Kept.AllPairs-cons}, specs.List.{AllAdjacentBelow, AllWithin}}
use Rattle.std.specs.{List.Contains, Prelude.{◌≡◌, ◌≢◌, ◌+◌, ◌*◌, ◌-◌, ◌<◌, ◌≤◌, ℕ, zero, suc, true, false, All, List, [], ◌∷◌, Option, find, None}}
use Rattle.std.specs.Prelude.{Some, length, map, slice_index_or}

-- objects are apart, if each ends before the next begins
pub apart-next : (objects : List (ℕ × ObjectRow)) → AllAdjacentBelow IsBefore objects (length objects) → AreApart objects
apart-next [] next = AllPairs-nil IsBefore
apart-next (o ∷ []) next = AllPairs-cons IsBefore o [] (λ k d under. absurd (omega arith)) (AllPairs-nil IsBefore)
apart-next (o ∷ x ∷ xs) next =
    let here = next 0 o (omega arith) in
    let rest = apart-next (x ∷ xs) (λ k d under. let e : suc k + 1 ≡ suc (k + 1) = omega arith in rw e at (next (suc k) d (omega arith))) in
    AllPairs-cons IsBefore o (x ∷ xs) (All-cons (IsBefore o) x xs here (λ k d under. let h = AllPairs-head IsBefore x xs rest k d under in omega arith)) rest

covered : (row : ObjectRow) (a : ℕ) → covers row a ≡ true → (row.base ≤ a) × (a < row.base + 4096 * row.pages)
covered row a is = (grind (arith, nat_tests), grind (arith, nat_tests))

module _ (objects : List (ℕ × ObjectRow)) (a : ℕ) (rows : All (λ (o : ℕ × ObjectRow). IsObjectRow o.1) objects) (apart : AreApart objects) where
  never : (x y : ℕ × ObjectRow) → IsObjectRow x.1 → IsObjectRow y.1 → IsBefore x y → covers x.1 a ≡ true → y.1.base ≤ a → ⊥
  never x y row_x row_y before is low = omega (arith, before-lower x.1 y.1 row_x row_y before, (covered x.1 a is).1)

  pub covers-only : (k : ℕ) (d : ℕ × ObjectRow) → k < length objects → covers (get_or objects k d).1 a ≡ true → find (λ (o : ℕ × ObjectRow). covers o.1 a) objects ≡ Some (get_or objects k d)
  covers-only k d under is =
      find-only (λ (o : ℕ × ObjectRow). covers o.1 a) objects x (Contains-get_or objects k d under) is
      (λ y there t. ⊎_elim (λ same. sym same)
      (λ other. absurd (⊎_elim (λ l. never x y (row x (Contains-get_or objects k d under)) (row y there) l is (covered y.1 a t).0) (λ l. never y x (row y there) (row x (Contains-get_or objects k d under)) l t (covered x.1 a is).0) other))
      (pair-cases IsBefore objects x y apart (Contains-get_or objects k d under) there))
    where
      x : ℕ × ObjectRow
      x = get_or objects k d

      row : (y : ℕ × ObjectRow) → Contains objects y → IsObjectRow y.1
      row y there = All-contains (λ (o : ℕ × ObjectRow). IsObjectRow o.1) objects y rows there

  -- it is in the last that does not begin after it, or in none
  pub covers-none :
      (n : ℕ) → n ≤ length objects → AllWithin (λ (o : ℕ × ObjectRow). o.1.base ≤ a) objects 0 n → AllWithin (λ (o : ℕ × ObjectRow). a < o.1.base) objects n (length objects)
      → ((d : ℕ × ObjectRow) → 0 < n → covers (get_or objects (n - 1) d).1 a ≡ false) → find (λ (o : ℕ × ObjectRow). covers o.1 a) objects ≡ None
  covers-none n within below above last =
      find-none (λ (o : ℕ × ObjectRow). covers o.1 a) objects
      (λ y there. false_from_ne_true (covers y.1 a) (λ is.
      let k = there.0 in
      let here = ap (λ (o : ℕ × ObjectRow). covers o.1 a) there.2 ∙ is in
      let under = there.1 in
      ⊎_elim
      (λ low.
      ⊎_elim (λ same. both_ways (covers (get_or objects (n - 1) y).1 a) (last y (omega arith)) (ap (λ m. covers (get_or objects m y).1 a) (sym same) ∙ here))
      (λ other. never (get_or objects k y) (get_or objects (n - 1) y) (rows k y under) (rows (n - 1) y (omega arith)) (apart k (n - 1) y (omega arith) (omega arith)) here (below (n - 1) y (omega arith) (omega arith)))
      (cases_eq k (n - 1)))
      (λ high. omega (arith, above k y high under, (covered (get_or objects k y).1 a here).0)) (cases_lt k n)))

-- what the keys of objects tell of their bases
key-at : (xs : List (ℕ × ObjectRow)) (k : ℕ) (d : ℕ × ObjectRow) → get_or (map key_of xs) k (key_of d) ≡ key_of (get_or xs k d)
key-at [] k d = refl
key-at (x ∷ xs) zero d = refl
key-at (x ∷ xs) (suc k) d = key-at xs k d

pub bases-within : (P : ℕ → Type 0) (xs : List (ℕ × ObjectRow)) (pairs : List (ℕ × ℕ)) (low high : ℕ) → map key_of xs ≡ pairs → AllWithin (λ (p : ℕ × ℕ). P p.0) pairs low high → AllWithin (λ (o : ℕ × ObjectRow). P o.1.base) xs low high
bases-within P xs pairs low high keys all k d above below = subst P (ap (λ (p : ℕ × ℕ). p.0) (ap (λ ps. get_or ps k (key_of d)) (sym keys) ∙ key-at xs k d)) (all k (key_of d) above below)

-- the row of a rank
pub listed : (rows : List (Option ObjectRow)) (pairs : List (ℕ × ℕ)) → map key_of (objects_in rows) ≡ pairs → (i : ℕ) (d : ℕ × ObjectRow) → i < length (objects_in rows) → at rows (get_or pairs i (0, 0)).1 ≡ Some (get_or (objects_in rows) i d).1
listed rows pairs keys i d under =
    ap (at rows) (ap (λ (p : ℕ × ℕ). p.1) (ap (λ ps. get_or ps i (0, 0)) (sym keys) ∙ get_or-map key_of (objects_in rows) i d (0, 0) under))
    ∙ objects-had rows (get_or (objects_in rows) i d) (Contains-get_or (objects_in rows) i d under)

blank : ℕ × ObjectRow
blank = (0, record { base = 0; pages = 0; account = 0; passwords = []; entries = []; extension = None })

pub listed-within : (rows : List (Option ObjectRow)) (pairs : List (ℕ × ℕ)) → map key_of (objects_in rows) ≡ pairs → (i : ℕ) → i < length (objects_in rows) → (get_or pairs i (0, 0)).1 < length rows
listed-within rows pairs keys i under = within-table rows (get_or pairs i (0, 0)).1 (get_or (objects_in rows) i blank).1 (listed rows pairs keys i blank under)

pub listed-row : (rows : List (Option ObjectRow)) (pairs : List (ℕ × ℕ)) → map key_of (objects_in rows) ≡ pairs → (i : ℕ) (row : Option ObjectRow) → i < length (objects_in rows) → row ≡ slice_index_or rows (get_or pairs i (0, 0)).1 row
    → ((d : ℕ × ObjectRow) → row ≡ Some (get_or (objects_in rows) i d).1) × (row ≢ None)
listed-row rows pairs keys i row under is = (there, λ none. let e : Some (get_or (objects_in rows) i blank).1 ≡ None = sym (there blank) ∙ none in absurd (cc))
  where
    there : (d : ℕ × ObjectRow) → row ≡ Some (get_or (objects_in rows) i d).1
    there d = is ∙ get_or_default rows (get_or pairs i (0, 0)).1 row None (listed-within rows pairs keys i under) ∙ listed rows pairs keys i d under
