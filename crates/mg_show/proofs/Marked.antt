-- A mark for each object, and what capabilities add to it.
use Rattle.{mg_model.specs.{Ranges.IsObjectRow, State.ObjectRow, declared.slots.Slot.Slot}, mg_objects.specs.Held.AreApart}
use Rattle.{mg_show.specs.Marking.{IsPlaceOf, Marks, named_by, IsCut}, std.proofs.Common.{◌≡◌, ℕ, ◌+◌, ◌<◌, ◌≤◌, ◌||◌, List, [], ◌∷◌, ◌++◌, length}}
use Rattle.std.proofs.{Common.{slice_index, take, refl, sym, ap, ◌∙◌, arith, get_or, subst, ⊎_elim}, Math.Bool.{or-false, or_assoc}}
use Rattle.std.proofs.lemmas.{Bool.{cases_lt, cases_eq, Decides.nat_tests}, List.{map_more, get_or-set_other, get_or-set_same, length-set}}
use Rattle.std.{proofs.lemmas.List.Folds.list_any-append, specs.{List.{AllPairs, AllWithin, HoldsAt}, Prelude.{◌≢◌, ◌⊎◌, Bool, All, slice_index_or}}}
use Rattle.std.specs.Prelude.{slice_set}

-- bases rise
pub bases-rise : (objects : List (ℕ × ObjectRow)) → All (λ (o : ℕ × ObjectRow). IsObjectRow o.1) objects → AreApart objects → AllPairs (λ (a b : ℕ × ObjectRow). a.1.base < b.1.base) objects
bases-rise objects rows apart i j d before under =
    let first = (rows i d (omega arith)).place in
    omega (arith, first.aligned, first.some, (rows j d under).place.aligned, apart i j d before under)

-- the place that is found by halving is the place of the base, or nothing has it
pub place-found : (objects : List (ℕ × ObjectRow)) (base i : ℕ) (row : ObjectRow) → AllPairs (λ (a b : ℕ × ObjectRow). a.1.base < b.1.base) objects → i < length objects
    → HoldsAt (λ (o : ℕ × ObjectRow). row ≡ o.1) objects i → row.base ≡ base → IsPlaceOf objects base i
place-found objects base i row rise below is same =
    let here = λ (d : ℕ × ObjectRow). ap (λ (r : ObjectRow). r.base) (sym (is d)) ∙ same in
    record { within = below; is = here; only = λ j under d there. grind (arith, rise j i d, rise i j d, here d, cases_lt j i, cases_lt i j) }

pub place-none : (objects : List (ℕ × ObjectRow)) (base i : ℕ) → IsCut objects base i → (length objects ≤ i) ⊎ ((d : ℕ × ObjectRow) → (slice_index_or objects i d).1.base ≢ base)
    → AllPairs (λ (a b : ℕ × ObjectRow). a.1.base < b.1.base) objects → All (λ (o : ℕ × ObjectRow). o.1.base ≢ base) objects
place-none objects base i cut end rise k d under same = grind (arith, cases_lt)

-- where one base is below an address all before it are, and where one is not, none behind it is
module _ (objects : List (ℕ × ObjectRow)) (base m : ℕ) (row : ObjectRow) (rise : AllPairs (λ (a b : ℕ × ObjectRow). a.1.base < b.1.base) objects) (under : m < length objects) (is : HoldsAt (λ (o : ℕ × ObjectRow). row ≡ o.1) objects m) where
  here : (k : ℕ) (d : ℕ × ObjectRow) → k ≡ m → (slice_index_or objects k d).1.base ≡ row.base
  here k d e = ap (λ n. (slice_index_or objects n d).1.base) e ∙ ap (λ (r : ObjectRow). r.base) (sym (is d))

  pub below-more : row.base < base → AllWithin (λ (o : ℕ × ObjectRow). o.1.base < base) objects 0 (m + 1)
  below-more low k d from before =
      ⊎_elim (λ less. let l = rise k m d less under in let h = here m d refl in omega arith) (λ le. let h = here k d (omega arith) in omega arith) (cases_lt k m)

  pub above-more : base ≤ row.base → AllWithin (λ (o : ℕ × ObjectRow). base ≤ o.1.base) objects m (length objects)
  above-more high k d from before =
      ⊎_elim (λ more. let l = rise m k d more before in let h = here m d refl in omega arith) (λ le. let h = here k d (omega arith) in omega arith) (cases_lt m k)

-- Marks that get more

module _ {Key : Type 0} (has : ℕ → Key → Bool) (gives : ObjectRow → ℕ → Key → Bool) (objects : List (ℕ × ObjectRow)) where
  pub marks_none : (marks : List ℕ) → Marks has gives objects [] marks marks
  marks_none marks = record { long = refl; are = λ i below d key. sym (or-false (has (slice_index marks i) key)) }

  pub marks_then : (p q : List (ℕ × ℕ)) (a b c : List ℕ)
      → Marks has gives objects p a b → Marks has gives objects q b c → Marks has gives objects (p ++ q) a c
  marks_then p q a b c first second = record {
    long = second.long ∙ first.long;
    are = λ i below d key. grind (arith, first.are i below d key, second.are i below d key, or_assoc, list_any-append);
  }

  -- one capability more
  pub marks_more : (slots : List Slot) (i : ℕ) (d : Slot) (a b c : List ℕ) → i < length slots
      → Marks has gives objects (named_by (take i slots)) a b
      → Marks has gives objects (named_by (get_or slots i d ∷ [])) b c → Marks has gives objects (named_by (take (i + 1) slots)) a c
  marks_more slots i d a b c below first second =
      subst (λ named. Marks has gives objects named a c) (sym (map_more (λ (slot : Slot). (slot.base, slot.password)) slots i d below))
      (marks_then (named_by (take i slots)) (named_by (get_or slots i d ∷ [])) a b c first second)

  module _ (base password : ℕ) (marks : List ℕ) where
    -- a capability that names no object
    pub marks_no : All (λ (o : ℕ × ObjectRow). o.1.base ≢ base) objects → Marks has gives objects ((base, password) ∷ []) marks marks
    marks_no none = record { long = refl; are = λ i below d key. grind (arith, nat_tests, none i d below) }

    -- one that names an object
    pub marks_one : (i v : ℕ) → length marks ≡ length objects → IsPlaceOf objects base i
        → ((d : ℕ × ObjectRow) (key : Key)
        → has v key ≡ (has (slice_index marks i) key || gives (slice_index_or objects i d).1 password key))
        → Marks has gives objects ((base, password) ∷ []) marks (slice_set marks i v)
    marks_one i v long place more = record {
      long = length-set marks i v;
      are = λ k below d key.
          grind (arith, nat_tests, cases_eq k i, more d key, get_or-set_same, get_or-set_other, place.is d, place.only k below d, place.within);
    }
