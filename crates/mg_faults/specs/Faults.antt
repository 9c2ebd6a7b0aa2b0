-- What the count of faults of an outside object says of a call, and of a run of calls.
use Rattle.std.{proofs.Common.{arith, inl, inr, ⊎_elim}, specs.Prelude.{ℕ, ◌-◌, ◌^◌, ◌==◌, ◌<◌, ◌≤◌, ◌⊎◌, Bool, IsTrue}}
use Rattle.std.specs.Prelude.{Result, OnErr}

-- the count rose, or stands at its last value at the end
abbrev pub Rose : ℕ → ℕ → Bool → Type 0
Rose before now is_spent = (before < now) ⊎ IsTrue is_spent

-- the count has not fallen, and where it stood at its last value it still does
pub record CountGoesOn (before now : ℕ) (was_spent is_spent : Bool) : Type 0 where
  pub no_less : before ≤ now
  pub spent : IsTrue was_spent → IsTrue is_spent

-- what a call does to the count: it goes on, and an error comes only where it rose
pub record HasCause {T E : Type 0} (before now : ℕ) (was_spent is_spent : Bool) (result : Result T E) : Type 0 where
  pub goes_on : CountGoesOn before now was_spent is_spent
  pub failed : OnErr result (Rose before now is_spent)

-- the last value of a count of 64 bits
abbrev pub is_last : ℕ → Bool
is_last count = count == 2 ^ 64 - 1

-- before the first call
pub count_none : (count : ℕ) (is_spent : Bool) → CountGoesOn count count is_spent is_spent
count_none count is_spent = record { no_less = omega arith; spent = λ stood. stood }

-- one run after another
pub count_then : (a b c : ℕ) (s t u : Bool) → CountGoesOn a b s t → CountGoesOn b c t u → CountGoesOn a c s u
count_then a b c s t u first second = record {
  no_less = let x = first.no_less in let y = second.no_less in omega arith;
  spent = λ stood. second.spent (first.spent stood);
}

-- a rise stays a rise while the count goes on
pub rose_then : (a b c : ℕ) (t u : Bool) → Rose a b t → CountGoesOn b c t u → Rose a c u
rose_then a b c t u rose later =
    ⊎_elim (λ more. inl (let y = later.no_less in omega arith)) (λ stood. inr (later.spent stood)) rose

-- a rise after a run is a rise since its beginning
pub then_rose : (a b c : ℕ) (s t u : Bool) → CountGoesOn a b s t → Rose b c u → Rose a c u
then_rose a b c s t u first rose =
    ⊎_elim (λ more. inl (let x = first.no_less in omega arith)) (λ stood. inr stood) rose
