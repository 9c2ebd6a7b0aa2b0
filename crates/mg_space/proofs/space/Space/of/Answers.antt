use Rattle.{mg_ranges.specs.Gaps.AreTaken, std.proofs.Common.{ℕ, List, subst, sym}}
use Rattle.mg_space.proofs.space.Space.of.Goals as goal

pub of-requires-in-Some : goal.of-requires-in-Some
of-requires-in-Some c = let P : List (ℕ × ℕ) → Type 0 = λ spans. AreTaken spans in subst P (sym c.deref.ensures.value) c.in_ok-spans-in-Some.ensures.taken
