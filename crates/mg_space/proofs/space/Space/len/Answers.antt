use Rattle.{mg_model.specs.State.ObjectRow, mg_objects.specs.Held.AreApart, std.proofs.Common.{ℕ, List, subst}}
use Rattle.mg_space.proofs.space.Space.len.Goals as goal

pub returns-clause-apart : goal.returns-clause-apart
returns-clause-apart c = let P : List (ℕ × ObjectRow) → Type 0 = λ objects. AreApart objects in subst P c.self.view_is c.len.ensures.apart
