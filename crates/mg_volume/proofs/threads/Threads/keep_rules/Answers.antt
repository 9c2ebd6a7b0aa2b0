use Rattle.{mg_model.specs.{Ranges.IsThreadRow, State.ThreadRow}, mg_volume.proofs.ByNumber.{apart_are, few_are, ranges_are}}
use Rattle.{mg_volume.specs.RowLists.DistinctBy, std.proofs.Common.{◌≤◌, ℕ, All, List, length, subst}}
use Rattle.mg_volume.proofs.threads.Threads.keep_rules.Goals as goal

pub returns-clause-at_most_256 : goal.returns-clause-at_most_256
returns-clause-at_most_256 c = let P : List (ℕ × ThreadRow) → Type 0 = λ threads. length threads ≤ 256 in subst P c.self.view_is (few_are c.self.inside.rows.items c.self.invariant.by_number)

pub returns-clause-apart : goal.returns-clause-apart
returns-clause-apart c = let P : List (ℕ × ThreadRow) → Type 0 = DistinctBy (λ (t : ℕ × ThreadRow). t.0) in subst P c.self.view_is (apart_are c.self.inside.rows.items)

pub returns-clause-rows : goal.returns-clause-rows
returns-clause-rows c = let P : List (ℕ × ThreadRow) → Type 0 = All (λ (t : ℕ × ThreadRow). IsThreadRow t.1) in subst P c.self.view_is (ranges_are c.self.inside.rows.items c.self.invariant.by_number)
