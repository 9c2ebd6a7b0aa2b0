use Rattle.{mg_model.specs.{Layout.first_thread_block, State.ThreadRow}, mg_volume.{proofs.Handed.no, specs.Standing.StagesThread}}
use Rattle.std.{proofs.Common.{Option, ◌+◌, ◌-◌, ◌∙◌, ap, subst}, specs.Prelude.is_some}
use Rattle.mg_volume.proofs.thread_block.stage_held.Goals as goal

pub unreachable-requires : goal.unreachable-requires
unreachable-requires c = no (ap is_some c.in-None.ensures.found ∙ c.requires.there)

pub returns : goal.returns
returns c row found = subst (λ (row : Option ThreadRow). StagesThread (first_thread_block + c.args.number - 1) row c.args.pages.now c.stage_row.new.pages) (c.in-Some.ensures.found ∙ found) c.stage_row.ensures
