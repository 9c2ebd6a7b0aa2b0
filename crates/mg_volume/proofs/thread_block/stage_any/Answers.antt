use Rattle.{mg_model.specs.State.ThreadRow, mg_volume.specs.Standing.StagesThread, std.proofs.Common.{Option, subst, sym}}
use Rattle.mg_volume.proofs.thread_block.stage_any.Goals as goal

pub returns-in-Some : goal.returns-in-Some
returns-in-Some c = subst (λ (row : Option ThreadRow). StagesThread c.args.block row c.args.pages.now c.stage_row.new.pages) (sym c.in-Some.is) c.stage_row.ensures

pub returns-in-None : goal.returns-in-None
returns-in-None c = subst (λ (row : Option ThreadRow). StagesThread c.args.block row c.args.pages.now c.stage_none.new.pages) (sym c.in-None.is) c.stage_none.ensures
