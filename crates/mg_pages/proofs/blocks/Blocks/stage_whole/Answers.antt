use Rattle.{mg_journal.specs.Staged.staged, mg_pages.{proofs.BlocksKept.{missing, there}, specs.Kept.kept_at}, std.proofs.Common.{◌∙◌, ap}}
use Rattle.std.proofs.lemmas.Result.{on_ok_weaker}
use Rattle.mg_pages.proofs.blocks.Blocks.stage_whole.Goals as goal

pub returns-then-stage-clause-staged : goal.returns-then-stage-clause-staged
returns-then-stage-clause-staged g c =
    let here = there (kept_at c.args.self.now.kept c.args.block) _ _ c.if-stage.ensures.kept c.stage.ensures.staged in
    record { bytes = here.0; more = here.2; are = λ image told first low are. are c.args.block here.0 here.1 low }

pub returns-else-stage-clause-staged : goal.returns-else-stage-clause-staged
returns-else-stage-clause-staged g c =
    let none = missing (kept_at c.args.self.now.kept c.args.block) _ _ c.if-stage.ensures.kept c.stage.ensures.staged in
    on_ok_weaker c.stage_read.result
    (λ s. record { bytes = s.bytes; more = s.more ∙ ap (λ ws. staged ws c.args.block s.bytes) none.1; are = λ image told first low are. s.are image told }) c.stage_read.ensures.staged
