use Rattle.{mg_migrate.proofs.{LiftedBlocks.at_closed, LiftedReads.super_at}, std.proofs.Common.{sym, ◌∙◌, arith}}
use Rattle.mg_migrate.proofs.lifting.write_front.Goals as goal

pub returns-then-i-eq-SUPER_BLOCK : goal.returns-then-i-eq-SUPER_BLOCK
returns-then-i-eq-SUPER_BLOCK c r = c.write_super.ensures.spelled ∙ sym (super_at c.args.params.now r c.args.i c.if-i-eq-SUPER_BLOCK.true)

pub returns-else-i-eq-SUPER_BLOCK : goal.returns-else-i-eq-SUPER_BLOCK
returns-else-i-eq-SUPER_BLOCK c r = sym (at_closed c.args.params.now r c.args.i (λ e. omega arith) (omega arith))
