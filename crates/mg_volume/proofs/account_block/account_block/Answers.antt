use Rattle.std.proofs.Common.{ap, ◌∙◌, arith, below_more, Some}
use Rattle.mg_volume.proofs.account_block.account_block.Goals as goal

pub loop-j-preserved : goal.loop-j-preserved
loop-j-preserved c =
    below_more _ _ (λ i low. c.put_account.ensures.others i (omega arith) (λ same. omega arith) ∙ c.loop-j.invariant i low)
    (c.put_account.ensures.here ∙ ap (λ o. Some o) c.row_at.ensures)
