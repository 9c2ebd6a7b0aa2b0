use Rattle.std.proofs.Common.{ap, ◌∙◌, arith, below_more, Some}
use Rattle.mg_volume.proofs.object_block.put_rows.Goals as goal

pub loop-j-preserved : goal.loop-j-preserved
loop-j-preserved c =
    below_more _ _ (λ i low. c.put_object.ensures.others i (omega arith) (λ same. omega arith) ∙ c.loop-j.invariant i low)
    (c.put_object.ensures.here ∙ ap (λ o. Some o) c.row_at.ensures)
