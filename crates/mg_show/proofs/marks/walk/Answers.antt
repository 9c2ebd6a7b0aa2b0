use Rattle.{mg_show.proofs.{Learning.learns_then, Walking.ranked-more}, std.proofs.Common.{◌+◌, arith, ◌∙◌}}
use Rattle.mg_show.proofs.marks.walk.Goals as goal

pub loop-k-preserved : goal.loop-k-preserved
loop-k-preserved g c = record {
  ranks =
      learns_then g.D.Disk
      (λ r before step bases are. ranked-more c.args.shown.now r bases c.args.bytes.now (c.loop-k.k + 1) c.loop-k.ranks c.go_on.new.ranks
      (omega arith) c.requires.opened (before bases are) step)
      c.loop-k.invariant.ranks c.go_on.ensures.learns;
  long = c.go_on.ensures.long ∙ c.loop-k.invariant.long;
}
