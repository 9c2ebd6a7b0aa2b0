use Rattle.{mg_disk.specs.{BlockBytes.IsBytes, Blocks.zero_block, Disk.AreBytes}, std.proofs.Common.{◌<◌, ap, sym, subst, arith, ◌∙◌, ◌+◌, ◌++◌, ◌∷◌}}
use Rattle.std.proofs.{Common.[], lemmas.List.{replicate-append-replicate, Elements.{All-append, All-replicate}}}
use Rattle.mg_disk.proofs.blocks.zeros.Goals as goal

pub loop-preserved : goal.loop-preserved
loop-preserved c = (
  c.in_ok-push.ensures.items ∙ ap (λ x. x ++ zero_block ∷ []) c.loop.invariant.0 ∙ replicate-append-replicate c.loop.counter 1 zero_block,
  c.in_ok-push.ensures.len ∙ ap (λ x. x + 1) c.loop.invariant.1,
  subst AreBytes (sym c.in_ok-push.ensures.items) (All-append IsBytes c.loop.content.items (zero_block ∷ []) c.loop.invariant.2 (All-replicate IsBytes 1 zero_block (All-replicate (λ byte. byte < 256) 4096 0 (omega arith)))),
)
