use Rattle.{mg_model.specs.State.ThreadRow, mg_show.specs.{DotText.thread_node, WritingLemmas.{puts_more, puts_same}}, std.proofs.Common.{ℕ, ◌+◌}}
use Rattle.std.proofs.Common.{arith}
use Rattle.mg_show.proofs.graph.put_thread_nodes.Goals as goal

pub loop-t-preserved : goal.loop-t-preserved
loop-t-preserved g c = puts_more g.K.Sink (λ (t : ℕ × ThreadRow). thread_node (t.0 + 1)) c.args.threads.now c.loop-t.t-index c.t-item.result (omega arith) c.t-item.is c.loop-t.invariant (puts_same g.K.Sink c.print_thread_node.ensures c.line.ensures)
