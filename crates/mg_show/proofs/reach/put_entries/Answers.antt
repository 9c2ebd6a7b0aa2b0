use Rattle.{mg_show.specs.{Reached.enter_line, WritingLemmas.{flat_more, puts_same, puts_then}}, std.proofs.Common.arith}
use Rattle.mg_show.proofs.reach.put_entries.Goals as goal

pub loop-entry-preserved : goal.loop-entry-preserved
loop-entry-preserved g c = puts_same g.K.Sink (flat_more (enter_line c.args.thread) c.args.entries.now c.loop-entry.entry-index 0 (omega arith)) (puts_then g.K.Sink c.loop-entry.invariant (puts_same g.K.Sink c.print_enter.ensures c.line.ensures))
