use Rattle.mg_show.specs.{StateText.{entry_text, password_text, object_text}, WritingLemmas.{objects_more, puts_same, puts_then}}
use Rattle.std.proofs.Common.{ap, arith, flat_map}
use Rattle.mg_show.proofs.state.put_objects.Goals as goal

pub loop-i-preserved : goal.loop-i-preserved
loop-i-preserved g c =
    puts_same g.K.Sink (objects_more object_text c.args.shown.now.objects c.loop-i.i c.row-row.result.now (omega arith) c.row-row.ensures)
    (puts_then g.K.Sink c.loop-i.invariant
    (puts_then g.K.Sink
    (puts_then g.K.Sink (puts_then g.K.Sink (puts_same g.K.Sink c.print_object.ensures c.line.ensures) (puts_same g.K.Sink (ap (flat_map password_text) c.passwords.ensures) c.put_passwords.ensures))
    (puts_same g.K.Sink (ap (flat_map entry_text) c.entries.ensures) c.put_entries.ensures))
    c.put_extension.ensures))
