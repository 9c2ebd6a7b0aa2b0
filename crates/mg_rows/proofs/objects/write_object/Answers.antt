use Rattle.{mg_model.specs.Spelling.object_read, mg_rows.proofs.ObjectFields.zeros-free, std.proofs.Common.{ap, ◌∙◌}}
use Rattle.mg_rows.proofs.objects.write_object.Goals as goal

pub returns-in-None : goal.returns-in-None
returns-in-None c = rw c.in-None.is (record { spelled = c.copy_to-in-None.ensures; read_back = ap object_read c.copy_to-in-None.ensures ∙ zeros-free })
