use Rattle.{mg_volume.proofs.BlockParts.row_found, std.proofs.Common.{sym, ◌∙◌}}
use Rattle.mg_volume.proofs.object_block.row_at.Goals as goal

pub returns-in-Some : goal.returns-in-Some
returns-in-Some c = c.in-Some.ensures ∙ sym (row_found c.args.place c.args.objects.now)

pub returns-in-None : goal.returns-in-None
returns-in-None c = c.in-None.ensures ∙ sym (row_found c.args.place c.args.objects.now)
