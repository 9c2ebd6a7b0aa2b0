use Rattle.{memchr.specs.Find.is_byte, mg_volume.proofs.ThreadSearch.first_byte}
use Rattle.mg_volume.proofs.threads.first_ready.Goals as goal

pub returns : goal.returns
returns c = first_byte (is_byte 1) c.args.marks.now c.memchr.result c.memchr.ensures
