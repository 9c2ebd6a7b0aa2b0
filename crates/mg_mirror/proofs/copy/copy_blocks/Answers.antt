use Rattle.{mg_mirror.proofs.Copied.copies_since, std.proofs.Common.rules}
use Rattle.mg_mirror.proofs.copy.copy_blocks.Goals as goal

pub returns : goal.returns
returns g c = search (rules, copies_since)
