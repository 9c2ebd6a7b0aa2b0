use Rattle.std.proofs.Common.{append_assoc, arith}
use Rattle.mg_show.proofs.graph_lines.push_label.Goals as goal

pub returns-clause-text : goal.returns-clause-text
returns-clause-text c = grind (arith, append_assoc)
