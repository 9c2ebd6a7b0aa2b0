use Rattle.mg_laws.proofs.RefusedLeaves.{refused-leaves}
use Rattle.mg_laws.proofs.refused_lines_change_nothing.Goals as goal

pub returns : goal.returns
returns c = refused-leaves
