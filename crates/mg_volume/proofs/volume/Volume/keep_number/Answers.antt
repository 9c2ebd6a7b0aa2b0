use Rattle.{mg_volume.{proofs.ThreadChanged.living, specs.Meaning.threads_in}, std.proofs.Common.◌≤◌}
use Rattle.mg_volume.proofs.volume.Volume.keep_number.Goals as goal

in_range : (c : goal.After-frame-frame) → (1 ≤ c.args.number) × (c.args.number ≤ 256)
in_range c = living _ ((1 ≤ c.args.number) × (c.args.number ≤ 256)) c.frame-frame.result c.args.number (threads_in c.args.self.now) c.frame-frame.ensures.found c.frame-frame.ensures.within_1_and_256 c.requires

pub returns-clause-at_least_1 : goal.returns-clause-at_least_1
returns-clause-at_least_1 c = (in_range c).0

pub returns-clause-at_most_256 : goal.returns-clause-at_most_256
returns-clause-at_most_256 c = (in_range c).1
