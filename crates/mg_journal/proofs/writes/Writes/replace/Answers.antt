use Rattle.mg_journal.proofs.Pairs.{held_put, pairs_put}
use Rattle.mg_journal.proofs.writes.Writes.replace.Goals as goal

pub invariant_of-self : goal.invariant_of-self
invariant_of-self c = (c.self.invariant.0, held_put _ _ c.self.invariant.1 _ c.self.view_is c.args.k c.requires.there c.args.from.now)

pub returns : goal.returns
returns c = pairs_put _ _ c.self.invariant.1 _ c.self.view_is c.args.k c.requires.there c.args.from.now
