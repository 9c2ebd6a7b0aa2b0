use Rattle.{mg_journal.proofs.Pairs.{bytes_held, held_put, pairs_put}, std.proofs.Common.arith}
use Rattle.mg_journal.proofs.writes.Writes.put_first_into.Goals as goal

pub invariant_of-self : goal.invariant_of-self
invariant_of-self c = (c.self.invariant.0, held_put _ _ c.self.invariant.1 _ c.self.view_is c.args.k c.requires.there c.put_first.new.block)

pub returns : goal.returns
returns c = grind (arith, pairs_put, bytes_held)
