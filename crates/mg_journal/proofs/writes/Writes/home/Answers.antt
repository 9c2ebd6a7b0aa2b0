use Rattle.{mg_journal.proofs.Pairs.{home_held, pairs_count}, std.proofs.Common.{◌∙◌, ap, arith, length}}
use Rattle.mg_journal.proofs.writes.Writes.home.Goals as goal

pub at-requires : goal.at-requires
at-requires c = record { there = omega (arith, c.requires.there, ap length c.self.view_is, pairs_count c.self.inside.homes c.self.inside.blocks.items 1) }

pub returns : goal.returns
returns c = record { home = c.at.ensures.home ∙ home_held _ _ c.self.invariant.1 _ c.self.view_is c.args.k c.requires.there 0 }
