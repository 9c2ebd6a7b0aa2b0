use Rattle.{mg_journal.{proofs.{Pairs.pairs_position, Waits.waits-at}, specs.Staged.goes_to}, std.proofs.Common.{◌∙◌, ap, position, sym}}
use Rattle.mg_journal.proofs.writes.Writes.place_of.Goals as goal

pub returns-clause-place : goal.returns-clause-place
returns-clause-place c =
    c.place_of.ensures ∙ sym (pairs_position c.self.inside.homes c.self.inside.blocks.items 1 c.args.block) ∙ ap (position (goes_to c.args.block)) c.self.view_is

pub returns-clause-waits : goal.returns-clause-waits
returns-clause-waits c = waits-at c.args.self.now c.args.block _ (returns-clause-place c)
