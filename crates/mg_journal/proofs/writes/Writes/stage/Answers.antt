use Rattle.{mg_journal.proofs.Waits.staged-there, std.proofs.Common.{◌∙◌, sym}}
use Rattle.mg_journal.proofs.writes.Writes.stage.Goals as goal

pub returns-in-Some : goal.returns-in-Some
returns-in-Some c = c.replace.ensures ∙ staged-there c.args.self.now c.args.block c.in-Some.place (sym c.place_of.ensures.place ∙ c.in-Some.is) c.args.from.now
