use Rattle.mg_journal.specs.Standing.{total_of}
use Rattle.mg_pages.proofs.blocks.Blocks.commit.Goals as goal

pub returns-in-Ok-clause-takes : goal.returns-in-Ok-clause-takes
returns-in-Ok-clause-takes g c = record {
  stands = c.in-Ok.ensures.stands;
  staged = c.take.ensures.empty;
  kept = λ r long are. c.take.ensures.kept (total_of c.args.self.now.store) r c.requires.homes long are;
}
