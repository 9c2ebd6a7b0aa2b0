use Rattle.mg_serve.proofs.PartialLemmas.{ended, ended_whole}
use Rattle.mg_serve.proofs.partial.PartialLine.finish_with.Goals as goal

pub returns-then-is_empty-clause-line : goal.returns-then-is_empty-clause-line
returns-then-is_empty-clause-line c = ended_whole c.args.self.now c.args.bytes.now c.read_line.result (c.is_empty.ensures c.if-is_empty.true) c.requires c.read_line.ensures

pub returns-else-is_empty-clause-line : goal.returns-else-is_empty-clause-line
returns-else-is_empty-clause-line c =
    ended c.args.self.now c.add_all.new.self c.finish.new.self c.args.bytes.now c.finish.result c.add_all.ensures.same c.add_all.ensures.whole c.finish.ensures.line c.finish.ensures.empty
