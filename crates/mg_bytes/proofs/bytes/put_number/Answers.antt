use Rattle.{mg_bytes.{proofs.Spliced.spliced, specs.WordLemmas.beside}, std.proofs.Common.{rules, arith}}
use Rattle.mg_bytes.proofs.bytes.put_number.Goals as goal

pub returns-clause-put : goal.returns-clause-put
returns-clause-put c = search (rules, spliced)

pub returns-clause-others : goal.returns-clause-others
returns-clause-others c b apart = grind (arith, beside)
