use Rattle.{mg_commands.proofs.Spelled.{run_of-other, run_of-three, run_of-two}, std.proofs.Common.{sym, ◌∙◌}}
use Rattle.mg_commands.proofs.words.run.Goals as goal

pub returns-then-words-eq2-clause-batch : goal.returns-then-words-eq2-clause-batch
returns-then-words-eq2-clause-batch c = c.run_alone.ensures.batch ∙ run_of-two c.args.words.now c.index-words-1.result _ c.if-words-eq2.true c.index-words-1.is c.as_bytes.ensures.value

pub returns-then-words-eq3-clause-batch : goal.returns-then-words-eq3-clause-batch
returns-then-words-eq3-clause-batch c =
    c.run_with.ensures.batch
    ∙ run_of-three c.args.words.now c.index-words-1-then-words-eq3.result c.index-words-2.result _ _ c.if-words-eq3.true c.index-words-1-then-words-eq3.is c.index-words-2.is c.as_bytes-then-words-eq3.ensures.value c.as_bytes-then-words-eq3-2.ensures.value

pub returns-clause-batch : goal.returns-clause-batch
returns-clause-batch c = sym (run_of-other c.args.words.now c.if-words-eq2.false c.if-words-eq3.false)
