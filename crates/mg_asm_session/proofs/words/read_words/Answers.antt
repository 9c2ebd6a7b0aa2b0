use Rattle.{mg_asm_session.proofs.Spelled.three_or_more, std.proofs.Common.{sym, arith}}
use Rattle.mg_asm_session.proofs.words.read_words.Goals as goal

pub returns-in_default-2-clause-command : goal.returns-in_default-2-clause-command
returns-in_default-2-clause-command c = let many = c.in_default.len_at_least in sym (three_or_more c.args.words.now (omega (arith, many)))
