use Rattle.{mg_document_session.proofs.Spelled.{five_or_more, just_two}, std.proofs.Common.{sym, arith}}
use Rattle.mg_document_session.proofs.words.read_words.Goals as goal

pub returns-in_default-2-clause-command : goal.returns-in_default-2-clause-command
returns-in_default-2-clause-command c =
    let some = c.in_default.len_at_least in
    let few = c.in_default.len_below in
    sym (just_two c.args.words.now (omega (arith, some)) (omega (arith, few)))

pub returns-in_default-3-clause-command : goal.returns-in_default-3-clause-command
returns-in_default-3-clause-command c = let many = c.in_default.len_at_least in sym (five_or_more c.args.words.now (omega (arith, many)))
