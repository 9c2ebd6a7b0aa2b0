use Rattle.mg_asm.{proofs.{Back.assembled-printed, Grown.printed_more}, specs.{Assembled.assembled, Printed.{printed, word_line}}}
use Rattle.{mg_model.specs.Ranges.IsWord, std.proofs.{Common.{◌++◌, ◌∷◌, [], get_or, ap, ◌∙◌, arith}, lemmas.List.take_all}}
use Rattle.std.proofs.lemmas.List.Elements.{All-from_get_or}
use Rattle.mg_asm.proofs.printing.print.Goals as goal

pub loop-word-preserved : goal.loop-word-preserved
loop-word-preserved c =
    c.in_ok-put_word.ensures
    ∙ ap (λ v. v ++ (word_line (get_or c.args.words.now c.loop-word.word-index 0) ++ 10 ∷ [])) c.loop-word.invariant
    ∙ printed_more c.args.words.now c.loop-word.word-index (omega arith)

pub returns-clause-back : goal.returns-clause-back
returns-clause-back c few =
    ap assembled c.loop-word.invariant
    ∙ ap (λ ws. assembled (printed ws)) (take_all c.loop-word.word-index c.args.words.now (omega arith))
    ∙ assembled-printed c.args.words.now (All-from_get_or IsWord c.args.words.now 0 (λ i below. (c.type_inv.words i).fits)) few
