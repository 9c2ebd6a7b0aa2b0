use Rattle.{mg_model.specs.Print.{hex_text, spaced}, mg_text.proofs.Texts.words_more, std.proofs.Common.{◌++◌, get_or, ap, ◌∙◌, [], ◌∷◌, arith}}
use Rattle.mg_text.proofs.replies.push_words.Goals as goal

pub loop-w-preserved : goal.loop-w-preserved
loop-w-preserved c = record {
  text = c.push_word.ensures.text
      ∙ ap (λ v. v ++ spaced (hex_text (get_or c.args.ws.now c.loop-w.w-index 0) ∷ [])) c.loop-w.invariant.text
      ∙ words_more c.args.out.now.items c.args.ws.now c.loop-w.w-index (omega arith);
  short = omega arith;
}
