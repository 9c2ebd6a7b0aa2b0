use Rattle.{mg_model.specs.Print.{hex_text, spaced}, mg_show.proofs.WordTexts.spaced-more, std.proofs.Common.{◌∷◌, ◌++◌, [], get_or, ap, ◌∙◌, arith}}
use Rattle.mg_show.proofs.lines.print_words.Goals as goal

pub loop-word-preserved : goal.loop-word-preserved
loop-word-preserved c = record {
  text = c.push_word.ensures.text
      ∙ ap (λ v. v ++ spaced (hex_text (get_or c.args.words.now c.loop-word.word-index 0) ∷ [])) c.loop-word.invariant.text
      ∙ spaced-more hex_text c.args.head.now c.args.words.now c.loop-word.word-index 0 (omega arith);
  short = omega arith;
}
