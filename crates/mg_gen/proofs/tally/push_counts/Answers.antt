use Rattle.{mg_gen.{proofs.Rows.{lines_more, word-at}, specs.Tallies.{count_line, count_lines, row_words}}, std.proofs.Common.{◌+◌, ◌++◌, get_or}}
use Rattle.std.proofs.Common.{take, ap, sym, ◌∙◌, arith}
use Rattle.mg_gen.proofs.tally.push_counts.Goals as goal

pub loop-i-preserved : goal.loop-i-preserved
loop-i-preserved c = record {
  text = c.push_row-in-loop-i.ensures.text
      ∙ ap (λ v. v ++ count_line c.refusal_word.result.now (get_or c.args.counts.now (c.loop-i.i + 1) 0)) c.loop-i.invariant.text
      ∙ ap (λ w. count_lines (take (c.loop-i.i + 1) row_words) (take (c.loop-i.i + 1) c.args.counts.now) ++ count_line w (get_or c.args.counts.now (c.loop-i.i + 1) 0))
      (c.refusal_word.ensures.text ∙ sym (word-at c.loop-i.i (omega arith)))
      ∙ sym (lines_more row_words c.args.counts.now (c.loop-i.i + 1) (omega arith) (omega arith));
  short = omega arith;
}
