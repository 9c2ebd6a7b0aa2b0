use Rattle.mg_asm.{proofs.{Loops.lines-next, Stepwise.{items-stepwise, items_behind, words_in-more}}, specs.Assembled.{behind, words_in}}
use Rattle.{mg_asm.specs.{Labels.{AreLabels, KeepsLabel}, Reading.line_reading}, mg_model.specs.Words.is_newline, std.proofs.Common.{◌≡◌, [], ◌∷◌}}
use Rattle.std.{proofs.Common.{◌++◌, length, Ok, ap, sym, subst, ◌∙◌, rules, arith, length-append}, specs.List.slice_split}
use Rattle.mg_asm.proofs.assembling.items.Goals as goal

pub lines-preserved : goal.lines-preserved
lines-preserved c =
    let before = c.lines.items.items in
    let pushed : c.push.new.self.items ≡ before ++ c.in-Ok.item ∷ [] = search rules in
    let pieces = rw c.in-Some.is at c.cut.ensures.pieces in
    let read : Ok c.in-Ok.item ≡ behind before (line_reading c.cut.result.0.now) = c.in-Ok.ensures before c.lines.invariant.labels c.lines.invariant.counted ∙ ap (behind before) c.read_line.ensures in
    let grown = ap words_in pushed in
    let more = words_in-more before c.in-Ok.item in
    let longer = ap length pushed in
    let one = length-append before (c.in-Ok.item ∷ []) in
    let keeps : KeepsLabel c.lines.labels c.add_label.new.labels c.in-Ok.item c.lines.count = search rules in
    record {
      labels = subst (λ items. AreLabels c.add_label.new.labels items) (sym pushed) (keeps before (line_reading c.cut.result.0.now) c.lines.invariant.labels c.lines.invariant.counted read);
      same = ap (λ items. items_behind items (slice_split is_newline c.in-Some.more.now)) pushed
          ∙ sym (lines-next before c.lines.rest.now c.cut.result.0.now c.in-Some.more.now c.in-Ok.item pieces read)
          ∙ c.lines.invariant.same;
      counted = omega (arith, c.size-count.ensures.value);
      few = omega (arith, c.size-count.ensures.one);
    }

pub lines-init : goal.lines-init
lines-init c = record {
  same = ap (λ items. items_behind items (slice_split is_newline c.args.text.now)) (search rules) ∙ items-stepwise (slice_split is_newline c.args.text.now);
  labels = search rules;
  counted = search rules;
  few = search rules;
}
