use Rattle.{mg_asm.proofs.Stepwise.{listed-stepwise, listed_behind}, mg_model.specs.Words.is_newline, std.proofs.Common.{rules, ap, ◌∙◌}}
use Rattle.std.specs.List.{slice_split}
use Rattle.mg_asm.proofs.listing.read_list.Goals as goal

pub lines-init : goal.lines-init
lines-init c = record {
  same = ap (λ words. listed_behind words 1 (slice_split is_newline c.args.text.now)) (search rules) ∙ listed-stepwise (slice_split is_newline c.args.text.now);
  few = search rules;
  counted = search rules;
}
