use Rattle.{mg_asm.{proofs.Stepwise.items_behind, specs.{Assembled.{items_of, words_in}, Labels.AreLabels}}, mg_model.specs.Words.is_newline}
use Rattle.std.{proofs.Common.{◌≡◌, ◌≤◌, length}, specs.List.slice_split}
use Rattle.mg_asm.proofs.assembling.items.Given as goal

-- the items so far with their labels, and those of the lines that are left
abbrev pub invariant-lines : goal.invariant-lines
invariant-lines l = record {
  same : items_behind l.items.items (slice_split is_newline l.rest) ≡ items_of (slice_split is_newline l.fn.text);
  labels : AreLabels l.labels l.items.items;
  counted : l.count ≡ words_in l.items.items;
  few : l.count ≤ length l.items.items;
}

abbrev pub decreases-lines : goal.decreases-lines
decreases-lines l = length l.rest
