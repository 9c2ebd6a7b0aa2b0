use Rattle.{mg_asm.{proofs.Stepwise.listed_behind, specs.Listed.listed}, mg_model.specs.Words.is_newline, std.proofs.Common.{◌≡◌, ◌+◌, ◌≤◌, length}}
use Rattle.std.specs.List.{slice_split}
use Rattle.mg_asm.proofs.listing.read_list.Given as goal

-- the words so far, and those of the lines that are left
abbrev pub invariant-lines : goal.invariant-lines
invariant-lines l = record {
  same : listed_behind l.words.items l.number (slice_split is_newline l.rest) ≡ listed l.fn.text;
  few : length l.words.items ≤ 524288;
  counted : l.number + length l.rest ≤ 1 + length l.fn.text;
}

abbrev pub decreases-lines : goal.decreases-lines
decreases-lines l = length l.rest
