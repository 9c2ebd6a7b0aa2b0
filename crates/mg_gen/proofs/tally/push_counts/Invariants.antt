use Rattle.{arrayvec.specs.ArrayVec.array_vec_len, mg_gen.specs.Tallies.{count_lines, row_words}, std.proofs.Common.{◌≡◌, ◌+◌, ◌*◌, ◌≤◌, take}}
use Rattle.mg_gen.proofs.tally.push_counts.Given as goal

abbrev pub invariant-loop-i : goal.invariant-loop-i
invariant-loop-i l = record {
  text : l.out.items ≡ count_lines (take (l.i + 1) row_words) (take (l.i + 1) l.counts);
  short : array_vec_len l.out ≤ 32 * (l.i + 1);
}
