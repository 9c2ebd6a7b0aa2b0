use Rattle.{arrayvec.specs.ArrayVec.array_vec_len, mg_show.specs.StateText.seed_text, std.proofs.Common.{◌≡◌, ◌+◌, ◌*◌, ◌≤◌, ◌++◌, take}}
use Rattle.mg_show.proofs.lines.push_seed.Given as goal

abbrev pub invariant-loop-byte : goal.invariant-loop-byte
invariant-loop-byte l = record {
  text : l.out.items ≡ l.fn.out.items ++ seed_text (take l.byte-index l.seed);
  short : array_vec_len l.out ≤ array_vec_len l.fn.out + 2 * l.byte-index;
}
