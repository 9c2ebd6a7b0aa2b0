use Rattle.{arrayvec.specs.ArrayVec.array_vec_len, mg_model.specs.Print.{hex_text, spaced}, std.proofs.Common.{◌≡◌, ◌+◌, ◌*◌, ◌≤◌, ◌++◌, length, map}}
use Rattle.std.proofs.Common.{take}
use Rattle.mg_show.proofs.lines.print_words.Given as goal

abbrev pub invariant-loop-word : goal.invariant-loop-word
invariant-loop-word l = record {
  text : l.out.items ≡ l.head ++ spaced (map hex_text (take l.word-index l.words));
  short : array_vec_len l.out ≤ length l.head + 19 * l.word-index;
}
