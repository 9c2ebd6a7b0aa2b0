use Rattle.{arrayvec.specs.ArrayVec.array_vec_len, mg_model.specs.Print.{hex_text, spaced}, std.proofs.Common.{◌≡◌, ◌+◌, ◌*◌, ◌≤◌, ◌++◌, map, take}}
use Rattle.mg_text.proofs.replies.push_words.Given as goal

abbrev pub invariant-loop-w : goal.invariant-loop-w
invariant-loop-w l = record {
  text : l.out.items ≡ l.fn.out.items ++ spaced (map hex_text (take l.w-index l.ws));
  short : array_vec_len l.out ≤ array_vec_len l.fn.out + 19 * l.w-index;
}
