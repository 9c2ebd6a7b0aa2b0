use Rattle.{mg_model.specs.Words.same_bytes, std.proofs.Common.{◌≡◌, drop, length}}
use Rattle.mg_text.proofs.words.is_word.Given as goal

-- the words are the same if what is left of them is
abbrev pub invariant-loop-i : goal.invariant-loop-i
invariant-loop-i l = record {
  sizes : length l.word ≡ length l.known;
  same : same_bytes l.word l.known ≡ same_bytes (drop l.i l.word) (drop l.i l.known);
}
