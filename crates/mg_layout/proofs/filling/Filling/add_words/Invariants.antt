use Rattle.{mg_model.specs.Bytes.words_bytes, std.proofs.Common.{◌≡◌, ◌+◌, ◌*◌, ◌++◌, length, take}}
use Rattle.mg_layout.proofs.filling.Filling.add_words.Given as goal

-- the words so far are there
abbrev pub invariant-loop-word : goal.invariant-loop-word
invariant-loop-word g l = record {
  value : l.self ≡ l.initial.self ++ words_bytes (take l.word-index l.words);
  long : length l.self ≡ length l.initial.self + 8 * l.word-index;
}
