use Rattle.{mg_model.specs.Bytes.block_words, std.proofs.Common.{◌≡◌, ◌≢◌, ◌≤◌, ◌<◌, ◌+◌, ◌-◌, ◌*◌, ◌%◌, ◌^◌, ℕ, slice_index}}
use Rattle.mg_pages.proofs.pairs.next_pair.Given as goal

-- no pair before this one has the word, and each first word before it is counted
abbrev pub invariant-loop-j : goal.invariant-loop-j
invariant-loop-j g l = record {
  none : (k : ℕ) → l.from ≤ k → k < l.j → slice_index (block_words l.block) (2 + 2 * k) ≢ l.first;
  words : l.words % 2 ^ 64 ≡ (l.initial.words + (l.j - l.from)) % 2 ^ 64;
  ticks : l.steps ≡ l.initial.steps + (l.j - l.from);
}
