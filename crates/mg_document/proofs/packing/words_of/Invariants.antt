use Rattle.{mg_document.specs.Documents.words_for, mg_model.specs.Bytes.{numbers_at, padded_to}, std.proofs.Common.{◌≡◌, ◌*◌, ◌∷◌, length}}
use Rattle.mg_document.proofs.packing.words_of.Given as goal

-- the length and the words so far
abbrev pub invariant-loop-k : goal.invariant-loop-k
invariant-loop-k l = l.words.items ≡ length l.bytes ∷ numbers_at (padded_to (8 * words_for (length l.bytes)) l.bytes) 0 l.k
