-- The first reply of bytes, and the bytes after its newline.
use Rattle.{mg_asm.specs.CutLemmas.{cut-none, cut-some}, mg_document.specs.EndedLemmas.not_last, mg_model.specs.Ended.all_but_last}
use Rattle.std.{proofs.Common.{◌≡◌, ℕ, ◌<◌, Bool, not, List, [], ◌∷◌, length, take, drop, refl, ap, ◌∙◌}, specs.List.{prefix_len, slice_split}}

pub ended-none : (cuts : ℕ → Bool) (xs rest : List ℕ) (n : ℕ) → n ≡ prefix_len (λ b. not (cuts b)) xs → rest ≡ drop n xs → rest ≡ []
    → all_but_last (slice_split cuts xs) ≡ []
ended-none cuts xs rest n counted back none = ap all_but_last (cut-none cuts xs (take n xs) rest n counted refl back none)

pub ended-some : (cuts : ℕ → Bool) (xs piece rest more : List ℕ) (n : ℕ) → n ≡ prefix_len (λ b. not (cuts b)) xs → piece ≡ take n xs → rest ≡ drop n xs
    → 0 < length rest → more ≡ drop 1 rest → all_but_last (slice_split cuts xs) ≡ piece ∷ all_but_last (slice_split cuts more)
ended-some cuts xs piece rest more n counted front back some next = ap all_but_last (cut-some cuts xs piece rest more n counted front back some next) ∙ not_last cuts piece more
