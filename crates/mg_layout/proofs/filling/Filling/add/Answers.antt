use Rattle.{mg_model.specs.{Filled.IsFilled, FilledLemmas.length-filled}, std.proofs.Common.{◌≡◌, ◌≤◌, ◌+◌, ◌-◌, ◌++◌, ℕ, List, drop, take, length}}
use Rattle.std.proofs.{Common.{replicate, sym, ap, ◌∙◌, arith}, Math.Seq.drop-append_seam, lemmas.List.{append_assoc, drop-drop, drop-replicate}}
use Rattle.std.{proofs.lemmas.List.{length-append, length-drop}, specs.List.splice}
use Rattle.mg_layout.proofs.filling.Filling.add.Goals as goal

filled-more : (size : ℕ) (items bytes : List ℕ) (count : ℕ) → IsFilled 0 size items count → count + length bytes ≤ size → IsFilled 0 size (splice items count (count + length bytes) bytes) (count + length bytes)
filled-more size items bytes count is room =
    let n = length bytes in
    let xs = take count items in
    let rest = drop (count + n) items in
    let short : length xs ≡ count = length-filled 0 size items count is in
    let front : length (xs ++ bytes) ≡ count + n = length-append xs bytes ∙ ap (λ k. k + n) short in
    let joined : xs ++ (bytes ++ rest) ≡ (xs ++ bytes) ++ rest = sym (append_assoc xs bytes rest) in
    let behind : drop (count + n) (xs ++ (bytes ++ rest)) ≡ rest = ap (drop (count + n)) joined ∙ ap (λ k. drop k ((xs ++ bytes) ++ rest)) (sym front) ∙ drop-append_seam (xs ++ bytes) rest in
    let left : size - count - n ≡ size - (count + n) = omega arith in
    let zeros : rest ≡ replicate (size - (count + n)) 0 = sym (drop-drop n count items) ∙ ap (drop n) is.rest ∙ drop-replicate n (size - count) 0 ∙ ap (λ k. replicate k 0) left in
    let all : length items ≡ size = is.size in
    let tail : length rest ≡ size - (count + n) = length-drop (count + n) items ∙ ap (λ k. k - (count + n)) all in
    record {
      size = ap length joined ∙ length-append (xs ++ bytes) rest ∙ ap (λ k. k + length rest) front ∙ ap (λ k. count + n + k) tail ∙ omega arith;
      within = room;
      rest = behind ∙ zeros;
    }

pub invariant_of-self : goal.invariant_of-self
invariant_of-self g c = grind (arith, length-filled, filled-more)
