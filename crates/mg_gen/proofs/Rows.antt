-- How the lines of the counts grow.
use Rattle.{mg_gen.specs.{Summary.refusals, Tallies.{count_line, count_lines, row_words}}, mg_model.specs.Abbreviations.refusal_text}
use Rattle.std.proofs.Common.{◌≡◌, ℕ, zero, suc, ◌+◌, ◌<◌, List, [], ◌∷◌, ◌++◌, length, get_or, take, ap, sym, ◌∙◌, add-one, append_assoc, arith}
use Rattle.std.proofs.lemmas.List.{append-nil, get_or-map}
use Rattle.mg_model.specs.declared.replies.Refusal.TheVariants as refusal

-- one line more
pub lines_more : (words : List (List ℕ)) (counts : List ℕ) (i : ℕ) → i < length words → i < length counts
    → count_lines (take (i + 1) words) (take (i + 1) counts) ≡ count_lines (take i words) (take i counts) ++ count_line (get_or words i []) (get_or counts i 0)
lines_more [] counts i h k = absurd (omega (arith, h))
lines_more (w ∷ words) [] i h k = absurd (omega (arith, k))
lines_more (w ∷ words) (n ∷ counts) zero h k = append-nil (count_line w n)
lines_more (w ∷ words) (n ∷ counts) (suc i) h k =
    let next : suc i + 1 ≡ suc (i + 1) = omega arith in
    ap (λ m. count_lines (take m (w ∷ words)) (take m (n ∷ counts))) next
    ∙ ap (λ v. count_line w n ++ v) (lines_more words counts i (omega (arith, h)) (omega (arith, k)))
    ∙ sym (append_assoc (count_line w n) (count_lines (take i words) (take i counts)) (count_line (get_or words i []) (get_or counts i 0)))

-- the word of a refusal's row
pub word-at : (i : ℕ) → i < 22 → get_or row_words (i + 1) [] ≡ refusal_text (get_or refusals i refusal.Syntax)
word-at i h = ap (λ n. get_or row_words n []) (add-one i) ∙ get_or-map refusal_text refusals i refusal.Syntax [] h
