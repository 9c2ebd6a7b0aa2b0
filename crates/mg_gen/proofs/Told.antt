-- The lines of the counts say how often each word is among the replies.
use Rattle.mg_gen.specs.{Summary.{counted_as, word_line}, Tallies.{CountsAreTold, count_line, count_lines, row_of, row_words, tally_of}}
use Rattle.mg_model.specs.{Abbreviations.{refusal_number, refusal_text}, Words.same_bytes, declared.replies.{Refusal.Refusal, Reply.Reply}}
use Rattle.std.proofs.Common.{◌≡◌, ℕ, ◌==◌, Bool, List, [], ◌∷◌, ◌++◌, cond, count_by, flat_map, map, drop, get_or, length, true, refl, sym, ap, ◌∙◌}
use Rattle.std.{proofs.lemmas.List.Sums.sum_by-cons, specs.List.range_with_len}
use Rattle.mg_model.specs.declared.replies.Refusal.TheVariants as refusal
use Rattle.mg_model.specs.declared.replies.Reply.TheVariants as reply

-- a reply is counted by these words as it is in these rows
abbrev AreCountedAlike : List (List ℕ) → List ℕ → Type 0
AreCountedAlike words rows = (r : Reply) → map (λ word. same_bytes (counted_as r) word) words ≡ map (λ row. row_of r == row) rows

words_as_rows : (why : Refusal) → map (λ word. same_bytes (refusal_text why) word) row_words ≡ map (λ row. refusal_number why == row) (range_with_len 0 23)
words_as_rows refusal.Syntax = refl
words_as_rows other = refl

replies_as_rows : AreCountedAlike row_words (range_with_len 0 23)
replies_as_rows (reply.No why) = words_as_rows why
replies_as_rows other = refl

count-same : (p q : Reply → Bool) → ((r : Reply) → p r ≡ q r) → (replies : List Reply) → count_by p replies ≡ count_by q replies
count-same p q same [] = refl
count-same p q same (r ∷ rs) =
    rw (sum_by-cons (λ x. cond (p x) 1 0) r rs, sum_by-cons (λ x. cond (q x) 1 0) r rs, same r, count-same p q same rs) refl

lines-same : (replies : List Reply) (words : List (List ℕ)) (rows : List ℕ) → AreCountedAlike words rows
    → count_lines words (map (λ row. count_by (λ answer. row_of answer == row) replies) rows) ≡ flat_map (word_line replies) words
lines-same replies [] rows alike = refl
lines-same replies (word ∷ words) [] alike = absurd (let e = ap length (alike (reply.No refusal.Syntax)) in cc)
lines-same replies (word ∷ words) (row ∷ rows) alike =
    ap (λ n. count_line word n ++ count_lines words (map (λ i. count_by (λ answer. row_of answer == i) replies) rows))
    (count-same (λ answer. row_of answer == row) (λ answer. same_bytes (counted_as answer) word) (λ r. sym (ap (λ (bs : List Bool). get_or bs 0 true) (alike r))) replies)
    ∙ ap (λ v. word_line replies word ++ v) (lines-same replies words rows (λ r. ap (λ (bs : List Bool). drop 1 bs) (alike r)))

pub counts-are-told : CountsAreTold
unfolding tally_of
counts-are-told replies = lines-same replies row_words (range_with_len 0 23) replies_as_rows
