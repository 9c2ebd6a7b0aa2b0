-- Each reply is counted in one row.
use Rattle.{mg_gen.specs.Tallies.{CountsAddUp, WordsAreInRows, row_of, tally_of}, mg_model.specs.Abbreviations.refusal_number}
use Rattle.{mg_model.specs.declared.replies.{Refusal.Refusal, Reply.Reply}, std.proofs.Common.{◌≡◌, ℕ, zero, suc, ◌+◌, ◌==◌, List, [], ◌∷◌, length}}
use Rattle.std.{proofs.{Common.{map, sum, cond, count_by, refl, ap, ◌∙◌, arith}, lemmas.List.Sums.sum_by-cons}, specs.List.range_with_len}
use Rattle.mg_model.specs.declared.replies.Refusal.TheVariants as refusal
use Rattle.mg_model.specs.declared.replies.Reply.TheVariants as reply

-- the sum over k rows from a on
abbrev total : (ℕ → ℕ) → ℕ → ℕ → ℕ
total f a k = sum (map f (range_with_len a k))

-- how often row n is among them
abbrev hits : ℕ → ℕ → ℕ → ℕ
hits n a k = total (λ i. cond (n == i) 1 0) a k

adds_hits : (n a k : ℕ) (f g : ℕ → ℕ) → ((i : ℕ) → g i ≡ cond (n == i) 1 0 + f i) → total g a k ≡ hits n a k + total f a k
adds_hits n a zero f g h = refl
adds_hits n a (suc k) f g h =
    let rest = adds_hits n (a + 1) k f g h in
    let here = h a in
    let one = sum_by-cons (λ x. x) (g a) (map g (range_with_len (a + 1) k)) in
    let two = sum_by-cons (λ x. x) (cond (n == a) 1 0) (map (λ i. cond (n == i) 1 0) (range_with_len (a + 1) k)) in
    let three = sum_by-cons (λ x. x) (f a) (map f (range_with_len (a + 1) k)) in
    omega (arith, rest, here, one, two, three)

once_refused : (word : Refusal) → hits (refusal_number word) 0 23 ≡ 1
once_refused refusal.Syntax = refl
once_refused other = refl

once : (r : Reply) → hits (row_of r) 0 23 ≡ 1
once (reply.No word) = once_refused word
once other = refl

-- how many of these replies are counted in a row
abbrev counted : List Reply → ℕ → ℕ
counted replies row = count_by (λ answer. row_of answer == row) replies

sum-counted : (replies : List Reply) → total (counted replies) 0 23 ≡ length replies
sum-counted [] = refl
sum-counted (r ∷ rs) =
    let more = adds_hits (row_of r) 0 23 (counted rs) (counted (r ∷ rs)) (λ i. sum_by-cons (λ answer. cond (row_of answer == i) 1 0) r rs) in
    let single = once r in
    let rest = sum-counted rs in
    more ∙ ap (λ n. n + total (counted rs) 0 23) single ∙ omega (arith, rest)

pub counts-add-up : CountsAddUp
unfolding tally_of
counts-add-up replies = sum-counted replies

pub words-in-rows : WordsAreInRows
words-in-rows refusal.Syntax = refl
words-in-rows other = refl
