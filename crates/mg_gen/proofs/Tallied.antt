-- One reply more is counted in its row.
use Rattle.{mg_gen.specs.Tallies.{row_of, tally_of}, mg_model.specs.declared.replies.Reply.Reply, std.proofs.Common.{◌≡◌, ℕ, ◌+◌, ◌-◌, ◌^◌, ◌<◌}}
use Rattle.std.proofs.Common.{◌==◌, Bool, true, false, List, [], ◌∷◌, ◌++◌, length, min, count_by, cond, get_or, slice_set, refl, ap, sym, ◌∙◌, arith}
use Rattle.std.proofs.lemmas.{Bool.Decides.nat_tests, List.{ext_get_or, get_or-set_other, get_or-set_same, length-set}}
use Rattle.std.proofs.lemmas.List.{FromFn.get_or-map-range_with_len, Sums.{count_by-le-length, sum_by_push}}

-- how many of these replies are counted in a row
abbrev counted : ℕ → List Reply → ℕ
counted row replies = count_by (λ answer. row_of answer == row) replies

length-tally : (replies : List Reply) → length (tally_of replies) ≡ 23
unfolding tally_of
length-tally replies = refl

tally-at : (replies : List Reply) (i : ℕ) → i < 23 → get_or (tally_of replies) i 0 ≡ counted i replies
unfolding tally_of
tally-at replies i h = get_or-map-range_with_len (λ row. counted row replies) 0 23 i i 0 h (omega arith)

counted_more : (replies : List Reply) (r : Reply) (i : ℕ) → counted i (replies ++ r ∷ []) ≡ counted i replies + cond (row_of r == i) 1 0
counted_more replies r i = sum_by_push (λ answer. cond (row_of answer == i) 1 0) replies r

-- the reply's own row, and another
in_row : (v : Bool) (replies : List Reply) (r : Reply) (counts : List ℕ) (row i new : ℕ) → (row == i) ≡ v → counts ≡ tally_of replies → length replies < 2 ^ 64 - 1
    → row ≡ row_of r → row < 23 → i < 23 → new ≡ min (get_or counts row 0 + 1) (2 ^ 64 - 1) → get_or (slice_set counts row new) i 0 ≡ counted i (replies ++ r ∷ [])
in_row true replies r counts row i new test same few placed within at more =
    let e : row ≡ i = grind (arith, nat_tests) in
    let long : length counts ≡ 23 = ap length same ∙ length-tally replies in
    let before : get_or counts i 0 ≡ counted i replies = ap (λ xs. get_or xs i 0) same ∙ tally-at replies i at in
    let most = count_by-le-length (λ answer. row_of answer == i) replies in
    let one : counted i (replies ++ r ∷ []) ≡ counted i replies + 1 = counted_more replies r i ∙ ap (λ b. counted i replies + cond b 1 0) (ap (λ n. n == i) (sym placed) ∙ test) in
    let put : get_or (slice_set counts row new) row 0 ≡ new = get_or-set_same counts row new 0 (omega (arith, within, long)) in
    let value : new ≡ min (counted i replies + 1) (2 ^ 64 - 1) = more ∙ ap (λ n. min (n + 1) (2 ^ 64 - 1)) (ap (λ n. get_or counts n 0) e ∙ before) in
    let exact : min (counted i replies + 1) (2 ^ 64 - 1) ≡ counted i replies + 1 = omega (arith, most, few) in
    ap (λ n. get_or (slice_set counts row new) n 0) (sym e) ∙ put ∙ value ∙ exact ∙ sym one
in_row false replies r counts row i new test same few placed within at more =
    let before : get_or counts i 0 ≡ counted i replies = ap (λ xs. get_or xs i 0) same ∙ tally-at replies i at in
    let none : counted i (replies ++ r ∷ []) ≡ counted i replies = counted_more replies r i ∙ ap (λ b. counted i replies + cond b 1 0) (ap (λ n. n == i) (sym placed) ∙ test) ∙ omega arith in
    get_or-set_other counts row i new 0 (λ e. let t : (row == i) ≡ true = grind (arith, nat_tests) in absurd cc) ∙ before ∙ sym none

pub tallied : (replies : List Reply) (r : Reply) (counts : List ℕ) (row new : ℕ) → counts ≡ tally_of replies → length replies < 2 ^ 64 - 1 → row ≡ row_of r → row < 23
    → new ≡ min (get_or counts row 0 + 1) (2 ^ 64 - 1) → slice_set counts row new ≡ tally_of (replies ++ r ∷ [])
tallied replies r counts row new same few placed within more =
    let long : length (slice_set counts row new) ≡ 23 = length-set counts row new ∙ ap length same ∙ length-tally replies in
    ext_get_or 0 (slice_set counts row new) (tally_of (replies ++ r ∷ [])) (long ∙ sym (length-tally (replies ++ r ∷ []))) (λ i h.
    let at : i < 23 = omega (arith, h, long) in
    in_row (row == i) replies r counts row i new refl same few placed within at more ∙ sym (tally-at (replies ++ r ∷ []) i at))
