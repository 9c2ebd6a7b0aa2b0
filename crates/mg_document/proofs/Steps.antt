-- The bytes that replies give, with one reply more.
use Rattle.mg_document.specs.{Replies.{bytes_behind, with_told, word_told}, declared.faults.ReplyFault.TheVariants.At}
use Rattle.{mg_document.specs.declared.faults.ReplyKind.TheVariants.{Missing, NoWord}, mg_model.specs.Abbreviations.word_bytes, std.proofs.Common.◌≡◌}
use Rattle.std.proofs.Common.{ℕ, ◌+◌, ◌-◌, ◌<◌, suc, List, [], ◌∷◌, ◌++◌, Some, None, Err, ap, sym, ◌∙◌, arith}

-- a count that is not at its end
left_more : (count k : ℕ) → k < count → count - k ≡ suc (count - (k + 1))
left_more count k below = omega arith

pub behind-word : (before grown : List ℕ) (k count word : ℕ) (replies more : List (List ℕ)) (reply : List ℕ) → k < count → replies ≡ reply ∷ more → Some word ≡ word_told reply → grown ≡ before ++ word_bytes word
    → bytes_behind grown (k + 1 + 2) (count - (k + 1)) more ≡ bytes_behind before (k + 2) (count - k) replies
behind-word before grown k count word replies more reply below are told put =
    let n : k + 2 + 1 ≡ k + 1 + 2 = omega arith in
    sym (ap (λ c. bytes_behind before (k + 2) c replies) (left_more count k below)
    ∙ ap (bytes_behind before (k + 2) (suc (count - (k + 1)))) are
    ∙ ap (λ o. with_told (k + 2) o (λ word. bytes_behind (before ++ word_bytes word) (k + 2 + 1) (count - (k + 1)) more)) (sym told)
    ∙ ap (λ m. bytes_behind (before ++ word_bytes word) m (count - (k + 1)) more) n
    ∙ ap (λ v. bytes_behind v (k + 1 + 2) (count - (k + 1)) more) (sym put))

pub behind-no_word : (before : List ℕ) (k count : ℕ) (replies more : List (List ℕ)) (reply : List ℕ) → k < count → replies ≡ reply ∷ more → None ≡ word_told reply
    → bytes_behind before (k + 2) (count - k) replies ≡ Err (At (k + 2) NoWord)
behind-no_word before k count replies more reply below are told =
    ap (λ c. bytes_behind before (k + 2) c replies) (left_more count k below)
    ∙ ap (bytes_behind before (k + 2) (suc (count - (k + 1)))) are
    ∙ ap (λ o. with_told (k + 2) o (λ word. bytes_behind (before ++ word_bytes word) (k + 2 + 1) (count - (k + 1)) more)) (sym told)

pub behind-missing : (before : List ℕ) (k count : ℕ) (replies : List (List ℕ)) → k < count → replies ≡ []
    → bytes_behind before (k + 2) (count - k) replies ≡ Err (At (k + 2) Missing)
behind-missing before k count replies below are =
    ap (λ c. bytes_behind before (k + 2) c replies) (left_more count k below)
    ∙ ap (bytes_behind before (k + 2) (suc (count - (k + 1)))) are
