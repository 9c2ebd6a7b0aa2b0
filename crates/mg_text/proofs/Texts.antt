-- How texts grow at their end.
use Rattle.{mg_model.specs.Print.{hex_digit, hex_digits, hex_text, reply_line, spaced}, std.proofs.Common.{◌≡◌, ℕ, suc, ◌+◌, ◌/◌, ◌%◌, ◌<◌, List, []}}
use Rattle.std.proofs.{Common.{◌∷◌, ◌++◌, drop, length, get_or, map, take, refl, ap, subst, sym, ◌∙◌, append_assoc, arith}, lemmas.List.append-nil}
use Rattle.std.proofs.lemmas.List.{map_more}
use Rattle.mg_model.specs.declared.replies.Reply.TheVariants as reply

-- a space, 0x and the digits
pub word_after : (front : List ℕ) (w : ℕ) → (front ++ 32 ∷ 48 ∷ 120 ∷ []) ++ hex_digits 16 w ≡ front ++ spaced (hex_text w ∷ [])
unfolding hex_text
word_after front w =
    append_assoc front (32 ∷ 48 ∷ 120 ∷ []) (hex_digits 16 w) ∙ ap (λ v. front ++ 32 ∷ 48 ∷ 120 ∷ v) (sym (append-nil (hex_digits 16 w)))

-- one text more
spaced_more : (texts : List (List ℕ)) (text : List ℕ) → spaced (texts ++ text ∷ []) ≡ spaced texts ++ spaced (text ∷ [])
spaced_more [] text = refl
spaced_more (t ∷ texts) text = ap (λ v. 32 ∷ t ++ v) (spaced_more texts text) ∙ ap (λ v. 32 ∷ v) (sym (append_assoc t (spaced texts) (spaced (text ∷ []))))

-- one word more
pub words_more : (front : List ℕ) (ws : List ℕ) (i : ℕ) → i < length ws
    → (front ++ spaced (map hex_text (take i ws))) ++ spaced (hex_text (get_or ws i 0) ∷ []) ≡ front ++ spaced (map hex_text (take (i + 1) ws))
words_more front ws i h =
    append_assoc front (spaced (map hex_text (take i ws))) (spaced (hex_text (get_or ws i 0) ∷ []))
    ∙ ap (λ v. front ++ v) (sym (ap spaced (map_more hex_text ws i 0 h) ∙ spaced_more (map hex_text (take i ws)) (hex_text (get_or ws i 0))))

-- the last two digits are those of the last byte
two_digits : (n w : ℕ) (more : List ℕ) → hex_digits (n + 2) w ++ more ≡ hex_digits n (w / 256) ++ hex_digit (w % 256 / 16) ∷ hex_digit (w % 256 % 16) ∷ more
two_digits n w more =
    let count : n + 2 ≡ suc (suc n) = omega arith in
    let rest : w / 256 ≡ w / 16 / 16 = omega arith in
    let high : w % 256 / 16 ≡ w / 16 % 16 = omega arith in
    let low : w % 256 % 16 ≡ w % 16 = omega arith in
    rw (count, rest, high, low) (
    append_assoc (hex_digits n (w / 16 / 16) ++ hex_digit (w / 16 % 16) ∷ []) (hex_digit (w % 16) ∷ []) more
    ∙ append_assoc (hex_digits n (w / 16 / 16)) (hex_digit (w / 16 % 16) ∷ []) (hex_digit (w % 16) ∷ more))

-- one pair more
pub digits_more : (before behind w : ℕ) (old new : List ℕ) → before + 2 ≡ behind
    → drop before new ≡ hex_digit (w % 256 / 16) ∷ hex_digit (w % 256 % 16) ∷ drop (before + 2) old
    → hex_digits before (w / 256) ++ drop before new ≡ hex_digits behind w ++ drop behind old
digits_more before behind w old new e put =
    subst (λ n. hex_digits before (w / 256) ++ drop before new ≡ hex_digits n w ++ drop n old) e (
    ap (λ v. hex_digits before (w / 256) ++ v) put ∙ sym (two_digits before w (drop (before + 2) old)))

-- ok, the word and a newline
pub word_line : (w : ℕ) (digits : List ℕ) → digits ≡ hex_digits 16 w → 111 ∷ 107 ∷ 32 ∷ 48 ∷ 120 ∷ (digits ++ 10 ∷ []) ≡ reply_line (reply.Value w)
unfolding hex_text
word_line w digits e = ap (λ v. 111 ∷ 107 ∷ 32 ∷ 48 ∷ 120 ∷ (v ++ 10 ∷ [])) (e ∙ sym (append-nil (hex_digits 16 w)))
