-- How printed texts grow at their end.
use Rattle.mg_asm.specs.{Printed.{operand_text, printed, word_line}, Stored.{store_line, store_lines}, declared.printing.Operand.Operand}
use Rattle.{mg_model.specs.Print.{hex_digit, hex_digits, hex_text, spaced}, std.proofs.Common.{◌≡◌, ℕ, zero, suc, ◌+◌, ◌-◌, ◌*◌, ◌/◌, ◌%◌, ◌<◌, List}}
use Rattle.std.proofs.Common.{[], ◌∷◌, ◌++◌, length, get_or, map, take, refl, ap, sym, ◌∙◌, append_assoc, arith, length-take}
use Rattle.std.proofs.lemmas.List.{append-nil, map_more, take_more}

printed_append : (ws : List ℕ) (w : ℕ) → printed (ws ++ w ∷ []) ≡ printed ws ++ (word_line w ++ 10 ∷ [])
printed_append [] w = refl
printed_append (x ∷ ws) w = ap (λ v. word_line x ++ 10 ∷ v) (printed_append ws w) ∙ sym (append_assoc (word_line x) (10 ∷ printed ws) (word_line w ++ 10 ∷ []))

-- one word more
pub printed_more : (ws : List ℕ) (i : ℕ) → i < length ws → printed (take i ws) ++ (word_line (get_or ws i 0) ++ 10 ∷ []) ≡ printed (take (i + 1) ws)
printed_more ws i h = sym (ap printed (take_more ws i 0 h) ∙ printed_append (take i ws) (get_or ws i 0))

spaced_append : (texts : List (List ℕ)) (text : List ℕ) → spaced (texts ++ text ∷ []) ≡ spaced texts ++ 32 ∷ text
spaced_append [] text = ap (λ (v : List ℕ). 32 ∷ v) (append-nil text)
spaced_append (t ∷ texts) text = ap (λ v. 32 ∷ t ++ v) (spaced_append texts text) ∙ ap (λ (v : List ℕ). 32 ∷ v) (sym (append_assoc t (spaced texts) (32 ∷ text)))

-- one operand more
pub operands_more : (front : List ℕ) (operands : List Operand) (i : ℕ) (d : Operand) → i < length operands
    → (front ++ spaced (map operand_text (take i operands))) ++ 32 ∷ operand_text (get_or operands i d) ≡ front ++ spaced (map operand_text (take (i + 1) operands))
operands_more front operands i d h =
    append_assoc front (spaced (map operand_text (take i operands))) (32 ∷ operand_text (get_or operands i d))
    ∙ ap (λ v. front ++ v) (sym (ap spaced (map_more operand_text operands i d h) ∙ spaced_append (map operand_text (take i operands)) (operand_text (get_or operands i d))))

-- one digit more
pub hex_more : (front : List ℕ) (n w : ℕ) → 0 < n → (front ++ hex_digits (n - 1) (w / 16)) ++ hex_digit (w % 16) ∷ [] ≡ front ++ hex_digits n w
hex_more front zero w some = absurd (omega (arith, some))
hex_more front (suc n) w some = let e : suc n - 1 ≡ n = omega arith in rw e (append_assoc front (hex_digits n (w / 16)) (hex_digit (w % 16) ∷ []))

-- a space, 0x and the digits
pub hex_after : (front : List ℕ) (w : ℕ) → (front ++ 32 ∷ 48 ∷ 120 ∷ []) ++ hex_digits 16 w ≡ front ++ 32 ∷ hex_text w
unfolding hex_text
hex_after front w = append_assoc front (32 ∷ 48 ∷ 120 ∷ []) (hex_digits 16 w)

stored_append : (thread address : ℕ) (ws : List ℕ) (w : ℕ)
    → store_lines thread address (ws ++ w ∷ []) ≡ store_lines thread address ws ++ store_line thread (address + 8 * length ws) w
stored_append thread address [] w = let e : address + 8 * 0 ≡ address = omega arith in rw e (append-nil (store_line thread address w))
stored_append thread address (x ∷ ws) w =
    let e : address + 8 * length (x ∷ ws) ≡ (address + 8) + 8 * length ws = omega arith in
    rw e (ap (λ v. store_line thread address x ++ v) (stored_append thread (address + 8) ws w)
    ∙ sym (append_assoc (store_line thread address x) (store_lines thread (address + 8) ws) (store_line thread ((address + 8) + 8 * length ws) w)))

-- one line of a call more
pub stored_more : (thread address : ℕ) (ws : List ℕ) (i : ℕ) → i < length ws
    → store_lines thread address (take i ws) ++ store_line thread (address + 8 * i) (get_or ws i 0) ≡ store_lines thread address (take (i + 1) ws)
stored_more thread address ws i h =
    let n : length (take i ws) ≡ i = omega (arith, length-take i ws) in
    sym (ap (store_lines thread address) (take_more ws i 0 h)
    ∙ stored_append thread address (take i ws) (get_or ws i 0)
    ∙ ap (λ k. store_lines thread address (take i ws) ++ store_line thread (address + 8 * k) (get_or ws i 0)) n)
