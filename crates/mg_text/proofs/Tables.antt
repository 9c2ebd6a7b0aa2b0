-- The table of pairs holds the two digits of each byte.
use Rattle.{mg_model.specs.Print.hex_digit, mg_text.specs.declared.replies.TheConstants.PAIRS, std.proofs.Common.{◌≡◌, ℕ, ◌+◌, ◌*◌, ◌/◌, ◌%◌, ◌<◌}}
use Rattle.std.{proofs.{Common.{get_or, map, refl, ap, sym, ◌∙◌, arith}, lemmas.List.FromFn.get_or-map-range_with_len}, specs.List.range_with_len}

-- two functions that give the same list give the same of each place in it
same_at : (f g : ℕ → ℕ) (n b : ℕ) → map f (range_with_len 0 n) ≡ map g (range_with_len 0 n) → b < n → f b ≡ g b
same_at f g n b same h =
    sym (get_or-map-range_with_len f 0 n b b 0 h (omega arith))
    ∙ ap (λ xs. get_or xs b 0) same
    ∙ get_or-map-range_with_len g 0 n b b 0 h (omega arith)

pub first-of-pair : (byte : ℕ) → byte < 256 → get_or PAIRS (byte * 2) 0 ≡ hex_digit (byte / 16)
first-of-pair byte h = same_at (λ b. get_or PAIRS (b * 2) 0) (λ b. hex_digit (b / 16)) 256 byte refl h

pub second-of-pair : (byte : ℕ) → byte < 256 → get_or PAIRS (byte * 2 + 1) 0 ≡ hex_digit (byte % 16)
second-of-pair byte h = same_at (λ b. get_or PAIRS (b * 2 + 1) 0) (λ b. hex_digit (b % 16)) 256 byte refl h
