-- The words of a generated line.
use Rattle.{mg_model.specs.{Print.hex_text, Words.is_some_word}, mg_text.specs.NumberLemmas.{High, decimal-digits, digits-high, hex-high, hex-some}}
use Rattle.{mg_text.specs.NumberLemmas.length-hex, std.proofs.Common.{◌≡◌, ℕ, ◌^◌, ◌<◌, ◌≤◌, List, [], ◌∷◌, length, true, refl, arith}}
use Rattle.std.{proofs.lemmas.Fmt.{decimal_nonempty, length-decimal-le}, specs.Fmt.decimal}

-- a word of a generated line: some bytes, none of them blank, and few
pub record IsWord (bytes : List ℕ) : Type 0 where
  pub some : is_some_word bytes ≡ true
  pub high : High bytes
  pub few : length bytes ≤ 20

some_word : (xs : List ℕ) → 0 < length xs → is_some_word xs ≡ true
some_word [] h = absurd (omega (arith, h))
some_word (b ∷ xs) h = refl

pub decimal-word : (n : ℕ) → n < 2 ^ 64 → IsWord (decimal n)
decimal-word n fits = record {
  some = some_word (decimal n) (decimal_nonempty n fits);
  high = digits-high (decimal n) (decimal-digits n fits);
  few = length-decimal-le 20 n (omega arith) (omega arith) fits;
}

length-hex_text : (w : ℕ) → length (hex_text w) ≤ 20
unfolding hex_text
length-hex_text w = let long = length-hex 16 w in omega arith

pub hex-word : (w : ℕ) → IsWord (hex_text w)
hex-word w = record { some = hex-some w; high = hex-high w; few = length-hex_text w }
