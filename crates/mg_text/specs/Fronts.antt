-- What is at the front of bytes, and of words.
use Rattle.std.specs.{List.prefix_len, Prelude.{ℕ, not, List, [], ◌∷◌, take, drop, Option, None, is_some, option_map}}
use Rattle.mg_model.specs.{Abbreviations.below_word, Words.{digit_of, is_blank, number_of, value_of_digits}}

-- the digits that these bytes begin with
abbrev pub digits_front : ℕ → List ℕ → List ℕ
digits_front base bytes = take (prefix_len (λ b. is_some (digit_of base b)) bytes) bytes

-- the bytes before the first blank
abbrev pub before_blank : List ℕ → List ℕ
before_blank bytes = take (prefix_len (λ b. not (is_blank b)) bytes) bytes

-- the first blank, and the bytes after it
abbrev pub from_blank : List ℕ → List ℕ
from_blank bytes = drop (prefix_len (λ b. not (is_blank b)) bytes) bytes

-- the number that the bytes before the first blank spell in at most `most` digits, and the bytes from that blank on
abbrev pub number_before_blank : ℕ → ℕ → List ℕ → Option (ℕ × List ℕ)
number_before_blank base most bytes = option_map (λ n. (n, from_blank bytes)) (below_word (value_of_digits base most (before_blank bytes)))

-- the number that the first of these words spells, and the words after it
abbrev pub first_number : List (List ℕ) → Option (ℕ × List (List ℕ))
first_number [] = None
first_number (word ∷ more) = option_map (λ n. (n, more)) (number_of word)
