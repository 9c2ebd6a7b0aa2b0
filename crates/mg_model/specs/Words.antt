-- From bytes to words, and from a word to what it spells.
use Rattle.std.specs.{Cmp.Lexicographic.pointwise, List.{filter_map, slice_split}, Option.option_map_or}
use Rattle.std.specs.{Option.option_and_then, Prelude.{ℕ, ◌+◌, ◌-◌, ◌*◌, ◌^◌, ◌==◌, ◌&&◌, ◌||◌, nat_le, nat_lt, Bool}}
use Rattle.std.specs.Prelude.{true, false, List, [], ◌∷◌, length, if◌then◌else◌, filter, sum_by, Option, Some, None}
use Rattle.mg_model.specs.{Rights.{letters, right_number}, Tests.all_distinct, declared.rights.Right.Right}

abbrev pub is_newline : ℕ → Bool
is_newline b = b == 10

-- a space, a tab or a carriage return
abbrev pub is_blank : ℕ → Bool
is_blank b = b == 32 || (b == 9 || b == 13)

abbrev pub is_some_word : List ℕ → Bool
is_some_word [] = false
is_some_word (b ∷ bytes) = true

-- the words of a line
abbrev pub words : List ℕ → List (List ℕ)
words bytes = filter is_some_word (slice_split is_blank bytes)

-- the value of a digit to base 10 or 16
abbrev pub digit_of : ℕ → ℕ → Option ℕ
digit_of base b =
    if nat_le 48 b && nat_lt b 58 then Some (b - 48)
    else if base == 16 && (nat_le 97 b && nat_lt b 103) then Some (b - 87)
    else if base == 16 && (nat_le 65 b && nat_lt b 71) then Some (b - 55)
    else None

-- what follows of a value, if there is one
abbrev pub and_then : {X Y : Type 0} → Option X → (X → Option Y) → Option Y
and_then o f = option_and_then f o

-- the number that these digits spell after those that were read
abbrev pub value_from : ℕ → ℕ → List ℕ → Option ℕ
value_from base n [] = Some n
value_from base n (b ∷ bytes) = and_then (digit_of base b) (λ d. value_from base (n * base + d) bytes)

-- a number of 1 to `most` digits
abbrev pub value_of_digits : ℕ → ℕ → List ℕ → Option ℕ
value_of_digits base most bytes = if nat_le 1 (length bytes) && nat_le (length bytes) most then value_from base 0 bytes else None

-- the bytes after "0x", if the word begins so
abbrev pub hex_part : List ℕ → Option (List ℕ)
hex_part (a ∷ b ∷ bytes) = if a == 48 && b == 120 then Some bytes else None
hex_part _ = None

-- the number that a word spells: 1 to 20 decimal digits, or 0x and 1 to 16 hexadecimal ones; it has 64 bits
abbrev pub number_of : List ℕ → Option ℕ
number_of word =
    and_then (option_map_or (λ digits. value_of_digits 16 16 digits) (hex_part word) (value_of_digits 10 20 word))
    (λ n. if nat_lt n (2 ^ 64) then Some n else None)

-- the numbers that these words spell, if each spells one
abbrev pub numbers_of : List (List ℕ) → Option (List ℕ)
numbers_of [] = Some []
numbers_of (word ∷ more) = and_then (number_of word) (λ n. and_then (numbers_of more) (λ ns. Some (n ∷ ns)))

-- the bit of a letter out of these
abbrev pub weight_among : List (ℕ × Right) → ℕ → Option ℕ
weight_among [] b = None
weight_among ((letter, right) ∷ more) b = if b == letter then Some (2 ^ right_number right) else weight_among more b

-- the bit of a letter out of RWXDPO
abbrev pub letter_weight : ℕ → Option ℕ
letter_weight b = weight_among letters b

-- the rights that a word of one to six letters spells: each letter is known, none comes twice, and their bits are added up
abbrev pub rights_of : List ℕ → Option ℕ
rights_of word =
    let weights = filter_map letter_weight word in
    if is_some_word word && (length weights == length word && all_distinct weights) then Some (sum_by (λ weight. weight) weights) else None

abbrev pub same_bytes : List ℕ → List ℕ → Bool
same_bytes xs ys = pointwise ◌==◌ xs ys
