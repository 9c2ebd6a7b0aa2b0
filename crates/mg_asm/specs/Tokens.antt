-- From the bytes of a line to its words, and from a word to what it spells.
use Rattle.std.specs.{List.{list_all, slice_split}, Prelude.{ℕ, ◌-◌, ◌^◌, ◌==◌, ◌&&◌, ◌||◌, nat_le, nat_lt, Bool}}
use Rattle.std.specs.Prelude.{false, List, [], ◌∷◌, length, take, filter, slice_index, if◌then◌else◌, Option, Some}
use Rattle.std.specs.Prelude.{None}
use Rattle.{mg_asm.specs.declared.names.Name.Name, mg_model.specs.{Abbreviations.below_word, Bytes.padded_to}}
use Rattle.mg_model.specs.Words.{and_then, is_some_word, number_of, value_of_digits}

-- a space or a tab
abbrev pub is_gap : ℕ → Bool
is_gap b = b == 32 || b == 9

-- a note begins with # and goes to the end of its line
abbrev pub begins_note : ℕ → Bool
begins_note b = b == 35

abbrev pub first_piece : List (List ℕ) → List ℕ
first_piece [] = []
first_piece (piece ∷ pieces) = piece

-- the words of bytes without a note
abbrev pub tokens : List ℕ → List (List ℕ)
tokens bytes = filter is_some_word (slice_split is_gap bytes)

-- the words of a line
abbrev pub line_tokens : List ℕ → List (List ℕ)
line_tokens line = tokens (first_piece (slice_split begins_note line))

abbrev pub is_letter : ℕ → Bool
is_letter b = (nat_le 65 b && nat_le b 90) || (nat_le 97 b && nat_le b 122)

-- a letter, a digit or _
abbrev pub is_name_byte : ℕ → Bool
is_name_byte b = is_letter b || ((nat_le 48 b && nat_le b 57) || b == 95)

-- a letter and up to 15 letters, digits or _
abbrev pub is_name : List ℕ → Bool
is_name [] = false
is_name (b ∷ bytes) = is_letter b && (nat_le (length bytes) 15 && list_all is_name_byte bytes)

-- the name that a word spells; it is followed by zeros
abbrev pub name_of : List ℕ → Option Name
name_of word = if is_name word then Some (record { bytes = padded_to 16 word }) else None

-- the name of a label: a name, and a colon
abbrev pub label_of : List ℕ → Option Name
label_of word =
    let last = length word - 1 in
    if nat_le 1 (length word) && slice_index word last == 58 then name_of (take last word) else None

-- a register is one digit 0 to 7
abbrev pub register_of : List ℕ → Option ℕ
register_of (b ∷ []) = if nat_le 48 b && nat_le b 55 then Some (b - 48) else None
register_of _ = None

abbrev pub below : ℕ → ℕ → Option ℕ
below bound n = if nat_lt n bound then Some n else None

-- an immediate is a number below 2^32, spelled as in a line of calls
abbrev pub immediate_of : List ℕ → Option ℕ
immediate_of word = and_then (number_of word) (below (2 ^ 32))

-- 1 to 20 decimal digits
abbrev pub decimal_of : List ℕ → Option ℕ
decimal_of word = below_word (value_of_digits 10 20 word)

-- a number from 1 to 2^31 with its sign turned, in two's complement
abbrev pub turned_back : ℕ → Option ℕ
turned_back n = if nat_le 1 n && nat_le n (2 ^ 31) then Some (2 ^ 32 - n) else None

-- how many words a jump goes: a decimal number from -2^31 to 2^31 - 1, in two's complement
abbrev pub distance_of : List ℕ → Option ℕ
distance_of [] = None
distance_of (b ∷ bytes) = if b == 45 then and_then (decimal_of bytes) turned_back else and_then (decimal_of (b ∷ bytes)) (below (2 ^ 31))
