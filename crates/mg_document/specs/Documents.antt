-- A document is bytes; these are the words that hold it.
use Rattle.std.specs.Prelude.{ℕ, ◌+◌, ◌-◌, ◌*◌, ◌/◌, List, ◌∷◌, length}
use Rattle.mg_model.specs.{Bytes.{numbers_at, padded_to}, Limits.{object_page_limit, page_size}}

-- the number of words that this number of bytes fills, the last of them maybe in part
abbrev pub words_for : ℕ → ℕ
words_for n = (n + 7) / 8

-- the bytes as words, eight a word, the first the lowest; the last word is filled with zeros
abbrev pub packed : List ℕ → List ℕ
packed bytes = numbers_at (padded_to (8 * words_for (length bytes)) bytes) 0 (words_for (length bytes))

-- the words of a document: how many bytes it has, and then the bytes
abbrev pub document : List ℕ → List ℕ
document bytes = length bytes ∷ packed bytes

-- the most bytes: what the largest object holds after its first word
abbrev pub byte_limit : ℕ
byte_limit = object_page_limit * page_size - 8
