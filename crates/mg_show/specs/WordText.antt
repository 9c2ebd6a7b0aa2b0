-- The words of blocks, pages and objects as text.
use Rattle.std.specs.Prelude.{ℕ, ◌*◌, ◌==◌, Bool, List, [], ◌∷◌, codes, flat_map, if◌then◌else◌, replicate}
use Rattle.mg_model.specs.{Abbreviations.pages_words, Bytes.block_words, Objects.page_of, Print.hex_text}
use Rattle.{mg_model.specs.{State.ObjectRow, Volume.page_words}, mg_show.specs.StateText.{line, words_text}}

-- a word; nothing where it is 0
abbrev pub word_text : ℕ → ℕ → List ℕ
word_text address word = if word == 0 then [] else line (codes "word") (hex_text address ∷ hex_text word ∷ [])

-- the words of a block, the first of which has this address
unfoldable pub block_text : ℕ → List ℕ → List ℕ
block_text address block = words_text address (block_words block)

-- the words of a page, of n pages from one on, and of an object
unfoldable pub page_text : List (List ℕ) → ℕ → List ℕ → ℕ → List ℕ
page_text image frames table page = words_text (4096 * page) (page_words image frames table page)

unfoldable pub pages_text : List (List ℕ) → ℕ → List ℕ → ℕ → ℕ → List ℕ
pages_text image frames table page n = words_text (4096 * page) (pages_words image frames table page n)

unfoldable pub row_text : List (List ℕ) → ℕ → List ℕ → ObjectRow → List ℕ
row_text image frames table row = words_text row.base (pages_words image frames table (page_of row) row.pages)

-- the words of objects that are held with their places
abbrev pub rows_text : List (List ℕ) → ℕ → List ℕ → List (ℕ × ObjectRow) → List ℕ
rows_text image frames table objects = flat_map (λ (o : ℕ × ObjectRow). row_text image frames table o.1) objects

-- the words of a page that was read: those of its block where a frame holds it, else 0
abbrev pub words_read : Bool → List ℕ → List ℕ
words_read is_held block = if is_held then block_words block else replicate 512 0
