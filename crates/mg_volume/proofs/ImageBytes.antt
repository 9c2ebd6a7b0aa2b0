-- What an image of bytes spells: words of 64 bits, also once its journal is replayed.
use Rattle.{mg_disk.specs.{BlockBytes.IsBytes, Disk.{AreBytes, Image}}, mg_journal.specs.JournalLemmas.{open_writes, replayed-is}}
use Rattle.mg_model.specs.{Abbreviations.{pages_words, writes_from, writes_since}, Bytes.{block_words, bytes_at, number_at, numbers_at}}
use Rattle.mg_model.specs.{Layout.{first_frame, segment_count}, Ranges.IsWord, Replay.{block_of, body_count, is_open, replay, writes_of, written}}
use Rattle.{mg_model.specs.Volume.page_words, std.proofs.{Common.{sym, subst, ⊎_elim, arith}, lemmas.{Bool.cases_lt, List.get_or_past}}}
use Rattle.std.proofs.lemmas.List.Elements.{All-append, All-cons, All-drop, All-head, All-nil, All-replicate, All-set, All-tail, All-take}
use Rattle.std.specs.{Int.{from_le_bytes, w64}, Option.option_map_or, Prelude.{◌≡◌, ◌+◌, ◌<◌, ◌==◌, ℕ, Bool, zero, suc, true, false, All, List, []}}
use Rattle.std.specs.Prelude.{◌∷◌, drop, if◌then◌else◌, length, position, replicate, slice_index, slice_set, Option, Some, None}

-- a byte, or 0 past the end
byte-at : (bytes : List ℕ) (k : ℕ) → IsBytes bytes → slice_index bytes k < 256
byte-at bytes k are = ⊎_elim (λ below. are k 0 below) (λ past. let e = get_or_past bytes k 0 past in omega arith) (cases_lt k (length bytes))

-- eight bytes are a word
word-of : (bytes : List ℕ) → IsBytes bytes → IsWord (from_le_bytes w64 bytes)
word-of bytes are = grind (arith, byte-at)

number-word : (bytes : List ℕ) (offset : ℕ) → IsBytes bytes → IsWord (number_at bytes offset)
number-word bytes offset are = word-of (bytes_at bytes offset 8) (All-take (λ byte. byte < 256) 8 (drop offset bytes) (All-drop (λ byte. byte < 256) offset bytes are))

numbers-words : (bytes : List ℕ) (offset n : ℕ) → IsBytes bytes → All IsWord (numbers_at bytes offset n)
numbers-words bytes offset zero are = All-nil IsWord
numbers-words bytes offset (suc n) are = All-cons IsWord (number_at bytes offset) (numbers_at bytes (offset + 8) n) (number-word bytes offset are) (numbers-words bytes (offset + 8) n are)

-- a block of bytes, also past the end, if it is empty
block-bytes : (image : Image) (i : ℕ) → AreBytes image → IsBytes (block_of image i)
block-bytes image i are = grind (arith, get_or_past, All-nil, cases_lt)

-- the words of pages
page-words : (r : Image) (frames : ℕ) (table : List ℕ) (page : ℕ) → AreBytes r → All IsWord (page_words r frames table page)
page-words r frames table page are = held (position (λ entry. entry == page) table)
  where
    held : (frame : Option ℕ) → All IsWord (option_map_or (λ frame. block_words (block_of r (first_frame frames + frame))) frame (replicate 512 0))
    held None = All-replicate IsWord 512 0 (omega arith)
    held (Some k) = numbers-words (block_of r (first_frame frames + k)) 0 512 (block-bytes r (first_frame frames + k) are)

pub pages-words : (r : Image) (frames : ℕ) (table : List ℕ) (page n : ℕ) → AreBytes r → All IsWord (pages_words r frames table page n)
pages-words r frames table page zero are = All-nil IsWord
pages-words r frames table page (suc n) are =
    All-append IsWord (page_words r frames table page) (pages_words r frames table (page + 1) n) (page-words r frames table page are) (pages-words r frames table (page + 1) n are)

-- a write of bytes
abbrev IsWrite : ℕ × List ℕ → Type 0
IsWrite write = IsBytes write.1

from-bytes : (image : Image) (s j n : ℕ) → AreBytes image → All IsWrite (writes_from image s j n)
from-bytes image s j zero are = All-nil IsWrite
from-bytes image s j (suc n) are = grind (arith, (from-bytes image s (j + 1) n are), All-cons, block-bytes)

of-bytes : (image : Image) (s : ℕ) → AreBytes image → All IsWrite (writes_of image s)
of-bytes image s are = by_gate (is_open image s)
  where
    by_gate : (open_now : Bool) → All IsWrite (if open_now then writes_from image s 0 (body_count image s) else [])
    by_gate true = from-bytes image s 0 (body_count image s) are
    by_gate false = All-nil IsWrite

since-bytes : (image : Image) (s n : ℕ) → AreBytes image → All IsWrite (writes_since image s n)
since-bytes image s zero are = All-nil IsWrite
since-bytes image s (suc n) are = All-append IsWrite (writes_of image s) (writes_since image (s + 1) n) (of-bytes image s are) (since-bytes image (s + 1) n are)

written-bytes : (image : Image) (writes : List (ℕ × List ℕ)) → AreBytes image → All IsWrite writes → AreBytes (written image writes)
written-bytes image [] are all = are
written-bytes image ((i, block) ∷ writes) are all =
    grind (arith, (written-bytes (slice_set image i block) writes (All-set IsBytes image i block (All-head IsWrite (i, block) writes all) are) (All-tail IsWrite (i, block) writes all)))

-- a replay of bytes
pub replay-bytes : (image r : Image) (total : ℕ) → AreBytes image → replay image total ≡ Some r → AreBytes r
replay-bytes image r total are is = subst AreBytes (sym (replayed-is total image r is)) (written-bytes image (open_writes image) are (since-bytes image 0 segment_count are))
