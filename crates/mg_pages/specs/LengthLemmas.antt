-- Lemmas on lengths: a page has 512 words, wherever it lies.
use Rattle.std.{proofs.{Common.{refl, ap}, lemmas.List.length-replicate}, specs.{Option.option_map_or, Prelude.◌≡◌}}
use Rattle.std.specs.Prelude.{◌+◌, ◌==◌, ℕ, zero, suc, List, length, position, replicate, Option, Some, None}
use Rattle.{mg_disk.specs.Disk.{Image, block_at}, mg_model.specs.{Bytes.{block_words, numbers_at}, Layout.first_frame}}
use Rattle.mg_model.specs.Volume.{page_words}

pub length-numbers : (bytes : List ℕ) (from n : ℕ) → length (numbers_at bytes from n) ≡ n
length-numbers bytes from zero = refl
length-numbers bytes from (suc n) = ap suc (length-numbers bytes (from + 8) n)

pub length-block : (bytes : List ℕ) → length (block_words bytes) ≡ 512
length-block bytes = length-numbers bytes 0 512

pub length-page : (r : Image) (frames : ℕ) (table : List ℕ) (page : ℕ) → length (page_words r frames table page) ≡ 512
length-page r frames table page = held (position (λ entry. entry == page) table)
  where
    held : (frame : Option ℕ) → length (option_map_or (λ frame. block_words (block_at r (first_frame frames + frame))) frame (replicate 512 0)) ≡ 512
    held None = length-replicate {A = ℕ} 512 0
    held (Some k) = length-block (block_at r (first_frame frames + k))
