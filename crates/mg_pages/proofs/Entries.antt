-- The frame table entry by entry.
use Rattle.{mg_disk.specs.Disk.{Image, block_at}, mg_model.specs.{Abbreviations.{table_entries, table_of, whole_table}, Bytes.are_zeros}}
use Rattle.mg_model.specs.{Bytes.{block_words, number_at}, Layout.{table_block, table_blocks}, RowLemmas.are_zeros-replicate}
use Rattle.{mg_pages.{proofs.Numbers.number-of, specs.{Entries.HoldsTable, LengthLemmas.length-block}}, std.proofs.Common.{refl, sym, ap, ◌∙◌}}
use Rattle.std.proofs.{Common.{⊎_elim, arith, get_or, length-append}, lemmas.{Bool.{and_parts, cases_lt, eqb-true}, List.{drop_at, ext_get_or}}}
use Rattle.std.proofs.lemmas.List.{get_or-append-add, get_or-append_right, get_or-drop, get_or-replicate, get_or-take, get_or_append_left}
use Rattle.std.{proofs.lemmas.List.{get_or_past, length-replicate, take_at}, specs.Prelude.{◌≡◌, ◌+◌, ◌-◌, ◌*◌, ◌/◌, ◌%◌, ◌<◌, ◌==◌, ℕ, zero, suc}}
use Rattle.std.specs.Prelude.{true, List, [], ◌∷◌, ◌++◌, drop, length, replicate, take}

pub length-entries : (image : Image) (b n : ℕ) → length (table_entries image b n) ≡ 512 * n
length-entries image b zero = refl
length-entries image b (suc n) = grind (arith, (length-entries image (b + 1) n))

first-entry : (bytes rest : List ℕ) (j : ℕ) → j < 512 → get_or (block_words bytes ++ rest) j 0 ≡ number_at bytes (8 * j)
first-entry bytes rest j below =
    let e : 0 + 8 * j ≡ 8 * j = omega arith in
    get_or_append_left (block_words bytes) rest 0 j (let f = length-block bytes in omega arith) ∙ number-of bytes 0 512 j below ∙ ap (number_at bytes) e

later-entry : (bytes rest : List ℕ) (j : ℕ) → get_or (block_words bytes ++ rest) (512 + j) 0 ≡ get_or rest j 0
later-entry bytes rest j =
    ap (λ n. get_or (block_words bytes ++ rest) (n + j) 0) (sym (length-block bytes)) ∙ get_or-append-add (block_words bytes) rest j 0

pub entry-of : (image : Image) (b n k j : ℕ) → k < n → j < 512 → get_or (table_entries image b n) (512 * k + j) 0 ≡ number_at (block_at image (b + k)) (8 * j)
entry-of image b zero k j few below = absurd (omega arith)
entry-of image b (suc n) zero j few below =
    let e : 512 * 0 + j ≡ j = omega arith in
    let at : b ≡ b + 0 = omega arith in
    ap (λ i. get_or (table_entries image b (suc n)) i 0) e
    ∙ first-entry (block_at image b) (table_entries image (b + 1) n) j below
    ∙ ap (λ i. number_at (block_at image i) (8 * j)) at
entry-of image b (suc n) (suc k) j few below =
    let e : 512 * suc k + j ≡ 512 + (512 * k + j) = omega arith in
    let at : b + 1 + k ≡ b + suc k = omega arith in
    ap (λ i. get_or (table_entries image b (suc n)) i 0) e
    ∙ later-entry (block_at image b) (table_entries image (b + 1) n) (512 * k + j)
    ∙ entry-of image (b + 1) n k j (omega arith) below
    ∙ ap (λ i. number_at (block_at image i) (8 * j)) at

-- zeros, one by one
pub zero-at : (xs : List ℕ) (i : ℕ) → are_zeros xs ≡ true → get_or xs i 0 ≡ 0
zero-at [] i zeros = refl
zero-at (x ∷ xs) zero zeros = eqb-true x 0 (and_parts (x == 0) (are_zeros xs) zeros).0
zero-at (x ∷ xs) (suc i) zeros = zero-at xs i (and_parts (x == 0) (are_zeros xs) zeros).1

-- what is spelled, block by block
pub holds-spelled : (frames : List ℕ) (image : Image) → table_of image (length frames) ≡ frames → are_zeros (drop (length frames) (whole_table image (length frames))) ≡ true → HoldsTable frames (table_blocks (length frames)) image
holds-spelled frames image is past k few j below =
    sym (entry-of image table_block (table_blocks (length frames)) k j few below)
    ∙ ⊎_elim
    (λ low. sym (get_or-take (length frames) (whole_table image (length frames)) (512 * k + j) 0 low) ∙ ap (λ xs. get_or xs (512 * k + j) 0) is)
    (λ high.
    let e : 512 * k + j ≡ length frames + (512 * k + j - length frames) = omega arith in
    ap (λ i. get_or (whole_table image (length frames)) i 0) e
    ∙ sym (get_or-drop (length frames) (whole_table image (length frames)) (512 * k + j - length frames) 0)
    ∙ zero-at (drop (length frames) (whole_table image (length frames))) (512 * k + j - length frames) past
    ∙ sym (get_or_past frames (512 * k + j) 0 high)) (cases_lt (512 * k + j) (length frames))

module _ (frames : List ℕ) (image : Image) (holds : HoldsTable frames (table_blocks (length frames)) image) where
  abbrev behind : List ℕ
  behind = replicate (512 * table_blocks (length frames) - length frames) 0

  long-behind : length behind ≡ 512 * table_blocks (length frames) - length frames
  long-behind = length-replicate (512 * table_blocks (length frames) - length frames) 0

  long-padded : length (frames ++ behind) ≡ 512 * table_blocks (length frames)
  long-padded = length-append frames behind ∙ ap (λ n. length frames + n) long-behind ∙ fills
    where
      fills : length frames + (512 * table_blocks (length frames) - length frames) ≡ 512 * table_blocks (length frames)
      fills = omega arith

  padded-at : (i : ℕ) → i < 512 * table_blocks (length frames) → get_or frames i 0 ≡ get_or (frames ++ behind) i 0
  padded-at i below = grind (arith, get_or_append_left, get_or_past, get_or-append_right, get_or-replicate, cases_lt)

  whole-at : (i : ℕ) → i < 512 * table_blocks (length frames) → get_or (whole_table image (length frames)) i 0 ≡ get_or frames i 0
  whole-at i below =
      let at : 512 * (i / 512) + i % 512 ≡ i = omega arith in
      ap (λ n. get_or (whole_table image (length frames)) n 0) (sym at)
      ∙ entry-of image table_block (table_blocks (length frames)) (i / 512) (i % 512) (omega arith) (omega arith)
      ∙ holds (i / 512) (omega arith) (i % 512) (omega arith)
      ∙ ap (λ n. get_or frames n 0) at

  whole : whole_table image (length frames) ≡ frames ++ behind
  whole =
      ext_get_or 0 (whole_table image (length frames)) (frames ++ behind) (length-entries image table_block (table_blocks (length frames)) ∙ sym long-padded)
      (λ i within. let e = length-entries image table_block (table_blocks (length frames)) in whole-at i (omega arith) ∙ padded-at i (omega arith))

  pub spelled-table : table_of image (length frames) ≡ frames
  spelled-table = ap (take (length frames)) whole ∙ take_at frames behind (length frames) refl

  pub spelled-past : are_zeros (drop (length frames) (whole_table image (length frames))) ≡ true
  spelled-past = grind (arith, whole, drop_at, are_zeros-replicate)
