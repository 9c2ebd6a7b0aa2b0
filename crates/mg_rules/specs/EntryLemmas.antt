-- The entries of the frame table, one after another.
use Rattle.std.proofs.{Common.{refl, sym, ap, ◌∙◌, arith, ⊎_elim}, Math.{Bool.and-true, Nat.mul-suc}}
use Rattle.std.proofs.lemmas.{Bool.{and_from, and_left, and_right, cases_eq}, List.{drop_at, take_at}}
use Rattle.std.{proofs.lemmas.List.Folds.list_all-append, specs.Prelude.{◌≡◌, ℕ, zero, suc, ◌+◌, ◌-◌, ◌*◌, ◌/◌, ◌<◌}}
use Rattle.std.specs.Prelude.{◌≤◌, ◌==◌, ◌&&◌, min, true, false, List, [], ◌∷◌, ◌++◌, drop, length, take}
use Rattle.mg_model.specs.{Abbreviations.{table_entries, table_of, whole_table}, Bytes.{are_zeros, numbers_at}}
use Rattle.{mg_model.specs.{Layout.{table_block, table_blocks}, Replay.block_of}, mg_rules.specs.TableTold.AreEntries}
use Rattle.mg_rules.specs.TableTold.{HasRest, IsTable, entries, entry_in, table_entry}

module _ (entry : ℕ → ℕ) where
  length-entries : (i n : ℕ) → length (entries entry i n) ≡ n
  length-entries i zero = refl
  length-entries i (suc n) = ap suc (length-entries (i + 1) n)

  split : (i n m : ℕ) → entries entry i (n + m) ≡ entries entry i n ++ entries entry (i + n) m
  split i zero m = ap (λ k. entries entry i k) (let e : 0 + m ≡ m = omega arith in e) ∙ ap (λ k. entries entry k m) (let e : i ≡ i + 0 = omega arith in e)
  split i (suc n) m =
      ap (λ k. entries entry i k) (let e : suc n + m ≡ suc (n + m) = omega arith in e)
      ∙ ap (λ rest. entry i ∷ rest) (split (i + 1) n m)
      ∙ ap (λ k. entry i ∷ (entries entry (i + 1) n ++ entries entry k m)) (let e : i + 1 + n ≡ i + suc n = omega arith in e)

  one_more : (i n : ℕ) → entries entry i (n + 1) ≡ entries entry i n ++ entry (i + n) ∷ []
  one_more i n = split i n 1

  zeros_more : (xs : List ℕ) (x : ℕ) → are_zeros (xs ++ x ∷ []) ≡ (are_zeros xs && x == 0)
  zeros_more xs x = list_all-append (λ b. b == 0) xs (x ∷ []) ∙ ap (λ t. are_zeros xs && t) (and-true (x == 0))

  not_zeros : (i m f : ℕ) → i ≤ f → f < i + m → (entry f == 0) ≡ false → are_zeros (entries entry i m) ≡ false
  not_zeros i zero f low high some = absurd (omega arith)
  not_zeros i (suc m) f low high some =
      ⊎_elim (λ here. and_left (entry i == 0) (are_zeros (entries entry (i + 1) m)) (ap (λ k. entry k == 0) (sym here) ∙ some))
      (λ other. and_right (entry i == 0) (are_zeros (entries entry (i + 1) m)) (not_zeros (i + 1) m f (omega arith) (omega arith) some))
      (cases_eq f i)

  -- an entry of a frame
  pub entry-held : (f frames : ℕ) (old new : List ℕ) → f < frames → AreEntries entry f frames old → new ≡ old ++ entry f ∷ [] → AreEntries entry (f + 1) frames new
  entry-held f frames old new below told added = record {
    are =
        added
        ∙ ap (λ table. table ++ entry f ∷ []) (told.are ∙ ap (entries entry 0) (let e : min f frames ≡ f = omega arith in e))
        ∙ ap (λ k. entries entry 0 f ++ entry k ∷ []) (let e : f ≡ 0 + f = omega arith in e)
        ∙ sym (one_more 0 f)
        ∙ ap (entries entry 0) (let e : f + 1 ≡ min (f + 1) frames = omega arith in e);
    rest = ap (λ n. are_zeros (entries entry frames n)) (let e : f + 1 - frames ≡ 0 = omega arith in e);
  }

  -- an entry after the last frame
  pub entry-free : (f frames : ℕ) (old : List ℕ) → frames ≤ f → AreEntries entry f frames old → (entry f == 0) ≡ true → AreEntries entry (f + 1) frames old
  entry-free f frames old behind told nothing = record {
    are = told.are ∙ ap (entries entry 0) (let e : min f frames ≡ min (f + 1) frames = omega arith in e);
    rest =
        ap (λ n. are_zeros (entries entry frames n)) (let e : f + 1 - frames ≡ (f - frames) + 1 = omega arith in e)
        ∙ ap are_zeros (one_more frames (f - frames))
        ∙ zeros_more (entries entry frames (f - frames)) (entry (frames + (f - frames)))
        ∙ and_from (are_zeros (entries entry frames (f - frames))) (entry (frames + (f - frames)) == 0) told.rest (ap (λ k. entry k == 0) (let e : frames + (f - frames) ≡ f = omega arith in e) ∙ nothing);
  }

-- the blocks of the table
module _ (image : List (List ℕ)) (block : ℕ) where
  abbrev entry_behind : ℕ → ℕ
  entry_behind i = entry_in (block_of image (block + i / 512)) i

  in_block : (k j m : ℕ) → j + m ≤ 512 → numbers_at (block_of image (block + k)) (8 * j) m ≡ entries entry_behind (512 * k + j) m
  in_block k j zero few = refl
  in_block k j (suc m) few = grind (arith, in_block k (j + 1) m (omega arith))

  whole_block : (k w : ℕ) → w ≡ 512 → numbers_at (block_of image (block + k)) 0 w ≡ entries entry_behind (512 * k) w
  whole_block k w is = in_block k 0 w (omega arith) ∙ ap (λ i. entries entry_behind i w) (let e : 512 * k + 0 ≡ 512 * k = omega arith in e)

  -- the same as `table_entries`, with the width of a block open
  abbrev entries_by : ℕ → ℕ → ℕ → List ℕ
  entries_by w b zero = []
  entries_by w b (suc n) = numbers_at (block_of image b) 0 w ++ entries_by w (b + 1) n

  by_width : (b n w : ℕ) → w ≡ 512 → table_entries image b n ≡ entries_by w b n
  by_width b zero w is = refl
  by_width b (suc n) w is =
      ap (λ k. numbers_at (block_of image b) 0 k ++ table_entries image (b + 1) n) (sym is)
      ∙ ap (λ rest. numbers_at (block_of image b) 0 w ++ rest) (by_width (b + 1) n w is)

  all_blocks : (k n w : ℕ) → w ≡ 512 → entries_by w (block + k) n ≡ entries entry_behind (512 * k) (w * n)
  all_blocks k zero w is = ap (entries entry_behind (512 * k)) (let e : 0 ≡ w * 0 = omega arith in e)
  all_blocks k (suc n) w is =
      ap (λ words. words ++ entries_by w (block + k + 1) n) (whole_block k w is)
      ∙ ap (λ b. entries entry_behind (512 * k) w ++ entries_by w b n) (let e : block + k + 1 ≡ block + (k + 1) = omega arith in e)
      ∙ ap (λ rest. entries entry_behind (512 * k) w ++ rest) (all_blocks (k + 1) n w is)
      ∙ ap (λ i. entries entry_behind (512 * k) w ++ entries entry_behind i (w * n)) (let e : 512 * (k + 1) ≡ 512 * k + w = omega arith in e)
      ∙ sym (split entry_behind (512 * k) w (w * n))
      ∙ ap (entries entry_behind (512 * k)) (let m = mul-suc w n in let e : w + w * n ≡ w * suc n = omega arith in e)

-- the whole table
whole_entries : (image : List (List ℕ)) (frames w : ℕ) → w ≡ 512 → whole_table image frames ≡ entries (table_entry image) 0 (w * table_blocks frames)
whole_entries image frames w is =
    by_width image table_block table_block (table_blocks frames) w is
    ∙ ap (λ b. entries_by image table_block w b (table_blocks frames)) (let e : table_block ≡ table_block + 0 = omega arith in e)
    ∙ all_blocks image table_block 0 (table_blocks frames) w is

module _ (image : List (List ℕ)) (frames n : ℕ) (is : n ≡ 512 * table_blocks frames) where
  enough : frames ≤ n
  enough = omega arith

  halves : whole_table image frames ≡ entries (table_entry image) 0 frames ++ entries (table_entry image) frames (n - frames)
  halves =
      whole_entries image frames 512 refl
      ∙ ap (entries (table_entry image) 0) (let f = enough in let e : 512 * table_blocks frames ≡ frames + (n - frames) = omega arith in e)
      ∙ split (table_entry image) 0 frames (n - frames)
      ∙ ap (λ k. entries (table_entry image) 0 frames ++ entries (table_entry image) k (n - frames)) (let e : 0 + frames ≡ frames = omega arith in e)

  front : table_of image frames ≡ entries (table_entry image) 0 frames
  front = ap (take frames) halves ∙ take_at (entries (table_entry image) 0 frames) (entries (table_entry image) frames (n - frames)) frames (length-entries (table_entry image) 0 frames)

  back : drop frames (whole_table image frames) ≡ entries (table_entry image) frames (n - frames)
  back = ap (drop frames) halves ∙ drop_at (entries (table_entry image) 0 frames) (entries (table_entry image) frames (n - frames)) frames (length-entries (table_entry image) 0 frames)

  pub table-told : (table : List ℕ) → AreEntries (table_entry image) n frames table → IsTable image frames table
  table-told table told = record {
    are = front ∙ ap (entries (table_entry image) 0) (let f = enough in let e : frames ≡ min n frames = omega arith in e) ∙ sym told.are;
    rest = ap are_zeros back ∙ told.rest;
  }

  pub table-rest : (f : ℕ) → frames ≤ f → f < n → (table_entry image f == 0) ≡ false → HasRest image frames
  table-rest f behind below some = record { rest = ap are_zeros back ∙ not_zeros (table_entry image) frames (n - frames) f behind (let e = enough in omega arith) some }
