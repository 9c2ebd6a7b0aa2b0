-- A fresh image has the fresh state as its volume.
use Rattle.mg_layout.proofs.FreshBlocks.{IsOther, at_accounts, at_frame, at_globals, at_objects, at_other, at_super, at_table, at_threads}
use Rattle.mg_layout.specs.FreshImage.{IsFreshImage, frame_bytes, fresh_bytes, is_written, table_bytes}
use Rattle.mg_model.specs.Abbreviations.{account_row_bytes, object_row_bytes, table_entries, thread_row_bytes, whole_table, word_bytes}
use Rattle.mg_model.specs.{Bytes.{are_zeros, block_words, padded_to, words_bytes}, BytesLemmas.{length-words_bytes, padded_to-full}}
use Rattle.mg_model.specs.{Draw.password_drawn, DrawnLemmas.drawn-IsWord, Fresh.{first_thread, fresh, root_base, root_object, root_words}}
use Rattle.mg_model.specs.Layout.{first_account_block, first_frame, first_object_block, first_thread_block, globals_block, segment_count}
use Rattle.mg_model.specs.{Layout.{segment_gate, super_block, table_block, table_blocks}, Limits.{first_page, account_limit, thread_limit}}
use Rattle.mg_model.specs.{Limits.object_limit, Ranges.IsWord, Replay.{block_of, is_open}, RowLemmas.{account-live, account_fields-written}}
use Rattle.mg_model.specs.RowLemmas.{are_zeros-drop, are_zeros-replicate, block_words-words, globals-read, live_rows-first, object-live, read-free}
use Rattle.mg_model.specs.{RowLemmas.{table_entries-zeros, thread-live, words_bytes-zeros, zeros-behind, zeros-in}, Settings.Settings}
use Rattle.mg_model.specs.Spelling.{account_bytes, account_fields, account_read, globals_bytes, globals_fields, globals_read, object_bytes}
use Rattle.mg_model.specs.{Spelling.{object_read, super_read, Spells, thread_bytes, thread_fields, thread_read}, SuperblockLemmas.super_read-written}
use Rattle.mg_model.specs.{Volume.{Is, live_rows, page_words, replayed_volume, rows_of, state_fits, state_spelled, volume}, VolumeLemmas.rows-read}
use Rattle.mg_model.specs.{VolumeLemmas.{rows_with, settled-closed, state_with, volume-opened}, WellFormed.IsSettings}
use Rattle.{mg_model.specs.declared.accounts.AccRow.AccRow, std.proofs.Common.{rules, refl, sym, ap, ◌∙◌, ⊎_elim, arith, add-zero, zero-add}}
use Rattle.std.proofs.lemmas.{Bool.{and_from, cases_lt, eq-eqb, le-leb, lt-ltb, or_left, or_right, Decides.nat_tests}, List.append-nil}
use Rattle.std.proofs.lemmas.List.{length-replicate, replicate-append-replicate, take-replicate, Elements.{All-cons, All-replicate}}
use Rattle.std.{proofs.lemmas.Nat.from_le_bytes-to_le_bytes_8, specs.{Option.option_map_or, Prelude.{◌≡◌, ℕ, zero, suc, ◌+◌, ◌-◌, ◌*◌, ◌/◌, ◌%◌}}}
use Rattle.std.specs.Prelude.{◌^◌, ◌<◌, ◌≤◌, ◌==◌, true, false, cond, not, IsTrue, All, List, [], ◌∷◌, ◌++◌, drop, filter, length, position}
use Rattle.std.specs.Prelude.{replicate, take, Some, None}

-- blocks that are written
pub written-gate : (frames s : ℕ) → s < segment_count → IsTrue (is_written frames (segment_gate s))
written-gate frames s few = grind (arith, or_left, or_right, and_from, eq-eqb, lt-ltb)

pub written-rows : (frames i : ℕ) → globals_block ≤ i → i ≤ first_frame frames → IsTrue (is_written frames i)
written-rows frames i low high = grind (arith, or_right, and_from, le-leb)

free_frames : (k : ℕ) → filter (λ page. not (page == 0)) (replicate k 0) ≡ []
free_frames zero = refl
free_frames (suc k) = free_frames k

module _ (settings : Settings) (image : List (List ℕ)) (keeps : IsSettings settings) (is : IsFreshImage settings image) where
  few_frames : (16 ≤ settings.frames) × (settings.frames ≤ 65536) × (settings.credits ≤ 2 ^ 62)
  few_frames = let within = keeps.limits in (grind (arith, nat_tests), grind (arith, nat_tests), grind (arith, nat_tests))

  -- its blocks
  row_block : (i : ℕ) → globals_block ≤ i → i ≤ first_frame settings.frames → block_of image i ≡ fresh_bytes settings i
  row_block i low high = is.blocks i (omega arith) (written-rows settings.frames i low high)

  zero_block : (i : ℕ) → globals_block ≤ i → i ≤ first_frame settings.frames → IsOther settings (fresh settings) i → block_of image i ≡ replicate 4096 0
  zero_block i low high other = row_block i low high ∙ at_other settings (fresh settings) i other

  -- the segments are closed
  closed : (s : ℕ) → s < segment_count → is_open image s ≡ false
  closed s few = grind (arith, IsOther, written-gate, at_other)

  -- the rows
  counters_read : globals_read (block_of image globals_block) ≡ Some (fresh settings).counters
  counters_read =
      let block : block_of image globals_block ≡ globals_bytes (fresh settings).counters = row_block globals_block (omega arith) (omega arith) ∙ at_globals settings (fresh settings) in
      globals-read (block_of image globals_block) (fresh settings).counters (ap globals_fields block) refl (sym block)

  abbrev treasury : AccRow
  treasury = record { password = password_drawn settings.seed 1; balance = settings.credits; owed = 0 }

  -- account n is at row n - 1; of row 0 on, 64 rows a block
  accounts_block : block_of image first_account_block ≡ account_bytes treasury ++ replicate 4032 0
  accounts_block = grind (arith, row_block, at_accounts)

  accounts_read : live_rows (λ i. account_read (account_row_bytes image i)) 0 account_limit ≡ Some ((0, treasury) ∷ [])
  accounts_read = live_rows-first (λ i. account_read (account_row_bytes image i)) account_limit 1023 treasury refl first rest
    where
      bytes : account_row_bytes image 0 ≡ account_bytes treasury
      bytes = ap (take 64) accounts_block

      first : account_read (account_row_bytes image 0) ≡ Some (Some treasury)
      first =
          account-live (account_row_bytes image 0) treasury (ap are_zeros bytes)
          (ap account_fields bytes ∙ account_fields-written treasury (drawn-IsWord settings.seed 1) (let c = few_frames.2 in omega arith) (omega arith))
          (sym bytes)

      rest : (j : ℕ) → 1 ≤ j → j < account_limit → account_read (account_row_bytes image j) ≡ Some None
      rest j low high = read-free (account_row_bytes image j) _ (⊎_elim near far (cases_lt j 64))
        where
          near : j < 64 → are_zeros (account_row_bytes image j) ≡ true
          near n =
              let place : first_account_block + j / 64 ≡ first_account_block = omega arith in
              zeros-behind (block_of image (first_account_block + j / 64)) (account_bytes treasury) 4032 (64 * (j % 64)) 64 (ap (block_of image) place ∙ accounts_block) (omega arith)

          far : 64 ≤ j → are_zeros (account_row_bytes image j) ≡ true
          far f =
              let low : first_account_block < first_account_block + j / 64 = omega arith in
              let high : first_account_block + j / 64 < first_thread_block = omega arith in
              zeros-in (block_of image (first_account_block + j / 64)) (64 * (j % 64)) 64 (zero_block (first_account_block + j / 64) (omega arith) (omega arith) (record {
                gate = λ e. omega arith;
                super = λ e. omega arith;
                globals = λ e. omega arith;
                accounts = λ e. omega arith;
                threads = λ e. omega arith;
                objects = λ e. omega arith;
                table = λ e. omega arith;
                frame = λ e. omega arith;
              }))

  -- thread 1
  threads_read : live_rows (λ i. thread_read (thread_row_bytes image i)) 0 thread_limit ≡ Some ((0, (first_thread (password_drawn settings.seed 0)).row) ∷ [])
  threads_read = live_rows-first (λ i. thread_read (thread_row_bytes image i)) thread_limit 255 (first_thread (password_drawn settings.seed 0)).row refl first rest
    where
      bytes : thread_row_bytes image 0 ≡ thread_bytes (first_thread (password_drawn settings.seed 0)).row
      bytes = row_block first_thread_block (omega arith) (omega arith) ∙ at_threads settings (fresh settings)

      first : thread_read (thread_row_bytes image 0) ≡ Some (Some (first_thread (password_drawn settings.seed 0)).row)
      first =
          thread-live (thread_row_bytes image 0) (first_thread (password_drawn settings.seed 0)).row (ap are_zeros bytes)
          (ap thread_fields bytes ∙ ap (λ p. (first_thread p).row) (from_le_bytes-to_le_bytes_8 (password_drawn settings.seed 0) (drawn-IsWord settings.seed 0)))
          refl
          (sym bytes)

      rest : (j : ℕ) → 1 ≤ j → j < thread_limit → thread_read (thread_row_bytes image j) ≡ Some None
      rest j low high = grind (arith, read-free, zero_block, are_zeros-replicate)

  -- the root object, four rows a block
  objects_block : block_of image first_object_block ≡ object_bytes (root_object (password_drawn settings.seed 0)).row ++ replicate 3072 0
  objects_block = grind (arith, row_block, at_objects)

  objects_read : live_rows (λ i. object_read (object_row_bytes image i)) 0 object_limit ≡ Some ((0, (root_object (password_drawn settings.seed 0)).row) ∷ [])
  objects_read = live_rows-first (λ i. object_read (object_row_bytes image i)) object_limit 4095 (root_object (password_drawn settings.seed 0)).row refl first rest
    where
      bytes : object_row_bytes image 0 ≡ object_bytes (root_object (password_drawn settings.seed 0)).row
      bytes = ap (take 1024) objects_block

      first : object_read (object_row_bytes image 0) ≡ Some (Some (root_object (password_drawn settings.seed 0)).row)
      first = search (rules, object-live, bytes, from_le_bytes-to_le_bytes_8, drawn-IsWord)

      rest : (j : ℕ) → 1 ≤ j → j < object_limit → object_read (object_row_bytes image j) ≡ Some None
      rest j low high = read-free (object_row_bytes image j) _ (⊎_elim near far (cases_lt j 4))
        where
          near : j < 4 → are_zeros (object_row_bytes image j) ≡ true
          near n =
              let place : first_object_block + j / 4 ≡ first_object_block = omega arith in
              zeros-behind (block_of image (first_object_block + j / 4)) (object_bytes (root_object (password_drawn settings.seed 0)).row) 3072 (1024 * (j % 4)) 1024 (ap (block_of image) place ∙ objects_block) (omega arith)

          far : 4 ≤ j → are_zeros (object_row_bytes image j) ≡ true
          far f =
              let low : first_object_block < first_object_block + j / 4 = omega arith in
              let high : first_object_block + j / 4 < table_block = omega arith in
              zeros-in (block_of image (first_object_block + j / 4)) (1024 * (j % 4)) 1024 (zero_block (first_object_block + j / 4) (omega arith) (omega arith) (record {
                gate = λ e. omega arith;
                super = λ e. omega arith;
                globals = λ e. omega arith;
                accounts = λ e. omega arith;
                threads = λ e. omega arith;
                objects = λ e. omega arith;
                table = λ e. omega arith;
                frame = λ e. omega arith;
              }))

  -- the frame table: the root's page in frame 0, the others free
  table_first : block_words (block_of image table_block) ≡ first_page ∷ replicate 511 0
  table_first =
      let words : table_bytes (fresh settings) ≡ words_bytes (first_page ∷ replicate 511 0) = sym (ap (λ bytes. word_bytes first_page ++ bytes) (words_bytes-zeros 511)) in
      ap block_words (row_block table_block (omega arith) (omega arith) ∙ at_table settings (fresh settings) ∙ words)
      ∙ block_words-words (first_page ∷ replicate 511 0) (ap suc (length-replicate {A = ℕ} 511 0)) (All-cons IsWord first_page (replicate 511 0) (omega arith) (All-replicate IsWord 511 0 (omega arith)))

  table_is : whole_table image settings.frames ≡ first_page ∷ replicate (511 + 512 * (table_blocks settings.frames - 1)) 0
  table_is =
      let frames = few_frames.0 in
      let m = table_blocks settings.frames - 1 in
      let count : table_blocks settings.frames ≡ suc m = omega arith in
      ap (table_entries image table_block) count
      ∙ ap (λ words. words ++ table_entries image (table_block + 1) m) table_first
      ∙ ap (λ rest. (first_page ∷ replicate 511 0) ++ rest) (table_entries-zeros image (table_block + 1) m (λ j low high. zero_block j (omega arith) (omega arith) (record {
        gate = λ e. omega arith;
        super = λ e. omega arith;
        globals = λ e. omega arith;
        accounts = λ e. omega arith;
        threads = λ e. omega arith;
        objects = λ e. omega arith;
        table = λ e. omega arith;
        frame = λ e. omega arith;
      })))
      ∙ ap (λ rest. first_page ∷ rest) (replicate-append-replicate 511 (512 * m) 0)

  table_entries_are : take settings.frames (first_page ∷ replicate (511 + 512 * (table_blocks settings.frames - 1)) 0) ≡ first_page ∷ replicate (settings.frames - 1) 0
  table_entries_are =
      let some = few_frames.0 in
      let k = settings.frames - 1 in
      let n = 511 + 512 * (table_blocks settings.frames - 1) in
      let count : settings.frames ≡ suc k = omega arith in
      ap (λ c. take c (first_page ∷ replicate n 0)) count ∙ ap (λ rest. first_page ∷ rest) (take-replicate k n 0 (omega arith))

  table_rest_zeros : are_zeros (drop settings.frames (first_page ∷ replicate (511 + 512 * (table_blocks settings.frames - 1)) 0)) ≡ true
  table_rest_zeros = grind (arith, few_frames, are_zeros-drop, are_zeros-replicate)

  -- the root's words
  root_frame : block_words (block_of image (first_frame settings.frames)) ≡ root_words (password_drawn settings.seed 0)
  root_frame =
      let some = few_frames.0 in
      let p = password_drawn settings.seed 0 in
      let long : length (root_words p) ≡ 512 = refl in
      let fit : All IsWord (root_words p) =
      All-cons IsWord 1 (0 ∷ root_base ∷ p ∷ replicate 508 0) (omega arith)
      (All-cons IsWord 0 (root_base ∷ p ∷ replicate 508 0) (omega arith)
      (All-cons IsWord root_base (p ∷ replicate 508 0) (omega arith)
      (All-cons IsWord p (replicate 508 0) (drawn-IsWord settings.seed 0) (All-replicate IsWord 508 0 (omega arith))))) in
      let bytes : frame_bytes (fresh settings) ≡ words_bytes (root_words p) =
      ap (padded_to 4096) (append-nil (words_bytes (root_words p))) ∙ padded_to-full 4096 (words_bytes (root_words p)) (length-words_bytes (root_words p) ∙ ap (λ n. 8 * n) long) in
      ap block_words (row_block (first_frame settings.frames) (omega arith) (omega arith) ∙ at_frame settings (fresh settings) (omega arith) ∙ bytes)
      ∙ block_words-words (root_words p) long fit

  rows_are : rows_of image settings.frames ≡ Some (rows_with (fresh settings).counters ((0, treasury) ∷ []) ((0, (first_thread (password_drawn settings.seed 0)).row) ∷ []) ((0, (root_object (password_drawn settings.seed 0)).row) ∷ []) (first_page ∷ replicate (settings.frames - 1) 0))
  rows_are =
      rows-read image settings.frames (fresh settings).counters ((0, treasury) ∷ []) ((0, (first_thread (password_drawn settings.seed 0)).row) ∷ []) ((0, (root_object (password_drawn settings.seed 0)).row) ∷ []) (first_page ∷ replicate (511 + 512 * (table_blocks settings.frames - 1)) 0)
      (record {
        counters_are = counters_read;
        accounts_are = accounts_read;
        threads_are = threads_read;
        objects_are = objects_read;
        whole_is = table_is;
        rest = table_rest_zeros;
      })
      ∙ ap (λ table. Some (rows_with (fresh settings).counters ((0, treasury) ∷ []) ((0, (first_thread (password_drawn settings.seed 0)).row) ∷ []) ((0, (root_object (password_drawn settings.seed 0)).row) ∷ []) table)) table_entries_are

  -- the state
  root_page_words : page_words image settings.frames (first_page ∷ replicate (settings.frames - 1) 0) first_page ≡ root_words (password_drawn settings.seed 0)
  root_page_words =
      let table = first_page ∷ replicate (settings.frames - 1) 0 in
      let found : position (λ entry. entry == first_page) table ≡ Some 0 = ap (λ t. cond t (Some 0) None) (lt-ltb 0 (suc (length (replicate (settings.frames - 1) 0))) (omega arith)) in
      ap (λ place. option_map_or (λ frame. block_words (block_of image (first_frame settings.frames + frame))) place (replicate 512 0)) found
      ∙ ap (λ i. block_words (block_of image i)) (add-zero (first_frame settings.frames))
      ∙ root_frame

  state_is : state_spelled image settings (rows_with (fresh settings).counters ((0, treasury) ∷ []) ((0, (first_thread (password_drawn settings.seed 0)).row) ∷ []) ((0, (root_object (password_drawn settings.seed 0)).row) ∷ []) (first_page ∷ replicate (settings.frames - 1) 0))
      ≡ fresh settings
  state_is = grind (arith, state_with, rows_with, append-nil, root_page_words)

  state_fits_rows : state_fits (rows_with (fresh settings).counters ((0, treasury) ∷ []) ((0, (first_thread (password_drawn settings.seed 0)).row) ∷ []) ((0, (root_object (password_drawn settings.seed 0)).row) ∷ []) (first_page ∷ replicate (settings.frames - 1) 0)) (fresh settings)
      ≡ true
  state_fits_rows = grind (arith, few_frames, eq-eqb, zero-add, le-leb, free_frames)

  replayed_is : replayed_volume settings image ≡ Is (fresh settings)
  replayed_is = grind (arith, rows_with, rows_are, state_is, state_fits_rows)

  super_is : super_read (block_of image super_block) ≡ Spells settings
  super_is = ap super_read (is.blocks super_block (omega arith) refl ∙ at_super settings (fresh settings)) ∙ super_read-written settings keeps

  pub fresh_volume : volume image ≡ Is (fresh settings)
  fresh_volume = grind (arith, volume-opened, super_is, settled-closed, closed, replayed_is)
