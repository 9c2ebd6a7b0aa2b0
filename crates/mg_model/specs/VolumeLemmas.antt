-- Lemmas that crates above need, on what the volume of an image rests on: the gate, and the blocks from the superblock on and below the total.
use Rattle.std.proofs.{Common.{refl, sym, ap, subst, ◌∙◌, ⊎_elim, arith}, lemmas.Bool.{and_left, and_parts, and_right}}
use Rattle.std.proofs.lemmas.Bool.{cases_Bool, cases_eq, eq-eqb, leb-true, ne_eqb, le-leb, lt-leb, cases_lt}
use Rattle.std.proofs.lemmas.{Bool.Decides.nat_tests, List.{get_or-set_other, get_or-set_same, length-set, length-take}}
use Rattle.std.specs.{Option.option_map_or, Prelude.{◌≡◌, ◌≢◌, ℕ, zero, suc, ◌+◌, ◌*◌, ◌/◌, ◌%◌, ◌<◌, ◌≤◌, ◌==◌, ◌&&◌}}
use Rattle.std.specs.Prelude.{nat_le, Bool, true, false, List, [], ◌∷◌, ◌++◌, if◌then◌else◌, length, replicate}
use Rattle.std.specs.Prelude.{slice_index, slice_set, Option, Some, None, position, take, drop}
use Rattle.mg_model.specs.Abbreviations.{account_row_bytes, accounts_spelled, fitting, object_row_bytes, pages_words}
use Rattle.mg_model.specs.Abbreviations.{segments_fit, table_entries, thread_row_bytes, threads_spelled, whole_table}
use Rattle.mg_model.specs.{Abbreviations.{with_live, writes_from, writes_since}, Bytes.{are_zeros, block_words}}
use Rattle.mg_model.specs.{Bytes.{bytes_at, number_at}, Layout.{first_frame, gate_open, segment_body, segment_gate}}
use Rattle.mg_model.specs.{Layout.{segment_index, table_blocks, total_blocks}, Objects.{page_of, with_object}}
use Rattle.mg_model.specs.Replay.{block_of, body_count, home_of, homes_fit, is_open, replay, segment_fits, writes_of}
use Rattle.mg_model.specs.{Replay.written, Settings.Settings, Spelling.{Read, account_read, globals_read, object_read}}
use Rattle.mg_model.specs.Spelling.{super_read, NotSuper, OldSuper, BadSuper, Spells, SuperRead, thread_read}
use Rattle.mg_model.specs.{State.{Counters, Object, ObjectRow, State, ThreadRow}, Volume.{gate_byte, IsOpened, Damaged}}
use Rattle.mg_model.specs.Volume.{NotVolume, Rows, VolumeRead, live_rows, object_spelled, objects_spelled, page_words}
use Rattle.mg_model.specs.Volume.{replayed_volume, rows_of, settled_volume, state_spelled, volume, volume_behind}
use Rattle.mg_model.specs.{Words.and_then, declared.accounts.AccRow.AccRow}
use Rattle.mg_model.specs.declared.layout.TheConstants.{BODY_LIMIT as body_limit}
use Rattle.mg_model.specs.declared.layout.TheConstants.{FIRST_ACCOUNT_BLOCK as first_account_block}
use Rattle.mg_model.specs.declared.layout.TheConstants.{FIRST_OBJECT_BLOCK as first_object_block}
use Rattle.mg_model.specs.declared.layout.TheConstants.{FIRST_THREAD_BLOCK as first_thread_block}
use Rattle.mg_model.specs.declared.layout.TheConstants.{GLOBALS_BLOCK as globals_block, SEGMENT_COUNT as segment_count}
use Rattle.mg_model.specs.declared.layout.TheConstants.{SUPER_BLOCK as super_block, TABLE_BLOCK as table_block}
use Rattle.mg_model.specs.declared.limits.TheConstants.{ACCOUNT_LIMIT as account_limit, THREAD_LIMIT as thread_limit}
use Rattle.mg_model.specs.declared.limits.TheConstants.{OBJECT_LIMIT as object_limit}

pub volume-closed : (image : List (List ℕ)) → gate_byte image ≢ gate_open → volume image ≡ NotVolume
unfolding volume
volume-closed image closed =
    ap (λ b. if b then volume_behind image (super_read (block_of image super_block)) else NotVolume)
    (and_right (nat_le 2 (length image)) (gate_byte image == gate_open) (ne_eqb (gate_byte image) gate_open closed))

pub volume-short : (image : List (List ℕ)) → length image < 2 → volume image ≡ NotVolume
unfolding volume
volume-short image short =
    ap (λ b. if b then volume_behind image (super_read (block_of image super_block)) else NotVolume)
    (and_left (nat_le 2 (length image)) (gate_byte image == gate_open) (lt-leb 2 (length image) short))

pub volume-opened : (image : List (List ℕ)) → IsOpened image → volume image ≡ volume_behind image (super_read (block_of image super_block))
unfolding volume
volume-opened image is =
    let long = le-leb 2 (length image) is.long in
    let gate = eq-eqb (gate_byte image) gate_open is.gate in
    rw (long, gate)

-- two images with the same blocks from the superblock on and below n
pub record Agree (n : ℕ) (a b : List (List ℕ)) : Type 0 where
  pub each : (k : ℕ) → super_block ≤ k → k < n → block_of a k ≡ block_of b k

-- of which all the journal and the rows are among those
pub record AgreeWhole (n : ℕ) (a b : List (List ℕ)) : Type 0 where
  pub blocks : Agree n a b
  pub long : table_block ≤ n

-- the journal
module _ (n : ℕ) (a b : List (List ℕ)) (same : AgreeWhole n a b) where
  is_open-same : (s : ℕ) → s < 8 → is_open a s ≡ is_open b s
  is_open-same s few = let l = same.long in ap (λ (block : List ℕ). slice_index block 0 == gate_open) (same.blocks.each (segment_gate s) (omega arith) (omega arith))

  index-same : (s : ℕ) → s < 8 → block_of a (segment_index s) ≡ block_of b (segment_index s)
  index-same s few = let l = same.long in same.blocks.each (segment_index s) (omega arith) (omega arith)

  body_count-same : (s : ℕ) → s < 8 → body_count a s ≡ body_count b s
  body_count-same s few = ap (λ (block : List ℕ). number_at block 0) (index-same s few)

  writes_from-same : (s j m : ℕ) → s < 8 → j + m ≤ 160 → writes_from a s j m ≡ writes_from b s j m
  writes_from-same s j zero few within = refl
  writes_from-same s j (suc m) few within =
      let l = same.long in
      let home : home_of a s j ≡ home_of b s j = ap (λ (block : List ℕ). number_at block (8 + 8 * j)) (index-same s few) in
      let body : block_of a (segment_body s j) ≡ block_of b (segment_body s j) = same.blocks.each (segment_body s j) (omega arith) (omega arith) in
      ap (λ h. (h, block_of a (segment_body s j)) ∷ writes_from a s (j + 1) m) home
      ∙ ap (λ block. (home_of b s j, block) ∷ writes_from a s (j + 1) m) body
      ∙ ap (λ writes. (home_of b s j, block_of b (segment_body s j)) ∷ writes) (writes_from-same s (j + 1) m few (omega arith))

  writes_of-same : (s : ℕ) → s < 8 → body_count a s ≤ 160 → writes_of a s ≡ writes_of b s
  writes_of-same s few within =
      ap (λ t. if t then writes_from a s 0 (body_count a s) else []) (is_open-same s few)
      ∙ ap (λ writes. if is_open b s then writes else []) (writes_from-same s 0 (body_count a s) few (let from : 0 + body_count a s ≤ 160 = omega arith in from) ∙ ap (writes_from b s 0) (body_count-same s few))

  counted-same : (total s : ℕ) → s < 8 → (nat_le (body_count a s) body_limit && homes_fit total (writes_of a s)) ≡ (nat_le (body_count b s) body_limit && homes_fit total (writes_of b s))
  counted-same total s few = ⊎_elim over within (cases_lt 160 (body_count a s))
    where
      within : body_count a s ≤ 160 → (nat_le (body_count a s) body_limit && homes_fit total (writes_of a s)) ≡ (nat_le (body_count b s) body_limit && homes_fit total (writes_of b s))
      within w =
          ap (λ c. nat_le c body_limit && homes_fit total (writes_of a s)) (body_count-same s few)
          ∙ ap (λ writes. nat_le (body_count b s) body_limit && homes_fit total writes) (writes_of-same s few w)

      over : 160 < body_count a s → (nat_le (body_count a s) body_limit && homes_fit total (writes_of a s)) ≡ (nat_le (body_count b s) body_limit && homes_fit total (writes_of b s))
      over o =
          let e = body_count-same s few in
          and_left (nat_le (body_count a s) body_limit) (homes_fit total (writes_of a s)) (lt-leb (body_count a s) 160 o)
          ∙ sym (and_left (nat_le (body_count b s) body_limit) (homes_fit total (writes_of b s)) (lt-leb (body_count b s) 160 (omega arith)))

  segment_fits-same : (total s : ℕ) → s < 8 → segment_fits total a s ≡ segment_fits total b s
  segment_fits-same total s few =
      ap (λ t. if t then (nat_le (body_count a s) body_limit && homes_fit total (writes_of a s)) else true) (is_open-same s few)
      ∙ ap (λ t. if is_open b s then t else true) (counted-same total s few)

  segments_fit-same : (total s m : ℕ) → s + m ≤ 8 → segments_fit total a s m ≡ segments_fit total b s m
  segments_fit-same total s zero few = refl
  segments_fit-same total s (suc m) few =
      ap (λ t. t && segments_fit total a (s + 1) m) (segment_fits-same total s (omega arith))
      ∙ ap (λ t. segment_fits total b s && t) (segments_fit-same total (s + 1) m (omega arith))

  -- a segment that fits writes the same
  fitting_writes-same : (total s : ℕ) → s < 8 → segment_fits total a s ≡ true → writes_of a s ≡ writes_of b s
  fitting_writes-same total s few fits = ⊎_elim opened closed (cases_Bool (is_open a s))
    where
      opened : is_open a s ≡ true → writes_of a s ≡ writes_of b s
      opened o =
          let counted : (nat_le (body_count a s) body_limit && homes_fit total (writes_of a s)) ≡ true = sym (ap (λ t. if t then (nat_le (body_count a s) body_limit && homes_fit total (writes_of a s)) else true) o) ∙ fits in
          writes_of-same s few (leb-true (body_count a s) 160 (and_parts (nat_le (body_count a s) body_limit) (homes_fit total (writes_of a s)) counted).0)

      closed : is_open a s ≡ false → writes_of a s ≡ writes_of b s
      closed o =
          ap (λ t. if t then writes_from a s 0 (body_count a s) else []) o
          ∙ sym (ap (λ t. if t then writes_from b s 0 (body_count b s) else []) (sym (is_open-same s few) ∙ o))

  writes_since-same : (total s m : ℕ) → s + m ≤ 8 → segments_fit total a s m ≡ true → writes_since a s m ≡ writes_since b s m
  writes_since-same total s zero few fit = refl
  writes_since-same total s (suc m) few fit =
      let parts = and_parts (segment_fits total a s) (segments_fit total a (s + 1) m) fit in
      ap (λ writes. writes ++ writes_since a (s + 1) m) (fitting_writes-same total s (omega arith) parts.0)
      ∙ ap (λ writes. writes_of b s ++ writes) (writes_since-same total (s + 1) m (omega arith) parts.1)

-- written blocks
pub length-written : (image : List (List ℕ)) (writes : List (ℕ × List ℕ)) → length (written image writes) ≡ length image
length-written image [] = refl
length-written image ((i, block) ∷ writes) = length-written (slice_set image i block) writes ∙ length-set image i block

set-same : (n : ℕ) (a b : List (List ℕ)) (i : ℕ) (block : List ℕ) → n ≤ length a → n ≤ length b → Agree n a b → Agree n (slice_set a i block) (slice_set b i block)
set-same n a b i block long_a long_b same = record { each = each }
  where
    each : (k : ℕ) → super_block ≤ k → k < n → block_of (slice_set a i block) k ≡ block_of (slice_set b i block) k
    each k low high = ⊎_elim here there (cases_eq k i)
      where
        here : k ≡ i → block_of (slice_set a i block) k ≡ block_of (slice_set b i block) k
        here is =
            let P : ℕ → Type 0 = λ j. block_of (slice_set a i block) j ≡ block_of (slice_set b i block) j in
            subst P (sym is) (get_or-set_same a i block [] (omega arith) ∙ sym (get_or-set_same b i block [] (omega arith)))

        there : (k ≡ i → ⊥) → block_of (slice_set a i block) k ≡ block_of (slice_set b i block) k
        there other = get_or-set_other a i k block [] other ∙ same.each k low high ∙ sym (get_or-set_other b i k block [] other)

written-same : (n : ℕ) (a b : List (List ℕ)) (writes : List (ℕ × List ℕ)) → n ≤ length a → n ≤ length b → Agree n a b → Agree n (written a writes) (written b writes)
written-same n a b [] long_a long_b same = same
written-same n a b ((i, block) ∷ writes) long_a long_b same =
    written-same n (slice_set a i block) (slice_set b i block) writes (let e = length-set a i block in omega arith) (let e = length-set b i block in omega arith) (set-same n a b i block long_a long_b same)

-- rows
pub live_rows-same : {R : Type 0} (f g : ℕ → Read R) (i n : ℕ) → ((j : ℕ) → i ≤ j → j < i + n → f j ≡ g j) → live_rows f i n ≡ live_rows g i n
live_rows-same f g i zero same = refl
live_rows-same f g i (suc n) same =
    ap (λ read. and_then read (λ row. and_then (live_rows f (i + 1) n) (λ rows. Some (with_live i row rows)))) (same i (omega arith) (omega arith))
    ∙ ap (λ rest. and_then (g i) (λ row. and_then rest (λ rows. Some (with_live i row rows)))) (live_rows-same f g (i + 1) n (λ j low high. same j (omega arith) (omega arith)))

table_entries-same : (n : ℕ) (a b : List (List ℕ)) (block m : ℕ) → Agree n a b → super_block ≤ block → block + m ≤ n → table_entries a block m ≡ table_entries b block m
table_entries-same n a b block zero same low high = refl
table_entries-same n a b block (suc m) same low high =
    ap (λ (bytes : List ℕ). block_words bytes ++ table_entries a (block + 1) m) (same.each block low (omega arith))
    ∙ ap (λ entries. block_words (block_of b block) ++ entries) (table_entries-same n a b (block + 1) m same (omega arith) (omega arith))

-- the rows and the table of two images that agree on everything below the frames
module _ (n : ℕ) (a b : List (List ℕ)) (same : AgreeWhole n a b) where
  account_row-same : (i : ℕ) → i < account_limit → account_row_bytes a i ≡ account_row_bytes b i
  account_row-same i few =
      let l = same.long in
      let place : first_account_block + i / 64 < n = omega arith in
      ap (λ (block : List ℕ). bytes_at block (64 * (i % 64)) 64) (same.blocks.each (first_account_block + i / 64) (omega arith) place)

  thread_row-same : (i : ℕ) → i < thread_limit → thread_row_bytes a i ≡ thread_row_bytes b i
  thread_row-same i few = let l = same.long in same.blocks.each (first_thread_block + i) (omega arith) (omega arith)

  object_row-same : (i : ℕ) → i < object_limit → object_row_bytes a i ≡ object_row_bytes b i
  object_row-same i few =
      let l = same.long in
      let place : first_object_block + i / 4 < n = omega arith in
      ap (λ (block : List ℕ). bytes_at block (1024 * (i % 4)) 1024) (same.blocks.each (first_object_block + i / 4) (omega arith) place)

-- the rows, from their parts
abbrev pub rows_with : Counters → List (ℕ × AccRow) → List (ℕ × ThreadRow) → List (ℕ × ObjectRow) → List ℕ → Rows
rows_with counters accounts threads objects table = record { counters = counters; accounts = accounts; threads = threads; objects = objects; table = table }

abbrev pub rows_from : ℕ → Option Counters → Option (List (ℕ × AccRow)) → Option (List (ℕ × ThreadRow)) → Option (List (ℕ × ObjectRow)) → List ℕ → Option Rows
rows_from frames counters accounts threads objects whole =
    and_then counters (λ counters.
    and_then accounts (λ accounts.
    and_then threads (λ threads.
    and_then objects (λ objects.
    if are_zeros (drop frames whole) then Some (rows_with counters accounts threads objects (take frames whole)) else None))))

rows_are : (image : List (List ℕ)) (frames : ℕ)
    → rows_of image frames
    ≡ rows_from frames (globals_read (block_of image globals_block))
    (live_rows (λ i. account_read (account_row_bytes image i)) 0 account_limit)
    (live_rows (λ i. thread_read (thread_row_bytes image i)) 0 thread_limit)
    (live_rows (λ i. object_read (object_row_bytes image i)) 0 object_limit)
    (whole_table image frames)
rows_are image frames = refl

-- every row is one of those that are read
rows-same : (n frames : ℕ) (a b : List (List ℕ)) → AgreeWhole n a b → first_frame frames ≤ n → rows_of a frames ≡ rows_of b frames
rows-same n frames a b same within =
    let l = same.long in
    let counters : globals_read (block_of a globals_block) ≡ globals_read (block_of b globals_block) = ap globals_read (same.blocks.each globals_block (omega arith) (omega arith)) in
    let accounts : live_rows (λ i. account_read (account_row_bytes a i)) 0 account_limit ≡ live_rows (λ i. account_read (account_row_bytes b i)) 0 account_limit =
    live_rows-same (λ i. account_read (account_row_bytes a i)) (λ i. account_read (account_row_bytes b i)) 0 account_limit (λ j low high. ap account_read (account_row-same n a b same j (omega arith))) in
    let threads : live_rows (λ i. thread_read (thread_row_bytes a i)) 0 thread_limit ≡ live_rows (λ i. thread_read (thread_row_bytes b i)) 0 thread_limit =
    live_rows-same (λ i. thread_read (thread_row_bytes a i)) (λ i. thread_read (thread_row_bytes b i)) 0 thread_limit (λ j low high. ap thread_read (thread_row-same n a b same j (omega arith))) in
    let objects : live_rows (λ i. object_read (object_row_bytes a i)) 0 object_limit ≡ live_rows (λ i. object_read (object_row_bytes b i)) 0 object_limit =
    live_rows-same (λ i. object_read (object_row_bytes a i)) (λ i. object_read (object_row_bytes b i)) 0 object_limit (λ j low high. ap object_read (object_row-same n a b same j (omega arith))) in
    let whole : whole_table a frames ≡ whole_table b frames = table_entries-same n a b table_block (table_blocks frames) same.blocks (omega arith) (omega arith) in
    ap (λ counters. rows_from frames counters (live_rows (λ i. account_read (account_row_bytes a i)) 0 account_limit) (live_rows (λ i. thread_read (thread_row_bytes a i)) 0 thread_limit) (live_rows (λ i. object_read (object_row_bytes a i)) 0 object_limit) (whole_table a frames)) counters
    ∙ ap (λ accounts. rows_from frames (globals_read (block_of b globals_block)) accounts (live_rows (λ i. thread_read (thread_row_bytes a i)) 0 thread_limit) (live_rows (λ i. object_read (object_row_bytes a i)) 0 object_limit) (whole_table a frames)) accounts
    ∙ ap (λ threads. rows_from frames (globals_read (block_of b globals_block)) (live_rows (λ i. account_read (account_row_bytes b i)) 0 account_limit) threads (live_rows (λ i. object_read (object_row_bytes a i)) 0 object_limit) (whole_table a frames)) threads
    ∙ ap (λ objects. rows_from frames (globals_read (block_of b globals_block)) (live_rows (λ i. account_read (account_row_bytes b i)) 0 account_limit) (live_rows (λ i. thread_read (thread_row_bytes b i)) 0 thread_limit) objects (whole_table a frames)) objects
    ∙ ap (λ whole. rows_from frames (globals_read (block_of b globals_block)) (live_rows (λ i. account_read (account_row_bytes b i)) 0 account_limit) (live_rows (λ i. thread_read (thread_row_bytes b i)) 0 thread_limit) (live_rows (λ i. object_read (object_row_bytes b i)) 0 object_limit) whole) whole

-- the table has an entry for each frame at most
short_table : (frames : ℕ) (counters : Option Counters) (accounts : Option (List (ℕ × AccRow))) (threads : Option (List (ℕ × ThreadRow))) (objects : Option (List (ℕ × ObjectRow))) (whole : List ℕ) (t : Bool) (rows : Rows)
    → t ≡ are_zeros (drop frames whole) → rows_from frames counters accounts threads objects whole ≡ Some rows → length rows.table ≤ frames
short_table frames None accounts threads objects whole t rows tested is = absurd (cc)
short_table frames (Some c) None threads objects whole t rows tested is = absurd (cc)
short_table frames (Some c) (Some a) None objects whole t rows tested is = absurd (cc)
short_table frames (Some c) (Some a) (Some h) None whole t rows tested is = absurd (cc)
short_table frames (Some c) (Some a) (Some h) (Some o) whole false rows tested is =
    let e : None ≡ Some rows = sym (ap (λ b. if b then Some (rows_with c a h o (take frames whole)) else None) (sym tested)) ∙ is in
    absurd (cc)
short_table frames (Some c) (Some a) (Some h) (Some o) whole true rows tested is =
    let e : Some (rows_with c a h o (take frames whole)) ≡ Some rows = sym (ap (λ b. if b then Some (rows_with c a h o (take frames whole)) else None) (sym tested)) ∙ is in
    let same : rows_with c a h o (take frames whole) ≡ rows = (cc) in
    let P : Rows → Type 0 = λ r. length r.table ≤ frames in
    subst P same (let l = length-take frames whole in omega arith)

pub table_short : (image : List (List ℕ)) (frames : ℕ) (rows : Rows) → rows_of image frames ≡ Some rows → length rows.table ≤ frames
table_short image frames rows is =
    short_table frames (globals_read (block_of image globals_block)) (live_rows (λ i. account_read (account_row_bytes image i)) 0 account_limit) (live_rows (λ i. thread_read (thread_row_bytes image i)) 0 thread_limit)
    (live_rows (λ i. object_read (object_row_bytes image i)) 0 object_limit) (whole_table image frames) (are_zeros (drop frames (whole_table image frames))) rows refl is

-- the frames
position-below : (p : ℕ → Bool) (xs : List ℕ) (k : ℕ) → position p xs ≡ Some k → k < length xs
position-below p xs k is = grind (arith, nat_tests)

page_words-same : (frames : ℕ) (a b : List (List ℕ)) (table : List ℕ) (page : ℕ) → Agree (total_blocks frames) a b → length table ≤ frames → page_words a frames table page ≡ page_words b frames table page
page_words-same frames a b table page same few = at_place (position (λ entry. entry == page) table) (λ k is. position-below (λ entry. entry == page) table k is)
  where
    at_place : (place : Option ℕ) → ((k : ℕ) → place ≡ Some k → k < length table)
        → option_map_or (λ frame. block_words (block_of a (first_frame frames + frame))) place (replicate 512 0) ≡ option_map_or (λ frame. block_words (block_of b (first_frame frames + frame))) place (replicate 512 0)
    at_place None below = refl
    at_place (Some k) below = let l = below k refl in ap block_words (same.each (first_frame frames + k) (omega arith) (omega arith))

pages_words-same : (frames : ℕ) (a b : List (List ℕ)) (table : List ℕ) (page n : ℕ) → Agree (total_blocks frames) a b → length table ≤ frames → pages_words a frames table page n ≡ pages_words b frames table page n
pages_words-same frames a b table page zero same few = refl
pages_words-same frames a b table page (suc n) same few =
    ap (λ words. words ++ pages_words a frames table (page + 1) n) (page_words-same frames a b table page same few)
    ∙ ap (λ words. page_words b frames table page ++ words) (pages_words-same frames a b table (page + 1) n same few)

objects_spelled-same : (frames : ℕ) (a b : List (List ℕ)) (table : List ℕ) (rows : List (ℕ × ObjectRow)) → Agree (total_blocks frames) a b → length table ≤ frames → objects_spelled a frames table rows ≡ objects_spelled b frames table rows
objects_spelled-same frames a b table [] same few = refl
objects_spelled-same frames a b table ((place, row) ∷ rows) same few =
    ap (λ words. with_object (record { row = row; words = words }) (objects_spelled a frames table rows)) (pages_words-same frames a b table (page_of row) row.pages same few)
    ∙ ap (λ objects. with_object (object_spelled b frames table row) objects) (objects_spelled-same frames a b table rows same few)

-- what a replayed image spells
abbrev pub state_with : Settings → Rows → List Object → State
state_with settings rows objects = record {
  settings = settings;
  counters = rows.counters;
  objects = objects;
  accounts = accounts_spelled rows.accounts;
  threads = threads_spelled rows.threads;
}

spelled-same : (settings : Settings) (a b : List (List ℕ)) (rows : Rows) → Agree (total_blocks settings.frames) a b → length rows.table ≤ settings.frames
    → fitting rows (state_spelled a settings rows) ≡ fitting rows (state_spelled b settings rows)
spelled-same settings a b rows same few =
    ap (λ objects. fitting rows (state_with settings rows objects)) (objects_spelled-same settings.frames a b rows.table rows.objects same few)

map_or-same : {T U : Type 0} (f g : T → U) (o : Option T) (d : U) → ((x : T) → o ≡ Some x → f x ≡ g x) → option_map_or f o d ≡ option_map_or g o d
map_or-same f g None d same = refl
map_or-same f g (Some x) d same = same x refl

replayed-same : (settings : Settings) (a b : List (List ℕ)) → Agree (total_blocks settings.frames) a b → replayed_volume settings a ≡ replayed_volume settings b
replayed-same settings a b same =
    let frames = settings.frames in
    let whole : AgreeWhole (total_blocks frames) a b = record { blocks = same; long = omega arith } in
    map_or-same (λ rows. fitting rows (state_spelled a settings rows)) (λ rows. fitting rows (state_spelled b settings rows)) (rows_of a frames) Damaged
    (λ rows is. spelled-same settings a b rows same (short_table frames (globals_read (block_of a globals_block)) (live_rows (λ i. account_read (account_row_bytes a i)) 0 account_limit) (live_rows (λ i. thread_read (thread_row_bytes a i)) 0 thread_limit)
    (live_rows (λ i. object_read (object_row_bytes a i)) 0 object_limit) (whole_table a frames) (are_zeros (drop frames (whole_table a frames))) rows refl is))
    ∙ ap (λ rows. option_map_or (λ rows. fitting rows (state_spelled b settings rows)) rows Damaged) (rows-same (total_blocks frames) frames a b whole (omega arith))

-- two images that are long enough
abbrev replays : Settings → Bool → List (List ℕ) → List (ℕ × List ℕ) → VolumeRead
replays settings fit image writes = option_map_or (λ replayed. replayed_volume settings replayed) (if fit then Some (written image writes) else None) Damaged

settled_is : (settings : Settings) (image : List (List ℕ)) → total_blocks settings.frames ≤ length image
    → settled_volume image settings ≡ replays settings (segments_fit (total_blocks settings.frames) image 0 segment_count) image (writes_since image 0 segment_count)
settled_is settings image long =
    ap (λ t. if t then replays settings (segments_fit (total_blocks settings.frames) image 0 segment_count) image (writes_since image 0 segment_count) else Damaged)
    (le-leb (total_blocks settings.frames) (length image) long)

pub settled-same : (settings : Settings) (a b : List (List ℕ)) → total_blocks settings.frames ≤ length a → total_blocks settings.frames ≤ length b → Agree (total_blocks settings.frames) a b
    → settled_volume a settings ≡ settled_volume b settings
settled-same settings a b long_a long_b same = settled_is settings a long_a ∙ ⊎_elim fit unfit (cases_Bool (segments_fit (total_blocks settings.frames) a 0 segment_count)) ∙ sym (settled_is settings b long_b)
  where
    whole : AgreeWhole (total_blocks settings.frames) a b
    whole = record { blocks = same; long = omega arith }

    fits : segments_fit (total_blocks settings.frames) a 0 segment_count ≡ segments_fit (total_blocks settings.frames) b 0 segment_count
    fits = segments_fit-same (total_blocks settings.frames) a b whole (total_blocks settings.frames) 0 segment_count (omega arith)

    fit : segments_fit (total_blocks settings.frames) a 0 segment_count ≡ true
        → replays settings (segments_fit (total_blocks settings.frames) a 0 segment_count) a (writes_since a 0 segment_count)
        ≡ replays settings (segments_fit (total_blocks settings.frames) b 0 segment_count) b (writes_since b 0 segment_count)
    fit t =
        let writes = writes_since b 0 segment_count in
        ap (λ t. replays settings t a (writes_since a 0 segment_count)) t
        ∙ ap (λ w. replays settings true a w) (writes_since-same (total_blocks settings.frames) a b whole (total_blocks settings.frames) 0 segment_count (omega arith) t)
        ∙ replayed-same settings (written a writes) (written b writes) (written-same (total_blocks settings.frames) a b writes long_a long_b same)
        ∙ ap (λ t. replays settings t b writes) (sym (sym fits ∙ t))

    unfit : segments_fit (total_blocks settings.frames) a 0 segment_count ≡ false
        → replays settings (segments_fit (total_blocks settings.frames) a 0 segment_count) a (writes_since a 0 segment_count)
        ≡ replays settings (segments_fit (total_blocks settings.frames) b 0 segment_count) b (writes_since b 0 segment_count)
    unfit f =
        ap (λ t. replays settings t a (writes_since a 0 segment_count)) f
        ∙ sym (ap (λ t. replays settings t b (writes_since b 0 segment_count)) (sym fits ∙ f))

-- an image that is too short for its frames
settled-short : (settings : Settings) (image : List (List ℕ)) → length image < total_blocks settings.frames → settled_volume image settings ≡ Damaged
settled-short settings image short =
    ap (λ t. if t then replays settings (segments_fit (total_blocks settings.frames) image 0 segment_count) image (writes_since image 0 segment_count) else Damaged)
    (lt-leb (total_blocks settings.frames) (length image) short)

behind-same : (a b : List (List ℕ)) (read : SuperRead) → ((settings : Settings) → read ≡ Spells settings → settled_volume a settings ≡ settled_volume b settings) → volume_behind a read ≡ volume_behind b read
behind-same a b NotSuper same = refl
behind-same a b OldSuper same = refl
behind-same a b BadSuper same = refl
behind-same a b (Spells settings) same = same settings refl

opened-same : (a b : List (List ℕ)) → IsOpened a → IsOpened b → block_of a super_block ≡ block_of b super_block
    → ((settings : Settings) → super_read (block_of a super_block) ≡ Spells settings → settled_volume a settings ≡ settled_volume b settings) → volume a ≡ volume b
opened-same a b opened_a opened_b super same =
    volume-opened a opened_a
    ∙ behind-same a b (super_read (block_of a super_block)) same
    ∙ ap (λ block. volume_behind b (super_read block)) super
    ∙ sym (volume-opened b opened_b)

-- Two images of the same length whose gates are open have the same volume if they agree everywhere but in block 0.
pub volume-same_behind : (a b : List (List ℕ)) → IsOpened a → IsOpened b → length a ≡ length b → ((k : ℕ) → super_block ≤ k → block_of a k ≡ block_of b k) → volume a ≡ volume b
volume-same_behind a b opened_a opened_b long each = opened-same a b opened_a opened_b (each super_block (omega arith)) (λ settings read. settled settings)
  where
    settled : (settings : Settings) → settled_volume a settings ≡ settled_volume b settings
    settled settings = ⊎_elim short enough (cases_lt (length a) (total_blocks settings.frames))
      where
        short : length a < total_blocks settings.frames → settled_volume a settings ≡ settled_volume b settings
        short s = settled-short settings a s ∙ sym (settled-short settings b (omega arith))

        enough : total_blocks settings.frames ≤ length a → settled_volume a settings ≡ settled_volume b settings
        enough e = settled-same settings a b e (omega arith) (record { each = λ k low high. each k low })

-- an image whose segments are closed is its own replay
module _ (image : List (List ℕ)) (total : ℕ) (closed : (s : ℕ) → s < segment_count → is_open image s ≡ false) where
  closed_fit : (s m : ℕ) → s + m ≤ segment_count → segments_fit total image s m ≡ true
  closed_fit s zero few = refl
  closed_fit s (suc m) few =
      ap (λ t. (if t then (nat_le (body_count image s) body_limit && homes_fit total (writes_of image s)) else true) && segments_fit total image (s + 1) m) (closed s (omega arith))
      ∙ closed_fit (s + 1) m (omega arith)

  closed_writes : (s m : ℕ) → s + m ≤ segment_count → writes_since image s m ≡ []
  closed_writes s zero few = refl
  closed_writes s (suc m) few =
      ap (λ t. (if t then writes_from image s 0 (body_count image s) else []) ++ writes_since image (s + 1) m) (closed s (omega arith))
      ∙ closed_writes (s + 1) m (omega arith)

  pub replay-closed : replay image total ≡ Some image
  replay-closed =
      ap (λ t. if t then Some (written image (writes_since image 0 segment_count)) else None) (closed_fit 0 segment_count (omega arith))
      ∙ ap (λ writes. Some (written image writes)) (closed_writes 0 segment_count (omega arith))

-- so its volume is what its rows spell
pub settled-closed : (settings : Settings) (image : List (List ℕ)) → total_blocks settings.frames ≤ length image → ((s : ℕ) → s < segment_count → is_open image s ≡ false)
    → settled_volume image settings ≡ replayed_volume settings image
settled-closed settings image long closed =
    ap (λ t. if t then option_map_or (λ replayed. replayed_volume settings replayed) (replay image (total_blocks settings.frames)) Damaged else Damaged) (le-leb (total_blocks settings.frames) (length image) long)
    ∙ ap (λ replayed. option_map_or (λ replayed. replayed_volume settings replayed) replayed Damaged) (replay-closed image (total_blocks settings.frames) closed)

-- the rows, each read
pub record AreRead (image : List (List ℕ)) (frames : ℕ) (counters : Counters) (accounts : List (ℕ × AccRow)) (threads : List (ℕ × ThreadRow)) (objects : List (ℕ × ObjectRow)) (whole : List ℕ) : Type 0 where
  pub counters_are : globals_read (block_of image globals_block) ≡ Some counters
  pub accounts_are : live_rows (λ i. account_read (account_row_bytes image i)) 0 account_limit ≡ Some accounts
  pub threads_are : live_rows (λ i. thread_read (thread_row_bytes image i)) 0 thread_limit ≡ Some threads
  pub objects_are : live_rows (λ i. object_read (object_row_bytes image i)) 0 object_limit ≡ Some objects
  pub whole_is : whole_table image frames ≡ whole
  pub rest : are_zeros (drop frames whole) ≡ true

pub rows-read : (image : List (List ℕ)) (frames : ℕ) (counters : Counters) (accounts : List (ℕ × AccRow)) (threads : List (ℕ × ThreadRow)) (objects : List (ℕ × ObjectRow)) (whole : List ℕ)
    → AreRead image frames counters accounts threads objects whole → rows_of image frames ≡ Some (rows_with counters accounts threads objects (take frames whole))
rows-read image frames counters accounts threads objects whole are =
    ap (λ c. rows_from frames c (live_rows (λ i. account_read (account_row_bytes image i)) 0 account_limit) (live_rows (λ i. thread_read (thread_row_bytes image i)) 0 thread_limit) (live_rows (λ i. object_read (object_row_bytes image i)) 0 object_limit) (whole_table image frames)) are.counters_are
    ∙ ap (λ a. rows_from frames (Some counters) a (live_rows (λ i. thread_read (thread_row_bytes image i)) 0 thread_limit) (live_rows (λ i. object_read (object_row_bytes image i)) 0 object_limit) (whole_table image frames)) are.accounts_are
    ∙ ap (λ t. rows_from frames (Some counters) (Some accounts) t (live_rows (λ i. object_read (object_row_bytes image i)) 0 object_limit) (whole_table image frames)) are.threads_are
    ∙ ap (λ o. rows_from frames (Some counters) (Some accounts) (Some threads) o (whole_table image frames)) are.objects_are
    ∙ ap (λ w. rows_from frames (Some counters) (Some accounts) (Some threads) (Some objects) w) are.whole_is
    ∙ ap (λ b. if b then Some (rows_with counters accounts threads objects (take frames whole)) else None) are.rest
