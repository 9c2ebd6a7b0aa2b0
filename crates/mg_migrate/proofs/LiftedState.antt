-- A lifted image spells the lifted state.
use Rattle.mg_migrate.proofs.{LiftedBlocks.{at_behind, at_row, block-of-lifted, object-row-lifted}, LiftedRows.lifted-read}
use Rattle.mg_migrate.specs.{Layout1.{first_frame1, table1_block}, Lifted.lifted, Spelling1.{lift_read, lift_row, object1_read}, Version1.lift}
use Rattle.mg_migrate.specs.Version1.{lift_object, lift_volume, object1_row_bytes, objects1_spelled, page1_words, pages1_words, replayed1_volume}
use Rattle.{mg_migrate.specs.Version1.{rows1_of, state1_spelled, whole_table1}, mg_model.specs.Abbreviations.{account_row_bytes, fitting, is_page_of}}
use Rattle.mg_model.specs.{Abbreviations.{object_row_bytes, pages_words, table_entries, thread_row_bytes, whole_table, with_live}, Bank.used}
use Rattle.mg_model.specs.{Bytes.{are_zeros, block_words}, Layout.{first_frame, globals_block, table_block, table_blocks, total_blocks}}
use Rattle.mg_model.specs.{Limits.{account_limit, thread_limit, object_limit}, Objects.{page_of, with_object}, Replay.block_of, Settings.Settings}
use Rattle.mg_model.specs.{Spelling.{Read, account_read, globals_read, object_read, thread_read}, State.{Counters, Object, ObjectRow, State}}
use Rattle.mg_model.specs.{State.ThreadRow, Tests.all_distinct, Volume.{Damaged, Is, Rows, are_apart, bound_pages, live_rows, objects_fit}}
use Rattle.mg_model.specs.Volume.{objects_spelled, page_words, replayed_volume, rows_of, state_fits, state_spelled, table_fits}
use Rattle.mg_model.specs.{VolumeLemmas.{live_rows-same, rows_from, rows_with, state_with}, Words.and_then, declared.accounts.AccRow.AccRow}
use Rattle.std.{proofs.{Common.{refl, ap, ◌∙◌, arith}, lemmas.{Bool.Decides.nat_tests, List.{length-take, Folds.list_all-map}}}, specs.List.fold}
use Rattle.std.specs.{List.{list_all, list_any}, Option.option_map_or, Prelude.{◌≡◌, ℕ, zero, suc, ◌+◌, ◌*◌, ◌/◌, ◌%◌, ◌<◌, ◌≤◌, ◌==◌, ◌&&◌, ◌||◌}}
use Rattle.std.specs.Prelude.{nat_le, Bool, true, false, List, [], ◌∷◌, ◌++◌, drop, if◌then◌else◌, length, map, position, replicate, take, Option}
use Rattle.std.specs.Prelude.{Some, None, option_map}

-- rows with their places
abbrev lift_placed : ℕ × ObjectRow → ℕ × ObjectRow
lift_placed row = (row.0, lift_row row.1)

abbrev lift_rows : Rows → Rows
lift_rows rows = record rows { objects = map lift_placed rows.objects }

-- live rows of which each is read lifted
and_lifted : (i : ℕ) (read : Read ObjectRow) (rest rest1 : Option (List (ℕ × ObjectRow))) → rest ≡ option_map (map lift_placed) rest1
    → and_then (lift_read read) (λ row. and_then rest (λ rows. Some (with_live i row rows))) ≡ option_map (map lift_placed) (and_then read (λ row. and_then rest1 (λ rows. Some (with_live i row rows))))
and_lifted i None rest rest1 is = refl
and_lifted i (Some row) rest None is = ap (λ r. and_then r (λ rows. Some (with_live i (option_map lift_row row) rows))) is
and_lifted i (Some None) rest (Some rows) is = ap (λ r. and_then r (λ rows. Some (with_live i None rows))) is
and_lifted i (Some (Some row)) rest (Some rows) is = ap (λ r. and_then r (λ rows. Some (with_live i (Some (lift_row row)) rows))) is

live_rows-lifted : (f g : ℕ → Read ObjectRow) (i n : ℕ) → ((j : ℕ) → i ≤ j → j < i + n → f j ≡ lift_read (g j)) → live_rows f i n ≡ option_map (map lift_placed) (live_rows g i n)
live_rows-lifted f g i zero same = refl
live_rows-lifted f g i (suc n) same =
    ap (λ read. and_then read (λ row. and_then (live_rows f (i + 1) n) (λ rows. Some (with_live i row rows)))) (same i (omega arith) (omega arith))
    ∙ and_lifted i (g i) (live_rows f (i + 1) n) (live_rows g (i + 1) n) (live_rows-lifted f g (i + 1) n (λ j low high. same j (omega arith) (omega arith)))

tested-lifted : (t : Bool) (rows : Rows) → (if t then Some (lift_rows rows) else None) ≡ option_map lift_rows (if t then Some rows else None)
tested-lifted true rows = refl
tested-lifted false rows = refl

rows_from-lifted : (frames : ℕ) (c : Option Counters) (a : Option (List (ℕ × AccRow))) (t : Option (List (ℕ × ThreadRow))) (o : Option (List (ℕ × ObjectRow))) (whole : List ℕ)
    → rows_from frames c a t (option_map (map lift_placed) o) whole ≡ option_map lift_rows (rows_from frames c a t o whole)
rows_from-lifted frames None a t o whole = refl
rows_from-lifted frames (Some c) None t o whole = refl
rows_from-lifted frames (Some c) (Some a) None o whole = refl
rows_from-lifted frames (Some c) (Some a) (Some t) None whole = refl
rows_from-lifted frames (Some c) (Some a) (Some t) (Some o) whole = tested-lifted (are_zeros (drop frames whole)) (rows_with c a t o (take frames whole))

-- the table has an entry for each frame at most
short_table : (frames : ℕ) (c : Option Counters) (a : Option (List (ℕ × AccRow))) (t : Option (List (ℕ × ThreadRow))) (o : Option (List (ℕ × ObjectRow))) (whole : List ℕ) (rows : Rows)
    → rows_from frames c a t o whole ≡ Some rows → length rows.table ≤ frames
short_table frames None a t o whole rows is = absurd (cc)
short_table frames (Some c) None t o whole rows is = absurd (cc)
short_table frames (Some c) (Some a) None o whole rows is = absurd (cc)
short_table frames (Some c) (Some a) (Some t) None whole rows is = absurd (cc)
short_table frames (Some c) (Some a) (Some t) (Some o) whole rows is = grind (arith, rows_with, length-take)

position-below : (p : ℕ → Bool) (xs : List ℕ) (k : ℕ) → position p xs ≡ Some k → k < length xs
position-below p xs k is = grind (arith, nat_tests)

module _ (settings : Settings) (r : List (List ℕ)) where
  abbrev l : List (List ℕ)
  l = lifted settings r

  -- rows that stay
  row-block : (i : ℕ) → globals_block ≤ i → i < 1571 → block_of l i ≡ block_of r i
  row-block i low high = block-of-lifted settings r i (omega arith) ∙ at_row settings r i low high

  behind-block : (i k : ℕ) → table1_block ≤ k → i ≡ k + 512 → i < total_blocks settings.frames → block_of l i ≡ block_of r k
  behind-block i k low is below = block-of-lifted settings r i below ∙ at_behind settings r i k low is

  table-lifted : (i k n : ℕ) → table1_block ≤ k → i ≡ k + 512 → i + n ≤ total_blocks settings.frames → table_entries l i n ≡ table_entries r k n
  table-lifted i k zero low is within = refl
  table-lifted i k (suc n) low is within =
      ap (λ (b : List ℕ). block_words b ++ table_entries l (i + 1) n) (behind-block i k low is (omega arith))
      ∙ ap (λ rest. block_words (block_of r k) ++ rest) (table-lifted (i + 1) (k + 1) n (omega arith) (omega arith) (omega arith))

  rows-lifted : rows_of l settings.frames ≡ option_map lift_rows (rows1_of r settings.frames)
  rows-lifted =
      let frames = settings.frames in
      let counters : globals_read (block_of l globals_block) ≡ globals_read (block_of r globals_block) = ap globals_read (row-block globals_block (omega arith) (omega arith)) in
      let accounts : live_rows (λ i. account_read (account_row_bytes l i)) 0 account_limit ≡ live_rows (λ i. account_read (account_row_bytes r i)) 0 account_limit =
      live_rows-same (λ i. account_read (account_row_bytes l i)) (λ i. account_read (account_row_bytes r i)) 0 account_limit
      (λ j low high. ap (λ (b : List ℕ). account_read (take 64 (drop (64 * (j % 64)) b))) (row-block (1299 + j / 64) (omega arith) (omega arith))) in
      let threads : live_rows (λ i. thread_read (thread_row_bytes l i)) 0 thread_limit ≡ live_rows (λ i. thread_read (thread_row_bytes r i)) 0 thread_limit =
      live_rows-same (λ i. thread_read (thread_row_bytes l i)) (λ i. thread_read (thread_row_bytes r i)) 0 thread_limit (λ j low high. ap thread_read (row-block (1315 + j) (omega arith) (omega arith))) in
      let objects : live_rows (λ i. object_read (object_row_bytes l i)) 0 object_limit ≡ option_map (map lift_placed) (live_rows (λ i. object1_read (object1_row_bytes r i)) 0 object_limit) =
      live_rows-lifted (λ i. object_read (object_row_bytes l i)) (λ i. object1_read (object1_row_bytes r i)) 0 object_limit
      (λ j low high. ap object_read (object-row-lifted settings r j (omega arith)) ∙ lifted-read (object1_row_bytes r j)) in
      let whole : whole_table l frames ≡ whole_table1 r frames = table-lifted table_block table1_block (table_blocks frames) (omega arith) (omega arith) (omega arith) in
      ap (λ counters. rows_from frames counters (live_rows (λ i. account_read (account_row_bytes l i)) 0 account_limit) (live_rows (λ i. thread_read (thread_row_bytes l i)) 0 thread_limit) (live_rows (λ i. object_read (object_row_bytes l i)) 0 object_limit) (whole_table l frames)) counters
      ∙ ap (λ accounts. rows_from frames (globals_read (block_of r globals_block)) accounts (live_rows (λ i. thread_read (thread_row_bytes l i)) 0 thread_limit) (live_rows (λ i. object_read (object_row_bytes l i)) 0 object_limit) (whole_table l frames)) accounts
      ∙ ap (λ threads. rows_from frames (globals_read (block_of r globals_block)) (live_rows (λ i. account_read (account_row_bytes r i)) 0 account_limit) threads (live_rows (λ i. object_read (object_row_bytes l i)) 0 object_limit) (whole_table l frames)) threads
      ∙ ap (λ objects. rows_from frames (globals_read (block_of r globals_block)) (live_rows (λ i. account_read (account_row_bytes r i)) 0 account_limit) (live_rows (λ i. thread_read (thread_row_bytes r i)) 0 thread_limit) objects (whole_table l frames)) objects
      ∙ ap (λ whole. rows_from frames (globals_read (block_of r globals_block)) (live_rows (λ i. account_read (account_row_bytes r i)) 0 account_limit) (live_rows (λ i. thread_read (thread_row_bytes r i)) 0 thread_limit) (option_map (map lift_placed) (live_rows (λ i. object1_read (object1_row_bytes r i)) 0 object_limit)) whole) whole
      ∙ rows_from-lifted frames (globals_read (block_of r globals_block)) (live_rows (λ i. account_read (account_row_bytes r i)) 0 account_limit) (live_rows (λ i. thread_read (thread_row_bytes r i)) 0 thread_limit) (live_rows (λ i. object1_read (object1_row_bytes r i)) 0 object_limit) (whole_table1 r frames)

  -- the words of pages
  page-lifted : (table : List ℕ) (page : ℕ) → length table ≤ settings.frames → page_words l settings.frames table page ≡ page1_words r settings.frames table page
  page-lifted table page few = at_place (position (λ entry. entry == page) table) (λ k is. position-below (λ entry. entry == page) table k is)
    where
      at_place : (place : Option ℕ) → ((k : ℕ) → place ≡ Some k → k < length table)
          → option_map_or (λ frame. block_words (block_of l (first_frame settings.frames + frame))) place (replicate 512 0) ≡ option_map_or (λ frame. block_words (block_of r (first_frame1 settings.frames + frame))) place (replicate 512 0)
      at_place None below = refl
      at_place (Some k) below =
          let b = below k refl in
          ap block_words (behind-block (first_frame settings.frames + k) (first_frame1 settings.frames + k) (omega arith) (omega arith) (omega arith))

  pages-lifted : (table : List ℕ) (page n : ℕ) → length table ≤ settings.frames → pages_words l settings.frames table page n ≡ pages1_words r settings.frames table page n
  pages-lifted table page zero few = refl
  pages-lifted table page (suc n) few = grind (arith, (pages-lifted table (page + 1) n few), page-lifted)

-- an object more, lifted
with_object-lifted : (object : Object) (objects : List Object) → with_object (lift_object object) (map lift_object objects) ≡ map lift_object (with_object object objects)
with_object-lifted object [] = refl
with_object-lifted object (next ∷ objects) = grind (arith, (with_object-lifted object objects))

module _ (settings : Settings) (r : List (List ℕ)) (table : List ℕ) (few : length table ≤ settings.frames) where
  objects-lifted : (rows : List (ℕ × ObjectRow)) → objects_spelled (lifted settings r) settings.frames table (map lift_placed rows) ≡ map lift_object (objects1_spelled r settings.frames table rows)
  objects-lifted [] = refl
  objects-lifted ((place, row) ∷ rows) =
      ap (λ words. with_object (record { row = lift_row row; words = words }) (objects_spelled (lifted settings r) settings.frames table (map lift_placed rows))) (pages-lifted settings r table (page_of row) row.pages few)
      ∙ ap (λ objects. with_object (record { row = lift_row row; words = pages1_words r settings.frames table (page_of row) row.pages }) objects) (objects-lifted rows)
      ∙ with_object-lifted (record { row = row; words = pages1_words r settings.frames table (page_of row) row.pages }) (objects1_spelled r settings.frames table rows)

state-lifted : (settings : Settings) (r : List (List ℕ)) (rows : Rows) → length rows.table ≤ settings.frames → state_spelled (lifted settings r) settings (lift_rows rows) ≡ lift (state1_spelled r settings rows)
state-lifted settings r rows few = ap (λ objects. state_with settings rows objects) (objects-lifted settings r rows.table few rows.objects)

-- the rules between rows do not speak of passwords
apart-lifted : (objects : List Object) → are_apart (map lift_object objects) ≡ are_apart objects
apart-lifted [] = refl
apart-lifted (object ∷ []) = refl
apart-lifted (object ∷ next ∷ objects) = ap (λ t. nat_le (page_of object.row + object.row.pages) (page_of next.row) && t) (apart-lifted (next ∷ objects))

used-lifted : (objects : List Object) → used (map lift_object objects) ≡ used objects
used-lifted objects = from_any 0 objects
  where
    from_any : (n : ℕ) (objects : List Object) → fold (λ a (x : Object). a + x.row.pages) n (map lift_object objects) ≡ fold (λ a (x : Object). a + x.row.pages) n objects
    from_any n [] = refl
    from_any n (object ∷ objects) = from_any (n + object.row.pages) objects

objects_fit-lifted : (frames accounts : ℕ) (objects : List Object) → objects_fit frames accounts (map lift_object objects) ≡ objects_fit frames accounts objects
objects_fit-lifted frames accounts objects = grind (arith, apart-lifted, list_all-map, used-lifted)

any-lifted : (page : ℕ) (objects : List Object) → list_any (λ object. is_page_of page object) (map lift_object objects) ≡ list_any (λ object. is_page_of page object) objects
any-lifted page [] = refl
any-lifted page (object ∷ objects) = ap (λ t. is_page_of page object || t) (any-lifted page objects)

all-any-lifted : (pages : List ℕ) (objects : List Object)
    → list_all (λ page. list_any (λ object. is_page_of page object) (map lift_object objects)) pages ≡ list_all (λ page. list_any (λ object. is_page_of page object) objects) pages
all-any-lifted [] objects = refl
all-any-lifted (page ∷ pages) objects = grind (arith, (all-any-lifted pages objects), any-lifted)

table_fits-lifted : (objects : List Object) (table : List ℕ) → table_fits (map lift_object objects) table ≡ table_fits objects table
table_fits-lifted objects table = ap (λ t. t && all_distinct (bound_pages table)) (all-any-lifted (bound_pages table) objects)

fits-lifted : (rows : Rows) (state : State) → state_fits (lift_rows rows) (lift state) ≡ state_fits rows state
fits-lifted rows state = grind (arith, objects_fit-lifted, table_fits-lifted)

judged : (t : Bool) (state : State) → (if t then Is (lift state) else Damaged) ≡ lift_volume (if t then Is state else Damaged)
judged true state = refl
judged false state = refl

fitting-lifted : (rows : Rows) (state : State) → fitting (lift_rows rows) (lift state) ≡ lift_volume (fitting rows state)
fitting-lifted rows state = ap (λ t. if t then Is (lift state) else Damaged) (fits-lifted rows state) ∙ judged (state_fits rows state) state

pub replayed-lifted : (settings : Settings) (r : List (List ℕ)) → replayed_volume settings (lifted settings r) ≡ lift_volume (replayed1_volume settings r)
replayed-lifted settings r =
    ap (λ rows. option_map_or (λ rows. fitting rows (state_spelled (lifted settings r) settings rows)) rows Damaged) (rows-lifted settings r)
    ∙ spelled (rows1_of r settings.frames) (λ rows is. short_table settings.frames (globals_read (block_of r globals_block)) (live_rows (λ i. account_read (account_row_bytes r i)) 0 account_limit)
    (live_rows (λ i. thread_read (thread_row_bytes r i)) 0 thread_limit) (live_rows (λ i. object1_read (object1_row_bytes r i)) 0 object_limit) (whole_table1 r settings.frames) rows is)
  where
    spelled : (o : Option Rows) → ((rows : Rows) → o ≡ Some rows → length rows.table ≤ settings.frames)
        → option_map_or (λ rows. fitting rows (state_spelled (lifted settings r) settings rows)) (option_map lift_rows o) Damaged ≡ lift_volume (option_map_or (λ rows. fitting rows (state1_spelled r settings rows)) o Damaged)
    spelled None short = refl
    spelled (Some rows) short = ap (fitting (lift_rows rows)) (state-lifted settings r rows (short rows refl)) ∙ fitting-lifted rows (state1_spelled r settings rows)
