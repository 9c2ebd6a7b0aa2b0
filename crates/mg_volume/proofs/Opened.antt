-- A volume is opened from the rows that were read of it.
use Rattle.mg_disk.specs.{BecomesLemmas.{becomes-of, becomes-to}, Disk.Image, Reads.Becomes, Runs.leaves_wider, Stops.{Leaves, LeftOr}}
use Rattle.{mg_disk.specs.declared.disk.Disk.Ghosts, mg_journal.specs.{Contents.SameContents, Held.Store}}
use Rattle.mg_model.specs.{Abbreviations.{account_row_bytes, is_page_of, object_row_bytes, table_of, thread_row_bytes, whole_table}, Bytes.are_zeros}
use Rattle.mg_model.specs.{Layout.{globals_block, total_blocks}, Limits.{account_limit, thread_limit, object_limit}, Ranges.IsObjectRow}
use Rattle.mg_model.specs.{Replay.{block_of, replay}, Spelling.{account_read, globals_read, object_read, thread_read}, State.{Object, ObjectRow}}
use Rattle.mg_model.specs.{State.{State, ThreadRow}, Tests.all_distinct, Volume.{Rows, accounts_fit, bound_pages, live_rows, objects_fit}}
use Rattle.mg_model.specs.{Volume.{replayed_volume, state_fits, threads_fit, volume}, declared.accounts.AccRow.AccRow}
use Rattle.{mg_objects.specs.Held.{AreApart, by_base}, mg_pages.specs.declared.pages.Pages.Pages, mg_rules.specs.RowsRead.{AreKept, IsReadAs}}
use Rattle.mg_rules.specs.{RowsRead.{live_from, objects_of, rows_in, state_in}, declared.volume_rows.VolumeRows.VolumeRows}
use Rattle.mg_volume.proofs.{BareRows.sum_bare, ObjectLists.by_base_all, ObjectOrder.into_length, ObjectRemoved.apart_pairs, Reread.IsThere}
use Rattle.mg_volume.{proofs.Reread.{row_parts, there}, specs.{Contents.volume_of_replay, Held.VolumeHeld, Meaning.{IsKept, IsSpelledBy, Spelled}}}
use Rattle.mg_volume.specs.Meaning.{StandsOn, has_page, is_live, is_sound, now_of, objects_in, rows_apart, staged_of, threads_in, total_of}
use Rattle.mg_volume.specs.{Numbered.numbered, Opening.Opens, Sound.{accounts-placed, all-same, all_spelled, coming_kept, in-object, objects-fit}}
use Rattle.{mg_volume.specs.Sound.{objects-placed, rows-spelled, rows_fit, threads-numbered}, std.proofs.Common.{refl, sym, ap, subst, ◌∙◌, inl, inr}}
use Rattle.std.{proofs.{Common.{⊎_elim, arith}, lemmas.{Bool.{and_from, Decides.nat_tests}, List.length-map}}, specs.List.{list_all, list_any}}
use Rattle.std.specs.{Option.{ForSome, option_map_or}, Prelude.{◌≡◌, ◌≤◌, ◌<◌, ◌+◌, ℕ, ◌&&◌, true, List, [], ◌∷◌, length, map, sum_by, drop, Option}}
use Rattle.std.specs.Prelude.{Some, None}
use Rattle.mg_journal.specs.Standing as journal
use Rattle.mg_objects.specs.Held as held
use Rattle.mg_pages.specs.SpelledLemmas as laws
use Rattle.mg_pages.specs.Meaning as pages

-- the table of objects has the same rows in the words of both crates
live-same : {R : Type 0} (i : ℕ) (rows : List (Option R)) → held.live_from i rows ≡ live_from i rows
live-same i [] = refl
live-same i (None ∷ rows) = live-same (i + 1) rows
live-same i (Some row ∷ rows) = ap (λ xs. (i, row) ∷ xs) (live-same (i + 1) rows)

pub same_objects : (rows : VolumeRows) → held.objects_in rows.objects.items ≡ by_base (objects_of rows)
same_objects rows = ap by_base (live-same 0 rows.objects.items)

-- the volume that holds these rows
abbrev pub holding : VolumeRows → Pages → VolumeHeld
holding rows p = record {
  settings = rows.params;
  counters = rows.globals;
  objects = by_base (objects_of rows);
  accounts = rows.accounts.items;
  threads = numbered rows.threads.items;
  pages = p;
}

-- the rules that rows keep, one by one
pub record AreFit (rows : Rows) (state : State) : Type 0 where
  pub accounts : accounts_fit state.settings.credits state.counters.period state.accounts ≡ true
  pub objects : objects_fit state.settings.frames (length state.accounts) state.objects ≡ true
  pub threads : threads_fit state.counters.births state.threads ≡ true
  pub inside : list_all (λ page. list_any (λ object. is_page_of page object) state.objects) (bound_pages rows.table) ≡ true
  pub distinct : all_distinct (bound_pages rows.table) ≡ true

are-fit : (rows : Rows) (state : State) → state_fits rows state ≡ true → AreFit rows state
are-fit rows state fit = record { accounts = grind (arith, fit); objects = grind (arith, fit); threads = grind (arith, fit); inside = grind (arith, fit); distinct = grind (arith, fit) }

-- what the accounts have together
accounts-sum : (credits period : ℕ) (accounts : List AccRow) → accounts_fit credits period accounts ≡ true → sum_by (λ (row : AccRow). row.balance) accounts ≡ credits
accounts-sum credits period accounts fit = grind (arith, nat_tests, fit)

-- there is a treasury
accounts-some : (credits period : ℕ) (accounts : List AccRow) → accounts_fit credits period accounts ≡ true → 1 ≤ length accounts
accounts-some credits period accounts fit = grind (arith, nat_tests, fit)

by-base-length : (rows : List (ℕ × ObjectRow)) → length (by_base rows) ≡ length rows
by-base-length [] = refl
by-base-length (o ∷ rows) = let l = into_length o (by_base rows) in let r = by-base-length rows in omega arith

module _ (rows : VolumeRows) (kept : AreKept rows) where
  pub fits : (r : Image) → AreFit (rows_in rows) (state_in rows r)
  fits r = are-fit (rows_in rows) (state_in rows r) (kept.fit r)

  -- no page occurs twice in the frame table
  pub distinct_is : all_distinct (bound_pages rows.table.items) ≡ true
  distinct_is = (fits []).distinct

  -- the rules between objects, of their rows
  fit-rows : rows_fit rows.params.frames (length rows.accounts.items) (map (λ (o : ℕ × ObjectRow). o.1) (by_base (objects_of rows))) ≡ true
  fit-rows =
      let frames = rows.params.frames in
      let n = length rows.accounts.items in
      let same : length (state_in rows []).accounts ≡ n = ap length (accounts-placed 0 rows.accounts.items) in
      let objects = all_spelled [] frames rows.table.items (by_base (objects_of rows)) in
      ap (rows_fit frames n) (sym (rows-spelled [] frames rows.table.items (by_base (objects_of rows))))
      ∙ sym (objects-fit frames n objects)
      ∙ ap (λ k. objects_fit frames k objects) (sym same)
      ∙ ap (objects_fit frames (length (state_in rows []).accounts)) (sym (objects-placed [] frames rows.table.items (objects_of rows)))
      ∙ (fits []).objects

  apart-rows : rows_apart (map (λ (o : ℕ × ObjectRow). o.1) (by_base (objects_of rows))) ≡ true
  apart-rows = grind (arith, fit-rows)

  used-rows : sum_by (λ (o : ℕ × ObjectRow). o.1.pages) (by_base (objects_of rows)) ≤ rows.params.frames
  used-rows = let sum = sum_bare (λ (row : ObjectRow). row.pages) (by_base (objects_of rows)) in grind (arith, nat_tests, fit-rows)

  accounts-there : 1 ≤ length rows.accounts.items
  accounts-there =
      accounts-some rows.params.credits rows.globals.period rows.accounts.items
      (ap (accounts_fit rows.params.credits rows.globals.period) (sym (accounts-placed 0 rows.accounts.items)) ∙ (fits []).accounts)

  pub credits_is : sum_by (λ (row : AccRow). row.balance) rows.accounts.items ≡ rows.params.credits
  credits_is =
      accounts-sum rows.params.credits rows.globals.period rows.accounts.items
      (ap (accounts_fit rows.params.credits rows.globals.period) (sym (accounts-placed 0 rows.accounts.items)) ∙ (fits []).accounts)

  pub apart_is : AreApart (by_base (objects_of rows))
  apart_is = apart_pairs (by_base (objects_of rows)) apart-rows

  -- with pages of the frame table that was read
  module _ (p : Pages) (table : pages.table_in p ≡ rows.table.items) (frames : pages.frame_count p ≡ length rows.table.items) where
    same_frames : pages.frame_count p ≡ rows.params.frames
    same_frames = frames ∙ kept.held.entries

    -- the state of the volume is what the rows spell
    state_is : (image : Image) → state_in rows (pages.coming p image) ≡ now_of (holding rows p) image
    unfolding now_of threads_in
    state_is image =
        let r = pages.coming p image in
        let n = rows.params.frames in
        let v = holding rows p in
        let made : List Object → List AccRow → State = λ objects accounts. record { settings = rows.params; counters = rows.globals; objects = objects; accounts = accounts; threads = threads_in v } in
        ap (λ objects. record (state_in rows r) { objects = objects }) (objects-placed r n rows.table.items (objects_of rows) ∙ ap (λ t. all_spelled r n t (by_base (objects_of rows))) (sym table))
        ∙ ap (λ accounts. record (state_in rows r) { objects = all_spelled r n (pages.table_in p) (by_base (objects_of rows)); accounts = accounts }) (accounts-placed 0 rows.accounts.items)
        ∙ ap (λ threads. record (state_in rows r) { objects = all_spelled r n (pages.table_in p) (by_base (objects_of rows)); accounts = rows.accounts.items; threads = threads }) (threads-numbered rows.threads.items)

    -- which is sound, whatever the image
    pub sound_is : (image : Image) → is_sound (now_of (holding rows p) image) ≡ true
    sound_is image =
        let fit = fits (pages.coming p image) in
        let state = state_in rows (pages.coming p image) in
        let a = accounts_fit state.settings.credits state.counters.period state.accounts in
        let o = objects_fit state.settings.frames (length state.accounts) state.objects in
        let t = threads_fit state.counters.births state.threads in
        ap is_sound (sym (state_is image)) ∙ and_from (a && o) t (and_from a o fit.accounts fit.objects) fit.threads

    -- the value keeps what each value does
    pub held_is : IsKept (holding rows p)
    unfolding objects_in
    held_is = record {
      frames = same_frames;
      rows = by_base_all (λ (o : ℕ × ObjectRow). IsObjectRow o.1) (objects_of rows) kept.held.ranges;
      places = by_base_all (λ (o : ℕ × ObjectRow). o.0 < object_limit) (objects_of rows) kept.held.objects.below;
      apart = apart-rows;
      used = used-rows;
      few_objects = (let few = kept.held.objects.few in let same = by-base-length (objects_of rows) in omega arith);
      some_accounts = accounts-there;
      few_accounts = kept.held.few_accounts;
      few_threads = few-threads;
      inside = inside;
    }
      where
        few-threads : length (numbered rows.threads.items) ≤ thread_limit
        few-threads = (let few = kept.held.threads.few in let same : length (numbered rows.threads.items) ≡ length rows.threads.items = length-map {B = ℕ × ThreadRow} rows.threads.items (λ (t : ℕ × ThreadRow). (t.0 + 1, t.1)) in omega arith)

        inside : list_all (λ page. has_page (holding rows p) page) (bound_pages (pages.table_in p)) ≡ true
        inside =
            let objects = all_spelled [] rows.params.frames rows.table.items (by_base (objects_of rows)) in
            all-same (λ page. has_page (holding rows p) page) (λ page. list_any (λ object. is_page_of page object) objects)
            (λ page. sym (in-object [] rows.params.frames rows.table.items page (by_base (objects_of rows)))) (bound_pages (pages.table_in p))
            ∙ ap (λ t. list_all (λ page. list_any (λ object. is_page_of page object) objects) (bound_pages t)) table
            ∙ ap (λ l. list_all (λ page. list_any (λ object. is_page_of page object) l) (bound_pages rows.table.items)) (sym (objects-placed [] rows.params.frames rows.table.items (objects_of rows)))
            ∙ (fits []).inside

-- pages of these rows over an open journal
pub record ArePages (rows : VolumeRows) (store : Store) (p : Pages) : Type 0 where
  pub store_is : pages.store_of p ≡ store
  pub total : journal.total_of store ≡ total_blocks rows.params.frames
  pub frames : pages.frame_count p ≡ length rows.table.items
  pub table : pages.table_in p ≡ rows.table.items
  pub coming : (image : Image) → pages.coming p image ≡ pages.replayed (journal.total_of store) image
  pub spelled : (image : Image) → journal.IsFitting store image → journal.total_of store ≤ length image → pages.HasTable rows.table.items (pages.replayed (journal.total_of store) image) → pages.IsSpelledBy p image

replayed-is : (total : ℕ) (image r : Image) → replay image total ≡ Some r → pages.replayed total image ≡ r
replayed-is total image r is = ap (λ (o : Option Image). option_map_or (λ (v : Image). v) o image) is

module _ (rows : VolumeRows) (kept : AreKept rows) (store : Store) (p : Pages) (are : ArePages rows store p) where
  module _ (image now : Image) (read : IsReadAs rows image) (is_there : IsThere rows image now) (fits_now : journal.IsFitting store now) where
    same_replay : pages.replayed (journal.total_of store) now ≡ is_there.replayed
    same_replay = ap (λ n. pages.replayed n now) are.total ∙ replayed-is (total_blocks rows.params.frames) now is_there.replayed is_there.replay_is

    coming_is : pages.coming p now ≡ is_there.replayed
    coming_is = are.coming now ∙ same_replay

    has_table : pages.HasTable rows.table.items (pages.replayed (journal.total_of store) now)
    has_table =
        let parts = row_parts is_there.replayed rows.params.frames (rows_in rows) is_there.rows_are in
        let P : Image → Type 0 = pages.HasTable rows.table.items in
        subst P (sym same_replay)
        (record {
          table = ap (λ n. table_of is_there.replayed n) kept.held.entries ∙ sym parts.table;
          past = ap (λ n. are_zeros (drop n (whole_table is_there.replayed n))) kept.held.entries ∙ parts.rest;
        })

    spelled_now : Spelled (holding rows p) now
    spelled_now =
        let parts = row_parts is_there.replayed rows.params.frames (rows_in rows) is_there.rows_are in
        record {
          fitting = are.spelled now fits_now (let total = are.total in let long = is_there.whole.long in omega arith) has_table;
          frames = are.frames ∙ kept.held.entries;
          gated = is_there.whole.gated;
          super = is_there.whole.super;
          counters_are = ap (λ (i : Image). globals_read (block_of i globals_block)) coming_is ∙ parts.counters_are;
          accounts_are = ap (λ (i : Image). live_rows (λ k. account_read (account_row_bytes i k)) 0 account_limit) coming_is ∙ parts.accounts_are;
          threads = rows.threads.items;
          threads_are = ap (λ (i : Image). live_rows (λ k. thread_read (thread_row_bytes i k)) 0 thread_limit) coming_is ∙ parts.threads_are;
          numbered = refl;
          objects = objects_of rows;
          objects_are = ap (λ (i : Image). live_rows (λ k. object_read (object_row_bytes i k)) 0 object_limit) coming_is ∙ parts.objects_are;
          ordered = refl;
          kept = state_in rows read.replayed;
          is = is_there.same ∙ read.is;
        }

    spells : IsSpelledBy (holding rows p) now
    unfolding IsSpelledBy
    spells = spelled_now

    -- the state is what was read
    now_is : now_of (holding rows p) now ≡ state_in rows read.replayed
    now_is =
        coming_kept (holding rows p) now spelled_now (state_in rows read.replayed)
        (ap (replayed_volume rows.params) coming_is ∙ sym (volume_of_replay rows.params now is_there.replayed is_there.whole is_there.replay_is) ∙ is_there.same ∙ read.is)

  module _ {D : Type 0} (facts : Ghosts D) (total : ℕ) (same : total ≡ total_blocks rows.params.frames) (old new : D) (read : ForSome (facts.seen old) (IsReadAs rows)) (standing : journal.Stands facts store new) where
    there_now : (image now : Image) → IsReadAs rows image → SameContents total image now → IsThere rows image now
    there_now image now is contents = there rows image now is (let P : ℕ → Type 0 = λ n. SameContents n image now in subst P same contents)

    pub stands_now : Becomes (SameContents total) (facts.seen old) (facts.seen new) → StandsOn facts (holding rows p) new
    unfolding total_of IsSpelledBy
    stands_now came_from =
        let paged = laws.stands_spelled facts store p new are.store_is standing
        (λ now told.
        let from = becomes-of (SameContents total) (facts.seen old) (facts.seen new) now came_from told in
        let is = read from.0 from.1 in
        (spelled_now from.0 now is (there_now from.0 now is from.2) (standing.fits now told)).fitting) in
        record {
          room = paged.room;
          settled = paged.settled;
          fits = λ now told.
              let from = becomes-of (SameContents total) (facts.seen old) (facts.seen new) now came_from told in
              let is = read from.0 from.1 in
              spells from.0 now is (there_now from.0 now is from.2) (standing.fits now told);
        }

    pub opens_now : Becomes (SameContents total) (facts.seen old) (facts.seen new) → ForSome (facts.seen old) (λ image. Opens (volume image) (holding rows p) (facts.seen new))
    opens_now contents image told =
        let now = becomes-to (SameContents total) (facts.seen old) (facts.seen new) image contents told in
        let is = read image told in
        let at = there_now image now.0 is now.2 in
        record {
          state = state_in rows is.replayed;
          is = is.is;
          holds = record { image = now.0; is = now.1; kept = at.same ∙ is.is; now = now_is image now.0 is at (standing.fits now.0 now.1) };
        }

-- what a stop leaves
module _ (rows : VolumeRows) {D : Type 0} (facts : Ghosts D) (total : ℕ) (same : total ≡ total_blocks rows.params.frames) (old new : D) (read : ForSome (facts.seen old) (IsReadAs rows)) where
  pub leaves_still : ForSome (facts.seen old) (λ image. Leaves facts old new (LeftOr facts old (SameContents total image))) → ForSome (facts.seen old) (λ image. Leaves facts old new (LeftOr facts old (λ c. volume c ≡ volume image)))
  leaves_still each image told =
      leaves_wider facts old new (LeftOr facts old (SameContents total image)) (LeftOr facts old (λ c. volume c ≡ volume image)) (each image told)
      (λ c may.
      ⊎_elim (λ left. inl left) (λ contents. inr (there rows image c (read image told) (let P : ℕ → Type 0 = λ n. SameContents n image c in subst P same contents)).same) may)

-- the volume with the lists that were made of the rows
pub made_is : (rows : VolumeRows) (p : Pages) (objects : List (ℕ × ObjectRow)) (accounts : List AccRow) (threads : List (ℕ × ThreadRow)) → objects ≡ by_base (objects_of rows) → accounts ≡ rows.accounts.items → threads ≡ numbered rows.threads.items
    → ◌≡◌ {A = VolumeHeld} (record { settings = rows.params; counters = rows.globals; objects = objects; accounts = accounts; threads = threads; pages = p }) (holding rows p)
made_is rows p objects accounts threads are_objects are_accounts are_threads = grind arith

pub staged_none : (rows : VolumeRows) (p : Pages) → pages.staged_of p ≡ 0 → staged_of (holding rows p) ≡ 0
unfolding staged_of
staged_none rows p none = none

pub live_is : (rows : VolumeRows) (p : Pages) → pages.is_live p ≡ true → is_live (holding rows p) ≡ true
unfolding is_live
live_is rows p live = live
