-- A thread is staged, and the state has its row.
use Rattle.{mg_disk.specs.Disk.Image, mg_model.specs.{Abbreviations.thread_row_bytes, Layout.first_thread_block, Limits.thread_limit}}
use Rattle.{mg_model.specs.{Replay.block_of, Spelling.thread_read, State.ThreadRow}, mg_pages.specs.{Meaning.StagesBlock, declared.pages.Pages.Pages}}
use Rattle.mg_volume.proofs.{Found.as_thread, Staged.{accounts_stay, block_there, but_block, but_one, counters_stay, objects_stay, staged_objects}}
use Rattle.mg_volume.{proofs.{Stages.same_changes, ThreadLists.{numbered_set, threads_mapped}}, specs.{Changes.Changes, Held.VolumeHeld}}
use Rattle.mg_volume.specs.{Meaning.{IsSpelledBy, Spelled, now_of, threads_in}, Numbered.{numbered, rows_with}, RowLists.{row_set, told, told_set}}
use Rattle.{mg_volume.specs.Staging.threads_with, std.{proofs.Common.{sym, ap, ◌∙◌, arith, inl, inr, refl}, specs.Prelude.{◌≡◌, ◌+◌, ◌-◌, ◌≤◌, ℕ}}}
use Rattle.std.specs.Prelude.{List, map, Option, Some}
use Rattle.mg_pages.specs.Meaning as pages

abbrev pub with_threads : VolumeHeld → List (ℕ × ThreadRow) → Pages → VolumeHeld
with_threads v rows p = record v { threads = rows; pages = p }

module _ (v : VolumeHeld) (p : Pages) (t : ℕ) (row : Option ThreadRow) (rows : List (ℕ × ThreadRow)) (bytes : List ℕ) (low : 1 ≤ t) (high : t ≤ 256) (put : rows ≡ rows_with t row v.threads) (staged : StagesBlock (first_thread_block + t - 1) bytes v.pages p) where
  now : (image : Image) → now_of (with_threads v rows p) image ≡ record (now_of v image) { threads = threads_with t row (threads_in v) }
  unfolding now_of threads_in
  now image =
      ap (λ objects. record (now_of v image) { objects = objects; threads = map as_thread rows }) (staged_objects v p image (first_thread_block + t - 1) bytes (omega arith) staged.table (staged.coming image))
      ∙ ap (λ threads. record (now_of v image) { threads = threads }) (ap (map as_thread) put ∙ threads_mapped t row v.threads)

  spelled : ((image : Image) → Spelled v image → thread_read bytes ≡ Some row) → (image : Image) → IsSpelledBy v image → IsSpelledBy (with_threads v rows p) image
  unfolding IsSpelledBy
  spelled read image is =
      let s : Spelled v image = is in
      let r = pages.coming v.pages image in
      let block = first_thread_block + t - 1 in
      let same = but_block v.pages p image block bytes staged in
      let number : t - 1 + 1 ≡ t = omega arith in
      record {
        fitting = staged.spelled image s.fitting;
        frames = staged.shape.frames ∙ s.frames;
        gated = s.gated;
        super = s.super;
        counters_are = counters_stay v p image s block (block + 1) same (inl (omega arith));
        accounts_are = accounts_stay v p image s block (block + 1) same (inl (omega arith));
        threads = row_set (t - 1) row s.threads;
        threads_are =
            told_set (λ i. thread_read (thread_row_bytes r i)) (λ i. thread_read (thread_row_bytes (pages.coming p image) i)) thread_limit (t - 1) row s.threads s.threads_are (omega arith)
            (let here : first_thread_block + (t - 1) ≡ block = omega arith in
            ap (λ k. thread_read (block_of (pages.coming p image) k)) here ∙ ap thread_read (block_there v.pages p image block bytes staged s.fitting (omega arith)) ∙ read image s)
            (λ j within other. ap thread_read (but_one v.pages p image block bytes staged (first_thread_block + j) (λ is. other (omega arith))));
        numbered =
            numbered_set 0 256 (t - 1) row s.threads (told (λ i. thread_read (thread_row_bytes r i)) 0 thread_limit s.threads s.threads_are).placed
            ∙ ap (λ n. rows_with n row (numbered s.threads)) number
            ∙ ap (rows_with t row) s.numbered
            ∙ sym put;
        objects = s.objects;
        objects_are = objects_stay v p image s block (block + 1) same (inr (omega arith));
        ordered = s.ordered;
        kept = s.kept;
        is = s.is;
      }

  pub thread_changes : ((image : Image) → Spelled v image → thread_read bytes ≡ Some row) → Changes 1 (λ state. record state { threads = threads_with t row (threads_in v) }) (λ rows. rows) v (with_threads v rows p)
  thread_changes read = same_changes v (with_threads v rows p) 1 (λ state. record state { threads = threads_with t row (threads_in v) }) refl refl staged.shape staged.words staged.staged (spelled read) now
