-- A volume whose pages changed stands on the disk as before.
use Rattle.{mg_disk.specs.{Disk.{Image, block_at}, declared.disk.Disk.Ghosts}, mg_model.specs.Layout.{globals_block, table_block}}
use Rattle.{mg_model.specs.{Spelling.globals_read, State.State, Volume.{Is, volume}}, mg_pages.specs.declared.pages.Pages.Pages}
use Rattle.mg_volume.specs.{Contents.{AgreeBehind, IsSet, accounts-same, objects-same, threads-same}, Held.VolumeHeld, Meaning.{IsSpelledBy, Spelled}}
use Rattle.{mg_volume.specs.{Meaning.{StandsOn, total_of}, StateLemmas.set_of}, std.{proofs.Common.{ap, ◌∙◌, arith}, specs.Option.ForSome}}
use Rattle.std.specs.Prelude.{◌≡◌, ◌<◌, ℕ}
use Rattle.mg_pages.specs.Meaning as pages

abbrev pub with_pages : VolumeHeld → Pages → VolumeHeld
with_pages v p = record v { pages = p }

-- the same rows are spelled, whatever became of the pages and of the image
pub spelled_again : (v : VolumeHeld) (p : Pages) (image image' : Image) → Spelled v image → pages.IsSpelledBy p image' → pages.frame_count p ≡ pages.frame_count v.pages → IsSet v.settings image' → (kept : State)
    → volume image' ≡ Is kept → AgreeBehind table_block (pages.coming p image') (pages.coming v.pages image) → Spelled (with_pages v p) image'
spelled_again v p image image' s fitting frames whole kept spelled same = record {
  fitting = fitting;
  frames = frames ∙ s.frames;
  gated = whole.gated;
  super = whole.super;
  counters_are = ap globals_read (same.each globals_block (omega arith) (omega arith)) ∙ s.counters_are;
  accounts_are = accounts-same (pages.coming p image') (pages.coming v.pages image) same ∙ s.accounts_are;
  threads = s.threads;
  threads_are = threads-same (pages.coming p image') (pages.coming v.pages image) same ∙ s.threads_are;
  numbered = s.numbered;
  objects = s.objects;
  objects_are = objects-same (pages.coming p image') (pages.coming v.pages image) same ∙ s.objects_are;
  ordered = s.ordered;
  kept = kept;
  is = spelled;
}

-- at the same image
pub spelled_same : (v : VolumeHeld) (p : Pages) (image : Image) → IsSpelledBy v image → pages.IsSpelledBy p image → pages.frame_count p ≡ pages.frame_count v.pages
    → ((k : ℕ) → k < table_block → block_at (pages.coming p image) k ≡ block_at (pages.coming v.pages image) k) → IsSpelledBy (with_pages v p) image
unfolding IsSpelledBy
spelled_same v p image s fitting frames same =
    let spelled : Spelled v image = s in
    spelled_again v p image image spelled fitting frames (set_of v image spelled) spelled.kept spelled.is (record { each = λ k low high. same k high })

module _ {D : Type 0} (facts : Ghosts D) (v : VolumeHeld) (old : D) (stands : StandsOn facts v old) where
  -- its pages stand there
  pub pages_stand : pages.StandsOn facts v.pages old
  unfolding total_of IsSpelledBy
  pages_stand = record { room = stands.room; settled = stands.settled; fits = λ image told. (let s : Spelled v image = stands.fits image told in s.fitting) }

  -- after a call that wrote nothing
  pub stands_same : (p : Pages) (new : D) → pages.StandsOn facts p new → facts.seen new ≡ facts.seen old → pages.frame_count p ≡ pages.frame_count v.pages
      → ForSome (facts.seen old) (λ image. (k : ℕ) → k < table_block → block_at (pages.coming p image) k ≡ block_at (pages.coming v.pages image) k) → StandsOn facts (with_pages v p) new
  unfolding total_of
  stands_same p new standing seen frames same = grind (arith, spelled_same)
