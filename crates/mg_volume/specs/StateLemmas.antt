-- What the layers above may know of the state of a volume.
use Rattle.std.{proofs.Common.{refl, sym, ap, subst, ◌∙◌, arith}, specs.Prelude.{◌≡◌, ◌≤◌, map, Some}}
use Rattle.{mg_disk.specs.{Disk.Image, declared.disk.Disk.Ghosts}, mg_model.specs.{Layout.total_blocks, Replay.replay}}
use Rattle.{mg_model.specs.{State.Object, Volume.{Is, volume}}, mg_volume.specs.Contents.{IsSet, volume_of_replay}}
use Rattle.mg_volume.specs.{Held.VolumeHeld, Meaning.{IsSpelledBy, SameShape, Spelled, StandsOn, accounts_in}}
use Rattle.mg_volume.specs.Meaning.{counters_in, now_of, objects_in, settings_in, staged_in, staged_of, threads_in}
use Rattle.mg_volume.specs.Sound.{coming_kept, rows-spelled}
use Rattle.mg_pages.specs.SpelledLemmas as laws
use Rattle.mg_pages.specs.Meaning as pages

-- it has the settings, and as many blocks as they need
pub set_of : (v : VolumeHeld) (image : Image) → Spelled v image → IsSet v.settings image
set_of v image s = record {
  gated = s.gated;
  super = s.super;
  long = let total = laws.size_of v.pages image s.fitting in let long = laws.long_of v.pages image s.fitting in let frames = ap total_blocks s.frames in omega arith;
}

-- if what is staged stays, its number stays
pub same_number : (v w : VolumeHeld) → staged_in w ≡ staged_in v → staged_of w ≡ staged_of v
unfolding staged_in staged_of
same_number v w same = laws.same_number v.pages w.pages same

-- when nothing is staged the state is what is kept
pub now_kept : (v : VolumeHeld) (image : Image) → IsSpelledBy v image → staged_of v ≡ 0 → volume image ≡ Is (now_of v image)
unfolding IsSpelledBy staged_of
now_kept v image held unstaged =
    let spelled : Spelled v image = held in
    let whole : IsSet v.settings image = set_of v image spelled in
    let total : pages.total_of v.pages ≡ total_blocks v.settings.frames = laws.size_of v.pages image spelled.fitting ∙ ap total_blocks spelled.frames in
    let replayed : replay image (total_blocks v.settings.frames) ≡ Some (pages.coming v.pages image) = ap (replay image) (sym total) ∙ laws.coming_still v.pages image spelled.fitting unstaged in
    let same : now_of v image ≡ spelled.kept = coming_kept v image spelled spelled.kept (sym (volume_of_replay v.settings image (pages.coming v.pages image) whole replayed) ∙ spelled.is) in
    spelled.is ∙ ap Is (sym same)

-- the parts of the state that do not lie in pages
pub now_settings : (v : VolumeHeld) (image : Image) → (now_of v image).settings ≡ settings_in v
unfolding now_of settings_in
now_settings v image = refl

pub now_counters : (v : VolumeHeld) (image : Image) → (now_of v image).counters ≡ counters_in v
unfolding now_of counters_in
now_counters v image = refl

pub now_accounts : (v : VolumeHeld) (image : Image) → (now_of v image).accounts ≡ accounts_in v
unfolding now_of accounts_in
now_accounts v image = refl

pub now_threads : (v : VolumeHeld) (image : Image) → (now_of v image).threads ≡ threads_in v
unfolding now_of threads_in
now_threads v image = refl

pub now_rows : (v : VolumeHeld) (image : Image) → map (λ (object : Object). object.row) (now_of v image).objects ≡ objects_in v
unfolding now_of objects_in
now_rows v image = rows-spelled (pages.coming v.pages image) v.settings.frames (pages.table_in v.pages) v.objects

-- after a call that stages, a volume stands on the disk as before
pub staged_stands : {D : Type 0} (facts : Ghosts D) (old new : VolumeHeld) (disk : D) → StandsOn facts old disk → SameShape old new → ((image : Image) → IsSpelledBy old image → IsSpelledBy new image) → StandsOn facts new disk
staged_stands facts old new disk stands shape spelled = record {
  room = subst (λ n. n ≤ facts.block_count disk) (sym shape.total) stands.room;
  settled = stands.settled;
  fits = λ image told. spelled image (stands.fits image told);
}
