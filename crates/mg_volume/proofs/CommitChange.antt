-- What a commit of the pages does to the volume.
use Rattle.mg_disk.specs.{BecomesLemmas.becomes-of, Disk.{Image, SeenBut}, Reads.Becomes, declared.disk.Disk.Ghosts}
use Rattle.{mg_journal.specs.Contents.{InJournal, SameContents}, mg_model.specs.{Abbreviations.whole_table, Layout.total_blocks, Objects.page_of}}
use Rattle.{mg_model.specs.{Replay.replay, State.ObjectRow, Volume.{Is, object_spelled, volume}}, mg_pages.specs.ComingLemmas.length_coming}
use Rattle.mg_pages.specs.{ComingLemmas.low_coming, Committing.HasContents, declared.pages.Pages.Pages}
use Rattle.mg_volume.{proofs.StandingPages.{spelled_again, with_pages}, specs.Contents.{AgreeBehind, IsSet, contents_set, pages_words_behind}}
use Rattle.mg_volume.specs.{Contents.{same_behind, set_as, volume_contents, volume_of_contents}, Held.VolumeHeld, Meaning.{IsKept, IsSpelledBy}}
use Rattle.mg_volume.specs.{Meaning.{Spelled, StandsOn, is_sound, now_of, threads_in, total_of}, Opening.IsSaved, Sound.{all_spelled, coming_volume}}
use Rattle.{mg_volume.specs.StateLemmas.set_of, std.proofs.{Common.{refl, sym, ap, subst, ◌∙◌, ⊎_elim, inl, inr, arith}, lemmas.List.length-take}}
use Rattle.std.specs.{Option.ForSome, Prelude.{◌≡◌, ◌⊎◌, ◌≤◌, ℕ, true, List, [], ◌∷◌, length, take, MatchResult, OnErr, OnOk, Option, Some, Result}}
use Rattle.std.specs.Prelude.{Ok, Err}
use Rattle.mg_pages.specs.SpelledLemmas as laws
use Rattle.mg_pages.specs.Meaning as pages

total_is : (v : VolumeHeld) (image : Image) → Spelled v image → pages.total_of v.pages ≡ total_blocks v.settings.frames
total_is v image s = laws.size_of v.pages image s.fitting ∙ ap total_blocks s.frames

-- what is coming has the settings too
coming_set : (v : VolumeHeld) (image : Image) → Spelled v image → IsSet v.settings (pages.coming v.pages image)
coming_set v image s =
    set_as v.settings image (pages.coming v.pages image) (length_coming v.pages image s.fitting) (λ k few. low_coming v.pages image k s.fitting (omega arith)) (set_of v image s)

has-total : (v : VolumeHeld) (image c : Image) → Spelled v image → HasContents (pages.total_of v.pages) (pages.coming v.pages image) c → HasContents (total_blocks v.settings.frames) (pages.coming v.pages image) c
has-total v image c s has = subst (λ n. HasContents n (pages.coming v.pages image) c) (total_is v image s) has

-- an image with the new contents is the state
pub new_volume : (v : VolumeHeld) (image c : Image) → Spelled v image → IsKept v → is_sound (now_of v image) ≡ true → HasContents (pages.total_of v.pages) (pages.coming v.pages image) c → volume c ≡ Is (now_of v image)
new_volume v image c s kept sound has =
    volume_of_contents v.settings (pages.coming v.pages image) c (coming_set v image s) (has-total v image c s has) ∙ coming_volume v image s kept sound

-- and one with the old contents is the old one
pub old_volume : (v : VolumeHeld) (image c : Image) → Spelled v image → SameContents (pages.total_of v.pages) image c → volume c ≡ volume image
old_volume v image c s same =
    let r = laws.replays v.pages image s.fitting in
    volume_contents v.settings image r.0 c (set_of v image s) (ap (replay image) (sym (total_is v image s)) ∙ r.1) (subst (λ n. SameContents n image c) (total_is v image s) same)

pub left_volume : (v : VolumeHeld) (image c : Image) → IsSpelledBy v image → IsKept v → is_sound (now_of v image) ≡ true
    → SameContents (pages.total_of v.pages) image c ⊎ HasContents (pages.total_of v.pages) (pages.coming v.pages image) c → (volume c ≡ volume image) ⊎ (volume c ≡ Is (now_of v image))
unfolding IsSpelledBy
left_volume v image c s kept sound left = ⊎_elim (λ same. inl (old_volume v image c s same)) (λ has. inr (new_volume v image c s kept sound has)) left

-- with nothing staged, what is coming of the new image is what was coming
coming_again : (v : VolumeHeld) (p : Pages) (image c : Image) → pages.IsSpelledBy p c → pages.staged_of p ≡ 0 → pages.total_of p ≡ pages.total_of v.pages → HasContents (pages.total_of v.pages) (pages.coming v.pages image) c
    → AgreeBehind (pages.total_of v.pages) (pages.coming v.pages image) (pages.coming p c)
coming_again v p image c fitting none total has =
    let still : replay c (pages.total_of v.pages) ≡ Some (pages.coming p c) = ap (replay c) (sym total) ∙ laws.coming_still p c fitting none in
    let P : Option Image → Type 0 = λ o. SeenBut InJournal (Some (pages.coming v.pages image)) o in
    same_behind (pages.total_of v.pages) (pages.coming v.pages image) (pages.coming p c) (subst P still has)

spelled-behind : (frames : ℕ) (a b : Image) (table : List ℕ) (os : List (ℕ × ObjectRow)) → AgreeBehind (total_blocks frames) a b → length table ≤ frames → all_spelled b frames table os ≡ all_spelled a frames table os
spelled-behind frames a b table [] same few = refl
spelled-behind frames a b table (o ∷ os) same few =
    ap (λ words. record { row = o.1; words = words } ∷ all_spelled b frames table os) (sym (pages_words_behind frames a b table (page_of o.1) o.1.pages same few))
    ∙ ap (λ objects. object_spelled a frames table o.1 ∷ objects) (spelled-behind frames a b table os same few)

short_table : (v : VolumeHeld) (image : Image) → Spelled v image → length (pages.table_in v.pages) ≤ v.settings.frames
short_table v image s =
    let is : take (pages.frame_count v.pages) (whole_table (pages.coming v.pages image) (pages.frame_count v.pages)) ≡ pages.table_in v.pages = laws.table_spelled v.pages image s.fitting in
    let long = length-take (pages.frame_count v.pages) (whole_table (pages.coming v.pages image) (pages.frame_count v.pages)) in
    let same = ap (λ (t : List ℕ). length t) is in
    let frames = s.frames in
    omega arith

now_again : (v : VolumeHeld) (p : Pages) (image c : Image) → Spelled v image → AgreeBehind (pages.total_of v.pages) (pages.coming v.pages image) (pages.coming p c) → pages.table_in p ≡ pages.table_in v.pages → now_of (with_pages v p) c ≡ now_of v image
unfolding now_of threads_in
now_again v p image c s same table =
    let whole : AgreeBehind (total_blocks v.settings.frames) (pages.coming v.pages image) (pages.coming p c) = subst (λ n. AgreeBehind n (pages.coming v.pages image) (pages.coming p c)) (total_is v image s) same in
    ap (λ t. record (now_of v image) { objects = all_spelled (pages.coming p c) v.settings.frames t v.objects }) table
    ∙ ap (λ objects. record (now_of v image) { objects = objects })
    (spelled-behind v.settings.frames (pages.coming v.pages image) (pages.coming p c) (pages.table_in v.pages) v.objects whole (short_table v image s))

-- all of it, after a commit that went well
module _ {D : Type 0} (facts : Ghosts D) (old new : D) (v : VolumeHeld) (p : Pages) (stands : StandsOn facts v old) (kept : IsKept v) (sound : ForSome (facts.seen old) (λ image. is_sound (now_of v image) ≡ true))
    (standing : pages.StandsOn facts p new) (none : pages.staged_of p ≡ 0) (total : pages.total_of p ≡ pages.total_of v.pages) (table : pages.table_in p ≡ pages.table_in v.pages) (frames : pages.frame_count p ≡ pages.frame_count v.pages) where
  pub held_now : (image now : Image) → facts.seen old ≡ Some image → facts.seen new ≡ Some now → pages.IsCommitted v.pages image now → IsSaved v (with_pages v p) image now
  unfolding IsSpelledBy
  held_now image now told told' done =
      let s : Spelled v image = stands.fits image told in
      record {
        kept = new_volume v image now s kept (sound image told) done.contents;
        now_is = now_again v p image now s (coming_again v p image now (standing.fits now told') none total done.contents) table;
      }

  pub stands_now : Becomes (pages.IsCommitted v.pages) (facts.seen old) (facts.seen new) → StandsOn facts (with_pages v p) new
  unfolding IsSpelledBy total_of
  stands_now done = record { room = standing.room; settled = standing.settled; fits = fits }
    where
      fits : ForSome (facts.seen new) (λ c. IsSpelledBy (with_pages v p) c)
      fits c told =
          let from = becomes-of (pages.IsCommitted v.pages) (facts.seen old) (facts.seen new) c done told in
          let s : Spelled v from.0 = stands.fits from.0 from.1 in
          let same = coming_again v p from.0 c (standing.fits c told) none total from.2.contents in
          let size = total_is v from.0 s in
          spelled_again v p from.0 c s (standing.fits c told) frames (contents_set v.settings (pages.coming v.pages from.0) c (coming_set v from.0 s) (has-total v from.0 c s from.2.contents)) (now_of v from.0)
          (new_volume v from.0 c s kept (sound from.0 from.1) from.2.contents)
          (record { each = λ k low high. sym (same.each k low (omega arith)) })

-- what a commit of the pages answers is what one of the volume does
pub ready_now : {T E : Type 0} (ready done dead : Type 0) (r : Result T E) → OnOk r ready → (ready → done) → OnErr r dead → MatchResult r (λ _. done) (λ _. dead)
ready_now ready done dead (Ok x) is step not = step is
ready_now ready done dead (Err e) is step not = not
