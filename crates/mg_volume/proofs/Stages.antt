-- What staging a block leaves as it was.
use Rattle.{mg_disk.specs.Disk.Image, mg_model.specs.State.{ObjectRow, State}, mg_pages.specs.{Meaning.StagesBlock, declared.pages.Pages.Pages}}
use Rattle.mg_volume.{proofs.StillStaged.{objects_wait, still_staged}, specs.{Calls.Stages, Changes.Changes, Held.VolumeHeld, Meaning.IsSpelledBy}}
use Rattle.mg_volume.specs.Meaning.{SameShape, bare_rows, is_live, now_of, objects_in, settings_in, staged_of, total_of, words_in}
use Rattle.{mg_volume.specs.Staging.ObjectsStillStaged, std.{proofs.Common.{ap, ◌∙◌, arith}, specs.Prelude.{◌≡◌, ◌+◌, ◌≤◌, ℕ, List}}}
use Rattle.mg_pages.specs.Meaning as pages

pub same_shape : (v w : VolumeHeld) → w.settings ≡ v.settings → pages.SameShape v.pages w.pages → pages.words_in w.pages ≡ pages.words_in v.pages → SameShape v w
unfolding settings_in is_live total_of words_in
same_shape v w settings shape words = record { settings = settings; total = shape.total; live = shape.live; words = words }

staged_least : (v w : VolumeHeld) (most : ℕ) → pages.StagesMore most v.pages w.pages → staged_of v ≤ staged_of w
unfolding staged_of
staged_least v w most more = more.least

pub staged_more : (v w : VolumeHeld) (most : ℕ) → pages.StagesMore most v.pages w.pages → staged_of w ≤ staged_of v + most
unfolding staged_of
staged_more v w most more = more.staged

-- what a call stages, from what its pages say
pub stages_is : (v w : VolumeHeld) (most : ℕ) → w.settings ≡ v.settings → pages.SameShape v.pages w.pages → pages.words_in w.pages ≡ pages.words_in v.pages → pages.StagesMore most v.pages w.pages
    → ((image : Image) → IsSpelledBy v image → IsSpelledBy w image) → Stages most v w
stages_is v w most settings shape words more spelled = record {
  shape = same_shape v w settings shape words;
  spelled = spelled;
  least = staged_least v w most more;
  staged = staged_more v w most more;
  still = still_staged v w more.still;
}

-- and so what it changes, also if it leaves the objects alone
pub changes_is : (v w : VolumeHeld) (most : ℕ) (change : State → State) (rows : List ObjectRow → List ObjectRow) → w.settings ≡ v.settings → pages.SameShape v.pages w.pages → pages.words_in w.pages ≡ pages.words_in v.pages → pages.StagesMore most v.pages w.pages
    → ((image : Image) → IsSpelledBy v image → IsSpelledBy w image) → ((image : Image) → now_of w image ≡ change (now_of v image)) → objects_in w ≡ rows (objects_in v) → ObjectsStillStaged v w → Changes most change rows v w
changes_is v w most change rows settings shape words more spelled now rows_are objects = record { now = now; rows = rows_are; stages = stages_is v w most settings shape words more spelled; objects = objects }

pub same_changes : (v w : VolumeHeld) (most : ℕ) (change : State → State) → w.settings ≡ v.settings → w.objects ≡ v.objects → pages.SameShape v.pages w.pages → pages.words_in w.pages ≡ pages.words_in v.pages → pages.StagesMore most v.pages w.pages
    → ((image : Image) → IsSpelledBy v image → IsSpelledBy w image) → ((image : Image) → now_of w image ≡ change (now_of v image)) → Changes most change (λ rows. rows) v w
unfolding objects_in
same_changes v w most change settings objects shape words more spelled now = changes_is v w most change (λ rows. rows) settings shape words more spelled now (ap bare_rows objects) (objects_wait v w objects more.still)

-- a block that was staged is staged with other bytes
pub restaged : (block : ℕ) (bytes : List ℕ) (old new : Pages) → pages.Restages block bytes old new → StagesBlock block bytes old new
restaged block bytes old new told = grind arith

-- one call after the other stages no more than both
pub stages_then : (a b : ℕ) (old middle new : Pages) → pages.StagesMore a old middle → pages.StagesMore b middle new → pages.StagesMore (a + b) old new
stages_then a b old middle new first second = grind arith

pub shape_then : (old middle new : Pages) → pages.SameShape old middle → pages.SameShape middle new → pages.SameShape old new
shape_then old middle new first second = record { total = second.total ∙ first.total; frames = second.frames ∙ first.frames; live = second.live ∙ first.live }
