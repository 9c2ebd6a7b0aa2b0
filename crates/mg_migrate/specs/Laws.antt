-- What is true of lifted images.
use Rattle.std.specs.Prelude.{◌≡◌, ℕ, ◌+◌, ◌<◌, ◌≤◌, List, Some}
use Rattle.mg_migrate.specs.{Layout1.{first_frame1, table1_block, total1_blocks}, Lifted.{IsLifted, IsReplayed1}}
use Rattle.mg_migrate.specs.{Lifted.{lifted, lifted_row}, Spelling1.{Spells1, super1_read}, Version1.as_volume1}
use Rattle.mg_migrate.specs.Version1.{lift_volume, object1_row_bytes, replayed1_volume, volume1}
use Rattle.mg_model.specs.{Abbreviations.object_row_bytes, Layout.{first_frame, first_object_block, globals_block}}
use Rattle.mg_model.specs.{Layout.{super_block, table_block, table_blocks}, Limits.{most_frames, object_limit}}
use Rattle.mg_model.specs.{Replay.{block_of, replay}, Settings.Settings, Volume.{replayed_volume, volume}}

-- how many blocks a volume of version 1 has: of 64 frames, and of as many as a volume may have
pub record AreSizes : Type 0 where
  pub small : total1_blocks 64 ≡ 2148
  pub most : total1_blocks most_frames ≡ 67747

-- the journal of a lifted image is closed, so the image is what its journal gives
abbrev pub LiftedIsReplayed : Type 0
LiftedIsReplayed = (settings : Settings) (replayed : List (List ℕ)) (total : ℕ) → replay (lifted settings replayed) total ≡ Some (lifted settings replayed)

-- What a lifted image has where: each row of the objects under its number, the globals, the accounts and the threads in their blocks,
-- and each entry of the frame table and each frame under its number.
pub record KeepsPlaces (settings : Settings) (replayed : List (List ℕ)) : Type 0 where
  pub objects : (i : ℕ) → i < object_limit → object_row_bytes (lifted settings replayed) i ≡ lifted_row (object1_row_bytes replayed i)
  pub rows : (i : ℕ) → globals_block ≤ i → i < first_object_block → block_of (lifted settings replayed) i ≡ block_of replayed i
  pub entries : (i : ℕ) → i < table_blocks settings.frames → block_of (lifted settings replayed) (table_block + i) ≡ block_of replayed (table1_block + i)
  pub frames : (f : ℕ) → f < settings.frames → block_of (lifted settings replayed) (first_frame settings.frames + f) ≡ block_of replayed (first_frame1 settings.frames + f)

abbrev pub LiftedKeepsPlaces : Type 0
LiftedKeepsPlaces = (settings : Settings) (replayed : List (List ℕ)) → KeepsPlaces settings replayed

-- a lifted image spells the lifted state, and is damaged if there is none
abbrev pub LiftedIsLift : Type 0
LiftedIsLift = (settings : Settings) (replayed : List (List ℕ)) → replayed_volume settings (lifted settings replayed) ≡ lift_volume (replayed1_volume settings replayed)

-- so does each image that has the lifted blocks, if the settings are those of a volume of version 1
abbrev pub LiftedIsVolume : Type 0
LiftedIsVolume =
    (settings : Settings) (image replayed c : List (List ℕ)) → super1_read (block_of image super_block) ≡ Spells1 settings → IsLifted settings replayed c
    → volume c ≡ lift_volume (replayed1_volume settings replayed)

-- an image with a volume of version 1 spells what its journal gives
abbrev pub ReplayedIsVolume1 : Type 0
ReplayedIsVolume1 = (settings : Settings) (image replayed : List (List ℕ)) → IsReplayed1 settings image replayed → volume1 image ≡ as_volume1 (replayed1_volume settings replayed)
