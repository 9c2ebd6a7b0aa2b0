-- What images spell, on the images that a volume begins with.
use Rattle.std.specs.Prelude.{◌≡◌, ◌≢◌, ℕ, ◌<◌, true, List}
use Rattle.{mg_layout.specs.FreshImage.IsFreshImage, mg_model.specs.{Bytes.{bytes_at, number_at}, Fresh.fresh}}
use Rattle.mg_model.specs.{Layout.{body_limit, gate_open, magic, segment_count, super_block, version}, Replay.block_of}
use Rattle.mg_model.specs.{Replay.{body_count, is_open}, Settings.Settings, Spelling.{Spells, super_read}}
use Rattle.mg_model.specs.Volume.{Damaged, Is, NotVolume, OldVolume, volume, IsOpened, gate_byte}
use Rattle.mg_model.specs.{WellFormed.IsSettings, Words.same_bytes}

-- a fresh image spells the fresh state
abbrev pub FreshIsFresh : Type 0
FreshIsFresh = (settings : Settings) (image : List (List ℕ)) → IsSettings settings → IsFreshImage settings image → volume image ≡ Is (fresh settings)

-- an image whose gate is closed is no volume
abbrev pub ClosedIsNone : Type 0
ClosedIsNone = (image : List (List ℕ)) → gate_byte image ≢ gate_open → volume image ≡ NotVolume

-- its gate is open, and its superblock begins with the eight bytes
pub record IsNamed (image : List (List ℕ)) : Type 0 where
  pub opened : IsOpened image
  pub begins : same_bytes magic (bytes_at (block_of image super_block) 0 8) ≡ true

-- one of a lower version is old, and one of a higher version is damaged
abbrev pub LowerIsOld : Type 0
LowerIsOld = (image : List (List ℕ)) → IsNamed image → number_at (block_of image super_block) 8 < version → volume image ≡ OldVolume

abbrev pub HigherIsDamaged : Type 0
HigherIsDamaged = (image : List (List ℕ)) → IsNamed image → version < number_at (block_of image super_block) 8 → volume image ≡ Damaged

-- one with an open segment of more than 160 bodies is damaged
abbrev pub OverfullIsDamaged : Type 0
OverfullIsDamaged =
    (image : List (List ℕ)) (settings : Settings) (s : ℕ) → IsOpened image → super_read (block_of image super_block) ≡ Spells settings → s < segment_count → is_open image s ≡ true → body_limit < body_count image s
    → volume image ≡ Damaged
