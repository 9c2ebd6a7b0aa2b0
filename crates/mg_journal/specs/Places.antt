-- Where the bodies of the open segments lie.
use Rattle.std.specs.Prelude.{◌+◌, ◌≤◌, ◌<◌, ℕ, zero, suc, List, [], ◌∷◌, ◌++◌, if◌then◌else◌}
use Rattle.{mg_disk.specs.Disk.Image, mg_model.specs.{Layout.{globals_block, segment_body}, Replay.body_count}}
use Rattle.mg_model.specs.Replay.{home_of, is_open}

-- how many bodies all segments have at most
abbrev pub place_limit : ℕ
place_limit = 1280

-- of a segment, this many from body j on: pairs of the block that a body belongs to and the block that holds it
abbrev pub places_from : Image → ℕ → ℕ → ℕ → List (ℕ × ℕ)
places_from image s j zero = []
places_from image s j (suc n) = (home_of image s j, segment_body s j) ∷ places_from image s (j + 1) n

abbrev pub places_of : Image → ℕ → List (ℕ × ℕ)
places_of image s = if is_open image s then places_from image s 0 (body_count image s) else []

-- of this many segments, from segment s on, in the order in which they are replayed
abbrev pub places_since : Image → ℕ → ℕ → List (ℕ × ℕ)
places_since image s zero = []
places_since image s (suc n) = places_of image s ++ places_since image (s + 1) n

-- a home lies after the journal and below the total, a body within the journal
pub record IsPlace (total : ℕ) (place : ℕ × ℕ) : Type 0 where
  pub low : globals_block ≤ place.0
  pub high : place.0 < total
  pub body : place.1 < globals_block
