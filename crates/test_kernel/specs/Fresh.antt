-- What the tests know of a fresh volume of 64 frames.
use Rattle.std.specs.Prelude.{◌≡◌, ℕ, true, [], ◌∷◌}
use Rattle.{mg_model.specs.Fresh.root_object, mg_volume.specs.{Held.VolumeHeld, Meaning.{objects_in, settings_in}}}
use Rattle.mg_volume.specs.{Meaning.staged_of, Staging.lives}

-- the root is its one object, thread 1 lives, and nothing is staged
pub record IsFresh (v : VolumeHeld) : Type 0 where
  pub password : ℕ
  pub rows : objects_in v ≡ (root_object password).row ∷ []
  pub frames : (settings_in v).frames ≡ 64
  pub lives : lives v 1 ≡ true
  pub staged : staged_of v ≡ 0
