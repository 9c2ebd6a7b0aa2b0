-- A password is drawn, in terms of the state.
use Rattle.{mg_disk.specs.Disk.Image, mg_model.specs.{Draw.password_drawn, ObjectCalls.next_password, Settings.Settings, State.Counters}}
use Rattle.{mg_volume.specs.{Held.VolumeHeld, Meaning.{counters_in, now_of, settings_in}}, std.{proofs.Common.arith, specs.Prelude.{◌≡◌, ℕ, List}}}

module _ (v : VolumeHeld) (image : Image) (counters : Counters) (draws : ℕ) (held : counters ≡ counters_in v) (count : draws ≡ counters.draws) where
  pub password_next : (settings : Settings) (seed : List ℕ) (password : ℕ) → settings ≡ settings_in v → seed ≡ settings.seed → password ≡ password_drawn seed draws → password ≡ next_password (now_of v image)
  unfolding now_of settings_in counters_in
  password_next settings seed password made begins is = grind arith
