-- What a call that stages leaves of a volume.
use Rattle.std.specs.Prelude.{◌≡◌, ℕ, List}
use Rattle.{mg_disk.specs.Disk.Image, mg_model.specs.{Bank.{rent_accounts, rent_paid}, State.{ObjectRow, State}}}
use Rattle.{mg_model.specs.declared.accounts.AccRow.AccRow, mg_volume.specs.{Calls.Stages, Held.VolumeHeld}}
use Rattle.mg_volume.specs.{Meaning.{now_of, objects_in}, Staging.ObjectsStillStaged}

-- at most `most` blocks more are staged; the state and the objects' rows are what these changes make of them
pub record Changes (most : ℕ) (change : State → State) (of_rows : List ObjectRow → List ObjectRow) (old new : VolumeHeld) : Type 0 where
  pub now : (image : Image) → now_of new image ≡ change (now_of old image)
  pub rows : objects_in new ≡ of_rows (objects_in old)
  pub stages : Stages most old new
  pub objects : ObjectsStillStaged old new

-- these are the accounts after the rent of a state, and this is the sum that was paid
pub record CollectsRent (state : State) (accounts : List AccRow) (sum : ℕ) : Type 0 where
  pub accounts_are : accounts ≡ rent_accounts state
  pub paid : sum ≡ rent_paid state
