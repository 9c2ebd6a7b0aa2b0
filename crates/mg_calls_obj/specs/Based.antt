-- Calls on the object with a base.
use Rattle.std.specs.Prelude.{◌==◌, ℕ, Bool, Option, IfSome, find, is_some}
use Rattle.{mg_disk.specs.Disk.Image, mg_model.specs.{Backed.{KeepsBacked, by_via}, State.ObjectRow}}
use Rattle.mg_volume.specs.{Held.VolumeHeld, Meaning.{now_of, objects_in}}

-- the row of the object with this base
abbrev pub based : VolumeHeld → ℕ → Option ObjectRow
based v base = find (λ (row : ObjectRow). row.base == base) (objects_in v)

-- whether there is one
abbrev pub is_object : VolumeHeld → ℕ → Bool
is_object v base = is_some (based v base)

-- this holds of it
abbrev pub OfBase : ℕ → VolumeHeld → (ObjectRow → Type 0) → Type 0
OfBase base v P = IfSome (based v base) P

-- each right that the state gave, the new state gives, but those that the object with this base gave as a list and those for it
abbrev pub KeepsOthers : ℕ → VolumeHeld → VolumeHeld → Type 0
KeepsOthers base old new = (image : Image) → KeepsBacked (by_via base) (now_of old image) (now_of new image)
