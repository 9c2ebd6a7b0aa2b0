-- What a call without the disk leaves of the rights that are kept.
use Rattle.std.specs.Prelude.{List, Option}
use Rattle.{mg_disk.specs.Disk.Image, mg_model.specs.{WellFormed.IsWellFormed, declared.seats.Seat.Seat}}
use Rattle.{mg_vcache.specs.Seats.AllBacked, mg_volume.specs.{Held.VolumeHeld, Meaning.{IsSpelledBy, now_of}}}

-- when each was one that the state gives, each that is left is one that the new state gives
abbrev pub StayBacked : VolumeHeld → VolumeHeld → List (Option Seat) → List (Option Seat) → Type 0
StayBacked old new seats seats' = (image : Image) → IsSpelledBy old image → IsWellFormed (now_of old image) → AllBacked (now_of old image) seats → AllBacked (now_of new image) seats'
