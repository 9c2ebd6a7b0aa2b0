-- What a call leaves of the seats of the validation cache.
use Rattle.std.specs.Prelude.{◌≡◌, Bool, List, Option}
use Rattle.mg_model.specs.declared.{replies.Reply.{Reply, TheVariants.No}, seats.Seat.Seat}
use Rattle.mg_vcache.specs.Seats.{without}

-- these are dropped, and none if the call is refused
abbrev pub Drops : (Seat → Bool) → List (Option Seat) → List (Option Seat) → Reply → Type 0
Drops ended old new (No word) = new ≡ old
Drops ended old new other = new ≡ without ended old
