-- The seats of the validation cache: which keys are kept, what is left when some end, and what each of them rests on.
use Rattle.std.specs.{Option.option_map_or, Prelude.{Bool, false, List, All, map, if◌then◌else◌, slice_index_or}}
use Rattle.std.specs.Prelude.{Option, Some, None, IfSome}
use Rattle.mg_model.specs.{Backed.IsBacked, Keys.{Key, is_key, seat_of}, State.State, declared.seats.Seat.Seat}

-- the key of the right that a seat keeps
abbrev pub key_in : Seat → Key
key_in seat = record { thread = seat.thread; base = seat.base; right = seat.right }

-- whether a key is kept, in the one seat that it can have
abbrev pub is_kept : List (Option Seat) → Key → Bool
is_kept seats key = option_map_or (λ seat. is_key (key_in seat) key) (slice_index_or seats (seat_of key) None) false

-- what a seat keeps, unless it is one of the ended
abbrev pub unless_ended : (Seat → Bool) → Option Seat → Option Seat
unless_ended ended None = None
unless_ended ended (Some seat) = if ended seat then None else Some seat

-- the seats without those that are ended: these are free, and each other seat is where it was
abbrev pub without : (Seat → Bool) → List (Option Seat) → List (Option Seat)
without ended seats = map (λ kept. unless_ended ended kept) seats

-- this holds of each seat that keeps a right
abbrev pub EachKept : (Seat → Type 0) → List (Option Seat) → Type 0
EachKept P seats = All (λ kept. IfSome kept P) seats

-- each right that is kept is one that a state gives
abbrev pub AllBacked : State → List (Option Seat) → Type 0
AllBacked state seats = EachKept (λ seat. IsBacked state seat) seats
