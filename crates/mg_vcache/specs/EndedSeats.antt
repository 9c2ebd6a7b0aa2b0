-- The sets of seats that the cache can drop.
use Rattle.std.specs.Prelude.{ℕ, ◌==◌, Bool}
use Rattle.mg_model.specs.{Backed.{by_given, by_thread}, declared.seats.Seat.Seat}
use Rattle.mg_vcache.specs.declared.dropping.Ended.{Ended}
use Rattle.mg_vcache.specs.declared.dropping.Ended.TheVariants as ended

abbrev pub by_object : ℕ → Seat → Bool
by_object base seat = seat.base == base

abbrev pub ended_of : Ended → Seat → Bool
ended_of (ended.Thread thread) seat = by_thread thread seat
ended_of (ended.Given list) seat = by_given list seat
ended_of (ended.To base) seat = by_object base seat
