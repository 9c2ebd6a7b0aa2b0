-- Whether the key of an access is kept, by the rows of the objects alone.
use Rattle.std.specs.{Option.option_map_or, Prelude.{ℕ, Bool, false, List, find, Option}}
use Rattle.mg_model.specs.{Access.covers, State.ObjectRow, declared.{rights.Right.Right, seats.Seat.Seat}}
use Rattle.mg_vcache.specs.Seats.{is_kept}

-- an address that none of these objects has has no key
abbrev pub rows_know : List ObjectRow → List (Option Seat) → ℕ → ℕ → Right → Bool
rows_know rows seats t address right =
    option_map_or (λ (row : ObjectRow). is_kept seats (record { thread = t; base = row.base; right = right })) (find (λ (row : ObjectRow). covers row address) rows) false
