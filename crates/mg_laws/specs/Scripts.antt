-- A law on calls that a script makes.
use Rattle.std.specs.Prelude.{◌≡◌, ℕ, Bool, true, false, Some}
use Rattle.mg_model.specs.{Domains.{row_of, with_thread}, Refused.Answer, State.{State, ThreadRow}, Turn.put_row}
use Rattle.mg_model.specs.{WellFormed.IsWellFormed, declared.{calls.Call.Call, threads.ThrState.TheVariants.Ready}}
use Rattle.mg_model.specs.declared.calls.Call.TheVariants as call

-- whether a script's registers can spell the call; a script enters and leaves objects by instructions of its own
abbrev pub is_by_script : Call → Bool
is_by_script (call.Pdx a mask) = false
is_by_script call.Ret = false
is_by_script other = true

-- a row of the same thread, which runs: its pc and its registers may differ
pub record IsRowOf (old row : ThreadRow) : Type 0 where
  pub birth : row.birth ≡ old.birth
  pub creator : row.creator ≡ old.creator
  pub ready : row.state ≡ Ready
  pub frames : row.frames ≡ old.frames

-- this row, with the frames of another
abbrev pub with_frames_of : ThreadRow → ThreadRow → ThreadRow
with_frames_of row other = record row { frames = other.frames }

-- A call rests on no pc and no register. The row of its thread may be replaced before the call. It may also be replaced
-- after the call, with the frames that the call left. The result is the same.
abbrev pub RestsOnNoRegister : (State → ℕ → Call → Answer) → Type 0
RestsOnNoRegister calls =
    (state : State) (t : ℕ) (old row : ThreadRow) (made : Call) → IsWellFormed state → row_of state t ≡ Some old → IsRowOf old row → is_by_script made ≡ true →
    calls (put_row state t row) t made ≡ (with_thread (calls state t made).0 t (with_frames_of row), (calls state t made).1)

-- the state with this cursor
abbrev pub at_cursor : State → ℕ → State
at_cursor state n = record state { counters = record state.counters { cursor = n } }

-- A turn does not rest on the cursor: the cursor may be moved before the turn or after it.
abbrev pub RestsOnNoCursor : (State → ℕ → State) → Type 0
RestsOnNoCursor turns = (state : State) (t n : ℕ) → turns (at_cursor state n) t ≡ at_cursor (turns state t) n
