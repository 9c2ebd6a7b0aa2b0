-- What a call of a thread keeps and costs, be it made by a line or by a script, and what a turn does.
use Rattle.std.specs.{Option.ForSome, Prelude.{ℕ, ◌≡◌, ◌≤◌, ◌+◌, ◌==◌, ◌&&◌, find, option_map, Bool, true, false, List}}
use Rattle.std.specs.Prelude.{Option, Some, Result, IfOk, OnErr, OnOk}
use Rattle.{mg_access.specs.Served.CallRow, mg_disk.specs.{Stops.CountRose, declared.disk.Disk.Ghosts}}
use Rattle.mg_model.specs.{Abbreviations.advanced, Accesses.{call_accesses, call_words, turn_accesses, turn_words}}
use Rattle.mg_model.specs.{Kept.{KeepsKeys, searches_limit}, Keys.Key, State.{State, Thread, ThreadRow}}
use Rattle.mg_model.specs.{Threads.is_thread, Turn.{outcome_of, thread_call, turn_state}, Warmth.disturbs}
use Rattle.mg_model.specs.{Warmth.{is_calm_turn, is_ok}, declared.{calls.Call.Call, seats.Seat.Seat}}
use Rattle.{mg_model.specs.declared.threads.After.After, mg_script.specs.Effects.{HasFrames, begun, finished, made_by}}
use Rattle.{mg_script.specs.{Effects.turned_on, declared.effects.Effect.Effect}, mg_vcache.specs.Seats.AllBacked}
use Rattle.{mg_vcache.specs.Seats.is_kept, mg_volume.specs.{Calls.Serves, Held.VolumeHeld, Meaning.{Keeps, now_of}}}
use Rattle.mg_volume.specs.Meaning.{threads_in}

-- the most that it adds to the counter of words
abbrev pub call_limit : (Key → Bool) → State → ℕ → Call → ℕ
call_limit kept state t made = call_words state t made + searches_limit kept state (call_accesses state t made)

-- it was answered
pub record KeepsCall (state : State) (t : ℕ) (made : Call) (kept kept' : Key → Bool) (steps steps' : ℕ) : Type 0 where
  pub keys : is_ok (thread_call state t made).1 && disturbs state t made ≡ false → KeepsKeys state (call_accesses state t made) kept kept'
  pub least : steps + call_words state t made ≤ steps'
  pub most : steps' ≤ steps + call_limit kept state t made

-- a call of a thread that lives, as its contract speaks of it
abbrev pub of_living : ℕ → Call → CallRow
of_living t made = record {
  row = λ state. thread_call state t made;
  KeepsKeys = λ state kept kept' steps steps'. is_thread state t ≡ true → KeepsCall state t made kept kept' steps steps';
  IsWithin = λ state kept steps steps'. is_thread state t ≡ true → steps' ≤ steps + call_limit kept state t made;
}

-- the most that a turn of a thread adds to the counter of words, be it made or not
abbrev pub turn_limit : (Key → Bool) → State → Thread → ℕ
turn_limit kept state thread = turn_words state thread + searches_limit kept state (turn_accesses state thread)

-- A turn was made. If it is calm, keys are kept by the rules of its accesses.
pub record KeepsTurn (state : State) (thread : Thread) (kept kept' : Key → Bool) (steps steps' : ℕ) : Type 0 where
  pub keys : is_calm_turn state (Some thread) ≡ true → KeepsKeys state (turn_accesses state thread) kept kept'
  pub least : steps + turn_words state thread ≤ steps'
  pub most : steps' ≤ steps + turn_limit kept state thread

-- thread t has this row
abbrev pub IsRowOf : VolumeHeld → ℕ → ThreadRow → Type 0
IsRowOf v t row = option_map (λ (thread : Thread). thread.row) (find (λ (thread : Thread). thread.number == t) (threads_in v)) ≡ Some row

-- what the turn of a thread with this row needs, by the word that was fetched, and the call that it makes
pub record Asks (row : ThreadRow) (fetched : Option ℕ) (effect : Effect) (made : Call) : Type 0 where
  pub turn : (state : State) (t : ℕ) → turned_on state t row fetched ≡ finished state t (advanced row) effect
  pub frames : HasFrames row effect
  pub call : made_by row effect ≡ begun row fetched
  pub value : made ≡ made_by row effect

-- What the turn of a Ready thread keeps, one fact a field. Nothing is staged if a call of the disk failed.
pub record TurnServes {D E : Type 0} (facts : Ghosts D) (t : ℕ) (result : Result After E) (old new : VolumeHeld) (seats seats' : List (Option Seat)) (before after : D) (steps steps' : ℕ) : Type 0 where
  pub state : OnOk result (ForSome (facts.seen before) (λ image. turn_state (now_of old image) t ≡ now_of new image))
  pub left : IfOk result (λ left. ForSome (facts.seen before) (λ image. left ≡ outcome_of (now_of new image) t))
  pub failed : OnErr result (Keeps old new)
  pub backed : ForSome (facts.seen before) (λ image. AllBacked (now_of new image) seats')
  pub keeps : OnOk result ((row : ThreadRow) → IsRowOf old t row → ForSome (facts.seen before) (λ image. KeepsTurn (now_of old image) (record { number = t; row = row }) (λ key. is_kept seats key) (λ key. is_kept seats' key) steps steps'))
  pub limit : (row : ThreadRow) → IsRowOf old t row → ForSome (facts.seen before) (λ image. steps' ≤ steps + turn_limit (λ key. is_kept seats key) (now_of old image) (record { number = t; row = row }))
  pub serves : Serves 131 facts old new before after steps steps'
  pub cause : OnErr result (CountRose facts before after)
