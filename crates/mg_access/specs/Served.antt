-- What a call with the disk keeps, one fact a field.
use Rattle.std.specs.{Option.ForSome, Prelude.{ℕ, ◌≡◌, ◌≤◌, ◌+◌, Bool, List, Option, Result, IfOk, OnErr, OnOk}}
use Rattle.{mg_disk.specs.{Stops.CountRose, declared.disk.Disk.Ghosts}, mg_model.specs.FewSlots.HasFewSlots}
use Rattle.mg_model.specs.{FewSlots.IsRefusal, Kept.{KeepsLine, line_limit}, Keys.Key, Refused.Answer, State.State}
use Rattle.mg_model.specs.{Step.step, Turn.thread_call, declared.{calls.{Call.Call, Line.Line}, replies.Reply.Reply}}
use Rattle.{mg_model.specs.declared.seats.Seat.Seat, mg_vcache.specs.Seats.{AllBacked, is_kept}}
use Rattle.mg_volume.specs.{Calls.{Reads, Serves}, Held.VolumeHeld, Meaning.{Keeps, now_of, staged_in}}

-- A call, as its contract speaks of it: its row of the definition; which keys stay kept and how many words are counted if it
-- is answered; and how many are counted at most, be it answered or not.
pub record CallRow : Type 1 where
  pub row : State → Answer
  pub KeepsKeys : State → (Key → Bool) → (Key → Bool) → ℕ → ℕ → Type 0
  pub IsWithin : State → (Key → Bool) → ℕ → ℕ → Type 0

-- what a line is answered
abbrev pub of_line : Line → CallRow
of_line line = record {
  row = λ state. step state line;
  KeepsKeys = λ state kept kept' steps steps'. KeepsLine state line kept kept' steps steps';
  IsWithin = λ state kept steps steps'. steps' ≤ steps + line_limit kept state line;
}

-- the same of the call of a thread, without a test whether it lives
abbrev pub of_call : ℕ → Call → CallRow
of_call t made = record (of_line (record { thread = t; call = made })) { row = λ state. thread_call state t made }

-- A call that may stage, at most `most` blocks more. If it is refused what is staged stays, and if a call of the disk failed
-- the state stays too. Each right that is kept is one that the state gives.
pub record CallServes {D E : Type 0} (most : ℕ) (facts : Ghosts D) (call : CallRow) (result : Result Reply E) (old new : VolumeHeld) (seats seats' : List (Option Seat)) (before after : D) (steps steps' : ℕ) : Type 0 where
  pub answers : IfOk result (λ reply. ForSome (facts.seen before) (λ image. call.row (now_of old image) ≡ (now_of new image, reply)))
  pub refused : IfOk result (λ reply. IsRefusal reply → staged_in new ≡ staged_in old)
  pub failed : OnErr result (Keeps old new)
  pub slots : IfOk result HasFewSlots
  pub backed : ForSome (facts.seen before) (λ image. AllBacked (now_of new image) seats')
  pub keeps : OnOk result (ForSome (facts.seen before) (λ image. call.KeepsKeys (now_of old image) (λ key. is_kept seats key) (λ key. is_kept seats' key) steps steps'))
  pub limit : ForSome (facts.seen before) (λ image. call.IsWithin (now_of old image) (λ key. is_kept seats key) steps steps')
  pub serves : Serves most facts old new before after steps steps'
  pub cause : OnErr result (CountRose facts before after)

-- One that only reads: the state and what is staged stay, whatever comes of it.
pub record CallReads {D E : Type 0} (facts : Ghosts D) (call : CallRow) (result : Result Reply E) (old new : VolumeHeld) (seats seats' : List (Option Seat)) (before after : D) (steps steps' : ℕ) : Type 0 where
  pub answers : IfOk result (λ reply. ForSome (facts.seen before) (λ image. call.row (now_of old image) ≡ (now_of new image, reply)))
  pub slots : IfOk result HasFewSlots
  pub backed : ForSome (facts.seen before) (λ image. AllBacked (now_of new image) seats')
  pub keeps : OnOk result (ForSome (facts.seen before) (λ image. call.KeepsKeys (now_of old image) (λ key. is_kept seats key) (λ key. is_kept seats' key) steps steps'))
  pub limit : ForSome (facts.seen before) (λ image. call.IsWithin (now_of old image) (λ key. is_kept seats key) steps steps')
  pub reads : Reads facts old new before after steps steps'
  pub cause : OnErr result (CountRose facts before after)
