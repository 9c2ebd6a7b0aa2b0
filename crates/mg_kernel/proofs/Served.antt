-- What a call with the disk keeps, said of another row.
use Rattle.{mg_access.specs.Served.{CallRow, CallServes, of_call, of_line}, mg_calls_obj.specs.Door.is_on_object, mg_disk.specs.Disk.Image}
use Rattle.{mg_disk.specs.declared.disk.Disk.Ghosts, mg_kernel.proofs.Counted.{IsOfThread, call-line, limit-call, limit-line, line-call, of-thread}}
use Rattle.{mg_kernel.specs.Calls.of_living, mg_model.specs.{Keys.Key, State.State, Threads.is_thread, Turn.thread_call, declared.calls.Call.Call}}
use Rattle.mg_model.specs.declared.{replies.{Refusal.TheVariants.NoThread, Reply.{Reply, TheVariants.No}}, seats.Seat.Seat}
use Rattle.{mg_volume.specs.{Held.VolumeHeld, Meaning.now_of, RunLemmas.serves_wider}, std.{proofs.Common.{refl, sym, ap, ◌∙◌}, specs.Prelude.ℕ}}
use Rattle.std.specs.Prelude.{◌≡◌, ◌≤◌, Bool, true, false, List, if◌then◌else◌, Option, Some, Result, Ok, Err}
use Rattle.mg_model.specs.declared.calls.Call.TheVariants as call

-- in this state the second row says no more than the first
pub record IsSaidBy (state : State) (first second : CallRow) : Type 0 where
  pub row : second.row state ≡ first.row state
  pub keeps : (kept kept' : Key → Bool) (steps steps' : ℕ) → first.KeepsKeys state kept kept' steps steps' → second.KeepsKeys state kept kept' steps steps'
  pub within : (kept : Key → Bool) (steps steps' : ℕ) → first.IsWithin state kept steps steps' → second.IsWithin state kept steps steps'

pub serves_as :
    {D E : Type 0} (n m : ℕ) (facts : Ghosts D) (first second : CallRow) (result : Result Reply E) (old new : VolumeHeld) (seats seats' : List (Option Seat)) (before after : D) (steps steps' : ℕ) → n ≤ m
    → ((image : Image) → facts.seen before ≡ Some image → IsSaidBy (now_of old image) first second) → CallServes n facts first result old new seats seats' before after steps steps' → CallServes m facts second result old new seats seats' before after steps steps'
serves_as n m facts first second (Ok reply) old new seats seats' before after steps steps' fewer said run = record {
  answers = λ image told. (said image told).row ∙ run.answers image told;
  refused = run.refused;
  failed = run.failed;
  slots = run.slots;
  backed = run.backed;
  keeps = λ image told. (said image told).keeps _ _ steps steps' (run.keeps image told);
  limit = λ image told. (said image told).within _ steps steps' (run.limit image told);
  serves = serves_wider facts n m old new before after steps steps' fewer run.serves;
  cause = run.cause;
}
serves_as n m facts first second (Err e) old new seats seats' before after steps steps' fewer said run = record {
  answers = run.answers;
  refused = run.refused;
  failed = run.failed;
  slots = run.slots;
  backed = run.backed;
  keeps = run.keeps;
  limit = λ image told. (said image told).within _ steps steps' (run.limit image told);
  serves = serves_wider facts n m old new before after steps steps' fewer run.serves;
  cause = run.cause;
}

-- of a thread that lives a line says what the call says, and the other way round
module _ (state : State) (t : ℕ) (made : Call) (of : IsOfThread state t made) where
  pub call-lives : IsSaidBy state (of_call t made) (of_living t made)
  call-lives = record {
    row = refl;
    keeps = λ kept kept' steps steps' keeps lives. line-call state t made of kept kept' steps steps' lives keeps;
    within = λ kept steps steps' few lives. limit-call state t made of kept steps steps' lives few;
  }

  pub lives-line : is_thread state t ≡ true → IsSaidBy state (of_living t made) (of_line (record { thread = t; call = made }))
  lives-line lives = record {
    row = of.answer ∙ ap (λ v. if v then thread_call state t made else (state, No NoThread)) lives;
    keeps = λ kept kept' steps steps' keeps. call-line state t made of kept kept' steps steps' lives (keeps lives);
    within = λ kept steps steps' few. limit-line state t made of kept steps steps' lives (few lives);
  }

-- a call on an object is one of a thread
pub object-lives : (state : State) (t : ℕ) (made : Call) → is_on_object made ≡ true → IsSaidBy state (of_call t made) (of_living t made)
object-lives state t made on = call-lives state t made (of-thread made state t (λ is. none call.Bad is refl) (λ is. none call.Turn is refl) (λ is. none call.Next is refl) (λ is. none call.Rent is refl))
  where
    none : (other : Call) → made ≡ other → is_on_object other ≡ false → ⊥
    none other is off = let bad : true ≡ false = sym on ∙ ap is_on_object is ∙ off in cc
