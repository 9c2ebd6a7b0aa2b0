-- What an access keeps, one fact a field.
use Rattle.std.specs.{Option.ForSome, Prelude.{ℕ, ◌≡◌, ◌≤◌, ◌+◌, ◌-◌, ◌==◌, find, List, Option, None, Result, IfOk}}
use Rattle.std.specs.Prelude.{OnErr, OnOk}
use Rattle.{mg_access.specs.Searching.word_accesses, mg_disk.specs.{Stops.CountRose, declared.disk.Disk.Ghosts}}
use Rattle.mg_model.specs.{Accesses.Access, Kept.{KeepsRules, Validates, access_limit, searches_limit}}
use Rattle.mg_model.specs.{Limits.search_limit, State.Thread, declared.seats.Seat.Seat}
use Rattle.{mg_vcache.specs.Seats.{AllBacked, is_kept}, mg_volume.specs.{Calls.Reads, Held.VolumeHeld, Meaning.now_of}}
use Rattle.mg_volume.specs.Meaning.{threads_in}

-- What a search for an access keeps, whether the row of the object is the answer, or its base, or the list by which it is reached.
pub record Finds {D A E : Type 0} (facts : Ghosts D) (access : Access) (result : Result (Option A) E) (old new : VolumeHeld) (seats seats' : List (Option Seat)) (before after : D) (steps steps' : ℕ) : Type 0 where
  pub backed : ForSome (facts.seen before) (λ image. AllBacked (now_of new image) seats')
  pub keeps : OnOk result (ForSome (facts.seen before) (λ image. Validates (now_of old image) access (λ key. is_kept seats key) (λ key. is_kept seats' key) (steps' - steps)))
  pub limit : ForSome (facts.seen before) (λ image. steps' ≤ steps + access_limit (λ key. is_kept seats key) (now_of old image) access)
  pub none : IfOk result (λ found. found ≡ None → seats' ≡ seats)
  pub failed : OnErr result (seats' ≡ seats)
  pub nobody : find (λ (thread : Thread). thread.number == access.thread) (threads_in old) ≡ None → steps' ≡ steps
  pub at_most_search_limit_read : steps' ≤ steps + search_limit
  pub reads : Reads facts old new before after steps steps'
  pub cause : OnErr result (CountRose facts before after)

-- What the access of a word keeps: a load or a store, an entry or a first pc. An address that is no word's makes none.
pub record FindsWord {D A E : Type 0} (facts : Ghosts D) (access : Access) (result : Result A E) (old new : VolumeHeld) (seats seats' : List (Option Seat)) (before after : D) (steps steps' : ℕ) : Type 0 where
  pub backed : ForSome (facts.seen before) (λ image. AllBacked (now_of new image) seats')
  pub rules : OnOk result (ForSome (facts.seen before) (λ image. KeepsRules (now_of old image) (word_accesses (now_of old image) access.thread access.address access.right) (λ key. is_kept seats key) (λ key. is_kept seats' key) (steps' - steps)))
  pub limit : ForSome (facts.seen before) (λ image. steps' ≤ steps + searches_limit (λ key. is_kept seats key) (now_of old image) (word_accesses (now_of old image) access.thread access.address access.right))
  pub reads : Reads facts old new before after steps steps'
  pub cause : OnErr result (CountRose facts before after)
