-- Lemmas on what a call without the disk leaves of the rights that are kept, by the law on its row.
use Rattle.std.{proofs.Common.{ap, subst}, specs.Prelude.{ℕ, Bool, List, Option}}
use Rattle.{mg_access.specs.Backing.StayBacked, mg_disk.specs.Disk.Image, mg_model.specs.Backed.{KeepsBacked, by_none}}
use Rattle.mg_model.specs.{Refused.Answer, State.State, WellFormed.IsWellFormed, declared.replies.Reply.Reply}
use Rattle.{mg_model.specs.declared.seats.Seat.Seat, mg_vcache.specs.{Drops.Drops, SeatLemmas.backed_still}}
use Rattle.{mg_vcache.specs.SeatLemmas.drops_backed, mg_volume.specs.{Calls.{Answers, CallStages}, Held.VolumeHeld}}
use Rattle.mg_volume.specs.Meaning.{IsSpelledBy, now_of}

module _ (row : State → Answer) (ended : Seat → Bool) (most : ℕ) (old new : VolumeHeld) (seats seats' : List (Option Seat)) (reply : Reply) where
  still : ((state : State) → IsWellFormed state → KeepsBacked ended state (row state).0) → CallStages (Answers row) most old new reply
      → (image : Image) → IsSpelledBy old image → IsWellFormed (now_of old image) → KeepsBacked ended (now_of old image) (now_of new image)
  still keeps does image spelled formed =
      let state = now_of old image in
      subst (λ s. KeepsBacked ended state s) (ap (λ (a : Answer). a.0) (does.answers image spelled formed)) (keeps state formed)

  -- of one that drops those that its row may end
  pub drops_stay : ((state : State) → IsWellFormed state → KeepsBacked ended state (row state).0) → CallStages (Answers row) most old new reply → Drops ended seats seats' reply → StayBacked old new seats seats'
  drops_stay keeps does drops image spelled formed all =
      drops_backed ended (now_of old image) (now_of new image) seats seats' reply (still keeps does image spelled formed) drops (λ refused. ap (λ v. now_of v image) (does.refused refused)) all

-- of one whose row ends none
pub same_stay :
    (row : State → Answer) (most : ℕ) (old new : VolumeHeld) (seats : List (Option Seat)) (reply : Reply) → ((state : State) → IsWellFormed state → KeepsBacked by_none state (row state).0) → CallStages (Answers row) most old new reply
    → StayBacked old new seats seats
same_stay row most old new seats reply keeps does image spelled formed all =
    backed_still (now_of old image) (now_of new image) seats (still row by_none most old new seats seats reply keeps does image spelled formed) all
