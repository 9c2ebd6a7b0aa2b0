-- How a kernel stands on a disk, from what is known of its volume.
use Rattle.mg_disk.specs.{BecomesLemmas.becomes-of, Disk.{AreBytes, Image}, Reads.Becomes, Stops.WritesNothing, declared.disk.Disk.Ghosts}
use Rattle.mg_kernel.specs.{Meaning.{IsSpelledBy, StandsOn, now_of, seats_in, total_of}, declared.kernel.Kernel.Kernel}
use Rattle.mg_model.specs.{Refused.Answer, Step.step, WellFormed.{IsInRange, IsWellFormed, KeepsWellFormed}, declared.calls.Line.Line}
use Rattle.{mg_model.specs.declared.{replies.Reply.Reply, seats.Seat.Seat}, mg_vcache.specs.Seats.AllBacked, mg_volume.specs.Calls.IsSoundOn}
use Rattle.{mg_volume.specs.{Held.VolumeHeld, Opening.IsSaved}, std.{proofs.Common.{sym, ap, subst, ◌∙◌}, specs.{Option.ForSome, Prelude.◌≡◌}}}
use Rattle.std.specs.Prelude.{true, List, Option, Result, Ok, Err, IfOk, OnErr}
use Rattle.mg_volume.specs.Meaning as held

-- what `Volume::is_formed` says
abbrev pub IsFormedBy : VolumeHeld → Type 0
IsFormedBy v = (image : Image) → AreBytes image → held.IsSpelledBy v image → held.staged_of v ≡ 0 → held.is_sound (held.now_of v image) ≡ true → IsWellFormed (held.now_of v image)

module _ {D : Type 0} (facts : Ghosts D) where
  pub stands-formed : (k : Kernel) (disk : D) → held.StandsOn facts k.volume disk → ForSome (facts.seen disk) (λ image. IsWellFormed (held.now_of k.volume image)) → ForSome (facts.seen disk) (λ image. AllBacked (held.now_of k.volume image) k.cache)
      → StandsOn facts k disk
  unfolding IsSpelledBy total_of now_of seats_in
  stands-formed k disk stands formed backed = record {
    room = stands.room;
    settled = stands.settled;
    fits = λ image told. record { fitting = stands.fits image told; formed = formed image told };
    backed = backed;
  }

  -- when nothing is staged
  pub stands-opened : (k : Kernel) (disk : D) → held.StandsOn facts k.volume disk → ForSome (facts.seen disk) AreBytes → IsFormedBy k.volume → held.staged_of k.volume ≡ 0
      → ForSome (facts.seen disk) (λ image. held.is_sound (held.now_of k.volume image) ≡ true) → ForSome (facts.seen disk) (λ image. AllBacked (held.now_of k.volume image) k.cache) → StandsOn facts k disk
  stands-opened k disk stands bytes formed none sound backed =
      stands-formed k disk stands (λ image told. formed image (bytes image told) (stands.fits image told) none (sound image told)) backed

  -- each right that is kept is one that the state gives
  pub backed-of : (k : Kernel) (disk : D) → StandsOn facts k disk → ForSome (facts.seen disk) (λ image. AllBacked (held.now_of k.volume image) k.cache)
  unfolding now_of seats_in
  backed-of k disk is = is.backed

  -- and stays so if the state stays, though it is told of another image
  pub backed-kept : (old new : VolumeHeld) (seats : List (Option Seat)) (before after : D) → ForSome (facts.seen before) (λ image. AllBacked (held.now_of old image) seats) → Becomes (IsSaved old new) (facts.seen before) (facts.seen after)
      → ForSome (facts.seen after) (λ image. AllBacked (held.now_of new image) seats)
  backed-kept old new seats before after backed done image told =
      let from = becomes-of (IsSaved old new) (facts.seen before) (facts.seen after) image done told in
      subst (λ s. AllBacked s seats) (sym from.2.now_is) (backed from.0 from.1)

  -- what the volume's calls require
  pub sound-of : (k : Kernel) (disk : D) → StandsOn facts k disk → IsSoundOn facts k.volume disk
  unfolding IsSpelledBy total_of
  sound-of k disk is = record {
    stands = record { room = is.room; settled = is.settled; fits = λ image told. (is.fits image told).fitting };
    formed = λ image told. (is.fits image told).formed;
  }

  -- a step keeps the state well formed, whatever its call
  pub step-formed : {E : Type 0} (old new : VolumeHeld) (before after : D) (line : Line) (r : Result Reply E) → KeepsWellFormed (λ state line. (step state line).0) → IsInRange line → WritesNothing facts before after
      → ForSome (facts.seen before) (λ image. IsWellFormed (held.now_of old image)) → IfOk r (λ reply. ForSome (facts.seen before) (λ image. step (held.now_of old image) line ≡ (held.now_of new image, reply)))
      → OnErr r (held.Keeps old new) → ForSome (facts.seen after) (λ image. IsWellFormed (held.now_of new image))
  step-formed old new before after line (Ok reply) keeps range writes formed answers failed = λ image told.
      let was = sym writes.same ∙ told in
      subst IsWellFormed (ap (λ (answer : Answer). answer.0) (answers image was)) (keeps (held.now_of old image) line (formed image was) range)
  step-formed old new before after line (Err e) keeps range writes formed answers failed = λ image told.
      let was = sym writes.same ∙ told in
      subst IsWellFormed (sym (failed.now image)) (formed image was)
