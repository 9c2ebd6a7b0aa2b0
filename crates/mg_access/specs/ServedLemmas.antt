-- Lemmas on what a call with the disk keeps: of one that was answered after reads alone, and of one that reads and might have staged.
use Rattle.std.{proofs.Common.{arith, sym, ap, ◌∙◌}, specs.{Option.ForSome, Prelude.{ℕ, ◌≡◌, ◌-◌, List, Option}}}
use Rattle.std.specs.Prelude.{Result, Ok, Err}
use Rattle.mg_access.specs.{LineLemmas.keeps_line, Served.{CallReads, CallRow, CallServes, of_call}}
use Rattle.{mg_disk.specs.declared.disk.Disk.Ghosts, mg_model.specs.Accesses.{accesses, line_words}}
use Rattle.mg_model.specs.{FewSlots.HasFewSlots, Kept.{KeepsLine, KeepsRules}, Turn.thread_call}
use Rattle.mg_model.specs.declared.{calls.{Call.Call, Line.Line}, replies.Reply.Reply, seats.Seat.Seat}
use Rattle.{mg_vcache.specs.Seats.{AllBacked, is_kept}, mg_volume.specs.{Calls.Reads, Held.VolumeHeld, Meaning.now_of}}
use Rattle.mg_volume.specs.RunLemmas.{reads_serve}

module _ {D E : Type 0} (facts : Ghosts D) (old new : VolumeHeld) (seats seats' : List (Option Seat)) (before after : D) (steps steps' : ℕ) where
  -- it has no word of its own
  pub read_call :
      (t : ℕ) (made : Call) (reply : Reply) → HasFewSlots reply → ForSome (facts.seen before) (λ image. thread_call (now_of old image) t made ≡ (now_of old image, reply)) → ForSome (facts.seen before) (λ image. AllBacked (now_of new image) seats')
      → ForSome (facts.seen before) (λ image. KeepsRules (now_of old image) (accesses (now_of old image) (record { thread = t; call = made })) (λ key. is_kept seats key) (λ key. is_kept seats' key) (steps' - steps))
      → ForSome (facts.seen before) (λ image. line_words (now_of old image) (record { thread = t; call = made }) ≡ 0) → Reads facts old new before after steps steps' → CallReads {E = E} facts (of_call t made) (Ok reply) old new seats seats' before after steps steps'
  read_call t made reply few answers backed rules own run =
      let line : Line = record { thread = t; call = made } in
      let keeps : ForSome (facts.seen before) (λ image. KeepsLine (now_of old image) line (λ key. is_kept seats key) (λ key. is_kept seats' key) steps steps') = λ image told.
      let (n, rose, words) = run.counted in
      let none = own image told in
      keeps_line (now_of old image) line (λ key. is_kept seats key) (λ key. is_kept seats' key) steps steps' (steps' - steps) (rules image told) (omega arith) in
      record {
        answers = λ image told. answers image told ∙ ap (λ s. (s, reply)) (sym (run.keeps.now image));
        slots = few;
        backed = backed;
        keeps = keeps;
        limit = λ image told. (keeps image told).most;
        reads = run;
        cause = tt;
      }

  pub reads_serves : (most : ℕ) (call : CallRow) (result : Result Reply E) → CallReads facts call result old new seats seats' before after steps steps' → CallServes most facts call result old new seats seats' before after steps steps'
  reads_serves most call (Ok reply) run = record {
    answers = run.answers;
    refused = λ refused. run.reads.keeps.writes;
    failed = tt;
    slots = run.slots;
    backed = run.backed;
    keeps = run.keeps;
    limit = run.limit;
    serves = reads_serve facts most old new before after steps steps' run.reads;
    cause = run.cause;
  }
  reads_serves most call (Err e) run = record {
    answers = run.answers;
    refused = tt;
    failed = run.reads.keeps;
    slots = run.slots;
    backed = run.backed;
    keeps = run.keeps;
    limit = run.limit;
    serves = reads_serve facts most old new before after steps steps' run.reads;
    cause = run.cause;
  }
