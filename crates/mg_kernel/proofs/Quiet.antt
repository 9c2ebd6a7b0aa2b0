-- What a call that needs no right keeps and costs.
use Rattle.{mg_access.specs.Served.CallServes, mg_disk.specs.declared.disk.Disk.Ghosts, mg_kernel.{proofs.Counted.no-keys, specs.Calls.KeepsCall}}
use Rattle.{mg_kernel.specs.{Calls.of_living, Unasked.{EndsUnasked, asks_nothing}}, mg_laws.specs.Backing.CallsKeepBacked}
use Rattle.mg_model.specs.{Accesses.{call_accesses, call_words}, Backed.{KeepsBacked, by_thread, ended_by_call}, FewSlots.IsRefusal, Kept.KeepsKeys}
use Rattle.mg_model.specs.{Refused.Answer, State.State, Turn.thread_call, Warmth.{disturbs, is_ok}, declared.{calls.Call.Call, replies.Reply.Reply}}
use Rattle.{mg_model.specs.declared.seats.Seat.Seat, mg_vcache.specs.{SeatLemmas.{drops_backed, drops_none, same_backed}, Seats.{AllBacked, is_kept}}}
use Rattle.mg_volume.specs.{Calls.{Answers, CallStages, IsSoundOn}, Held.VolumeHeld, Meaning.{now_of, staged_in}, RunLemmas.serves_wider}
use Rattle.{mg_volume.specs.RunLemmas.stages_serve, std.{proofs.Common.{refl, sym, ap, arith, subst, ◌∙◌}, specs.{Option.ForSome, Prelude.◌≡◌}}}
use Rattle.std.specs.Prelude.{◌&&◌, ℕ, Bool, true, false, List, [], Option, Ok}
use Rattle.mg_model.specs.declared.calls.Call.TheVariants as call

-- it makes no access, and has no word
pub record IsStill (state : State) (t : ℕ) (made : Call) : Type 0 where
  pub none : call_accesses state t made ≡ []
  pub own : call_words state t made ≡ 0

pub is-still : (made : Call) (state : State) (t : ℕ) → asks_nothing made ≡ true → IsStill state t made
is-still (call.Create n account password) state t asks = record { none = refl; own = refl }
is-still (call.Apdadd clist password) state t asks = record { none = refl; own = refl }
is-still (call.Apddel index) state t asks = record { none = refl; own = refl }
is-still call.Apdlist state t asks = record { none = refl; own = refl }
is-still call.Ret state t asks = record { none = refl; own = refl }
is-still (call.End i) state t asks = record { none = refl; own = refl }
is-still (call.Resume i) state t asks = record { none = refl; own = refl }
is-still (call.Account account password amount) state t asks = record { none = refl; own = refl }
is-still (call.Pay account password to amount) state t asks = record { none = refl; own = refl }
is-still (call.Balance account password) state t asks = record { none = refl; own = refl }
is-still other state t asks = cc

-- each seat that is left is backed
module _ (state new : State) (t : ℕ) (seats seats' : List (Option Seat)) (reply : Reply) where
  pub unasked-backed : (made : Call) → asks_nothing made ≡ true → KeepsBacked (ended_by_call state t made) state new → EndsUnasked t made seats seats' reply → (IsRefusal reply → new ≡ state) → AllBacked state seats → AllBacked new seats'
  unasked-backed (call.Create n account password) asks keeps ends same all = same_backed state new seats seats' keeps ends all
  unasked-backed (call.Apddel index) asks keeps ends same all = drops_backed (by_thread t) state new seats seats' reply keeps ends same all
  unasked-backed call.Ret asks keeps ends same all = drops_backed (by_thread t) state new seats seats' reply keeps ends same all
  unasked-backed (call.End i) asks keeps ends same all = drops_backed (by_thread i) state new seats seats' reply keeps ends same all
  unasked-backed (call.Resume i) asks keeps ends same all = same_backed state new seats seats' keeps ends all
  unasked-backed (call.Apdadd clist password) asks keeps ends same all = same_backed state new seats seats' keeps ends all
  unasked-backed call.Apdlist asks keeps ends same all = same_backed state new seats seats' keeps ends all
  unasked-backed (call.Account account password amount) asks keeps ends same all = same_backed state new seats seats' keeps ends all
  unasked-backed (call.Pay account password to amount) asks keeps ends same all = same_backed state new seats seats' keeps ends all
  unasked-backed (call.Balance account password) asks keeps ends same all = same_backed state new seats seats' keeps ends all
  unasked-backed other asks keeps ends same all = cc

-- when it disturbs nothing it ends no seat
ok-false : (v : Bool) → (v && true) ≡ false → v ≡ false
ok-false true is = is
ok-false false is = refl

module _ (state : State) (t : ℕ) (seats seats' : List (Option Seat)) (reply : Reply) where
  quiet-seats : (made : Call) → asks_nothing made ≡ true → EndsUnasked t made seats seats' reply → (is_ok reply && disturbs state t made) ≡ false → seats' ≡ seats
  quiet-seats (call.Create n account password) asks ends quiet = ends
  quiet-seats (call.Apddel index) asks ends quiet = drops_none (by_thread t) seats seats' reply ends (ok-false (is_ok reply) quiet)
  quiet-seats call.Ret asks ends quiet = drops_none (by_thread t) seats seats' reply ends (ok-false (is_ok reply) quiet)
  quiet-seats (call.End i) asks ends quiet = drops_none (by_thread i) seats seats' reply ends (ok-false (is_ok reply) quiet)
  quiet-seats (call.Resume i) asks ends quiet = ends
  quiet-seats (call.Apdadd clist password) asks ends quiet = ends
  quiet-seats call.Apdlist asks ends quiet = ends
  quiet-seats (call.Account account password amount) asks ends quiet = ends
  quiet-seats (call.Pay account password to amount) asks ends quiet = ends
  quiet-seats (call.Balance account password) asks ends quiet = ends
  quiet-seats other asks ends quiet = cc

  pub unasked-keeps : (made : Call) (new : State) (steps : ℕ) → asks_nothing made ≡ true → thread_call state t made ≡ (new, reply) → EndsUnasked t made seats seats' reply → KeepsCall state t made (λ key. is_kept seats key) (λ key. is_kept seats' key) steps steps
  unasked-keeps made new steps asks answer ends =
      let still = is-still made state t asks in
      let none = still.none in
      let own = still.own in
      record {
        keys = λ quiet.
            let same = quiet-seats made asks ends (sym (ap (λ (a : Answer). is_ok a.1 && disturbs state t made) answer) ∙ quiet) in
            subst (λ those. KeepsKeys state those (λ key. is_kept seats key) (λ key. is_kept seats' key)) (sym none) (no-keys state (λ key. is_kept seats key) (λ key. is_kept seats' key) (λ key. ap (λ s. is_kept s key) same));
        least = omega arith;
        most = omega arith;
      }

-- what it keeps in all; no call of the disk is made
pub unasked-serves :
    {D E : Type 0} (facts : Ghosts D) (old new : VolumeHeld) (seats seats' : List (Option Seat)) (disk : D) (steps : ℕ) (reply : Reply) (t : ℕ) (made : Call) → asks_nothing made ≡ true → (facts.time disk).has_been (facts.time disk).moment → IsSoundOn facts old disk
    → CallsKeepBacked (λ state t made. (thread_call state t made).0) → ForSome (facts.seen disk) (λ image. AllBacked (now_of old image) seats) → CallStages (Answers (λ state. thread_call state t made)) 3 old new reply → EndsUnasked t made seats seats' reply
    → CallServes {E = E} 130 facts (of_living t made) (Ok reply) old new seats seats' disk disk steps steps
unasked-serves facts old new seats seats' disk steps reply t made asks been sound keep backed does ends =
    let answers : ForSome (facts.seen disk) (λ image. thread_call (now_of old image) t made ≡ (now_of new image, reply)) = λ image told. does.answers image (sound.stands.fits image told) (sound.formed image told) in
    record {
      answers = answers;
      refused = λ refused. ap staged_in (does.refused refused);
      failed = tt;
      slots = does.slots;
      backed = λ image told.
          let state = now_of old image in
          let keeps : KeepsBacked (ended_by_call state t made) state (now_of new image) =
          subst (λ s. KeepsBacked (ended_by_call state t made) state s) (ap (λ (a : Answer). a.0) (answers image told)) (keep state t made (sound.formed image told)) in
          unasked-backed state (now_of new image) t seats seats' reply made asks keeps ends (λ refused. ap (λ v. now_of v image) (does.refused refused)) (backed image told);
      keeps = λ image told lives. unasked-keeps (now_of old image) t seats seats' reply made (now_of new image) steps asks (answers image told) ends;
      limit = λ image told lives. omega arith;
      serves = serves_wider facts 3 130 old new disk disk steps steps (omega arith) (stages_serve facts 3 old new disk steps been sound.stands does.stages);
      cause = tt;
    }
