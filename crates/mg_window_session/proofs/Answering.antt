-- How calls of the kernel follow each other, and what a line is answered when it reaches a device or none.
use Rattle.{mg_disk.specs.{Runs.nothing_then, declared.disk.Disk.Ghosts}, mg_kernel.specs.{Meaning.{now_of, words_in}, Serving.Serves}}
use Rattle.{mg_kernel.specs.declared.kernel.Kernel.Kernel, mg_model.specs.{Counts.CountsAlike, Refused.Answer, State.State, Step.step}}
use Rattle.{mg_model.specs.declared.{calls.Line.Line, replies.Reply.Reply}, mg_window.specs.Attached.Attached}
use Rattle.mg_window_session.{proofs.LeavingDevices.dropped_stay, specs.{Machine.{Equipped, plain_step, staying}, Stepping.{IsAnswered, Looks}}}
use Rattle.{mg_window_session.specs.Stepping.{bases_of, dropped}, std.proofs.{Common.{arith, sym, ap, ◌∙◌}, Math.Nat.mod-add-mod}}
use Rattle.std.specs.{Option.ForSome, Prelude.{ℕ, ◌≡◌, ◌+◌, ◌%◌, ◌^◌}}

alike_then : (w0 w1 w2 s0 s1 s2 : ℕ) → CountsAlike w0 w1 s0 s1 → CountsAlike w1 w2 s1 s2 → CountsAlike w0 w2 s0 s2
alike_then w0 w1 w2 s0 s1 s2 (n, rose, words) (m, rose', words') =
    let total : (w0 + n) + m ≡ w0 + (n + m) = omega arith in
    (n + m, omega arith, words' ∙ sym (mod-add-mod w1 (2 ^ 64) m) ∙ ap (λ k. (k + m) % 2 ^ 64) words ∙ mod-add-mod (w0 + n) (2 ^ 64) m ∙ ap (λ k. k % 2 ^ 64) total)

abbrev equipped : Attached → State → Equipped
equipped windows s = record { state = s; windows = windows }

module _ {D : Type 0} (facts : Ghosts D) where
  pub serves_behind : (k k1 k2 : Kernel) (d d1 d2 : D) (n n1 n2 : ℕ) → Looks facts k k1 d d1 n n1 → Serves facts k1 k2 d1 d2 n1 n2 → Serves facts k k2 d d2 n n2
  serves_behind k k1 k2 d d1 d2 n n1 n2 first second = record {
    stands = second.stands;
    writes = nothing_then facts d d1 d2 first.serves.writes second.writes;
    live = second.live ∙ first.serves.live;
    counted = alike_then (words_in k) (words_in k1) (words_in k2) n n1 n2 first.serves.counted second.counted;
  }

  -- a step of the kernel, and then the devices that leave are dropped
  pub plain_answered : (line : Line) (k k' : Kernel) (windows windows' : Attached) (d : D) (reply : Reply)
      → ForSome (facts.seen d) (λ image. step (now_of k image) line ≡ (now_of k' image, reply))
      → ForSome (facts.seen d) (λ image. windows' ≡ dropped (now_of k' image) (bases_of (now_of k image) windows) windows)
      → IsAnswered facts (λ m. plain_step m line) k k' windows windows' d reply
  plain_answered line k k' windows windows' d reply answers drops = record {
    told = λ image is.
        let state : now_of k' image ≡ (step (now_of k image) line).0 = ap (λ (v : Answer). v.0) (sym (answers image is)) in
        let stay : windows' ≡ staying (now_of k image) (step (now_of k image) line).0 windows =
        drops image is ∙ dropped_stay (now_of k image) (now_of k' image) windows ∙ ap (λ s. staying (now_of k image) s windows) state in
        ap (λ s. (equipped windows' s, reply)) state
        ∙ ap (λ w. (equipped w (step (now_of k image) line).0, reply)) stay
        ∙ ap (λ r. (equipped (staying (now_of k image) (step (now_of k image) line).0 windows) (step (now_of k image) line).0, r)) (ap (λ (v : Answer). v.1) (sym (answers image is)));
  }
