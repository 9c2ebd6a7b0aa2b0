-- What lines keep and cost, by their calls.
use Rattle.{mg_disk.specs.Disk.Image, mg_kernel.specs.Calls.{KeepsCall, call_limit}, mg_model.specs.Accesses.{accesses, accesses_of, call_accesses}}
use Rattle.mg_model.specs.{Accesses.{call_words, words_by, line_words}, Kept.{KeepsKeys, KeepsLine, line_limit, searches_limit}, Keys.Key}
use Rattle.mg_model.specs.{Refused.Answer, State.{State, Thread}, Step.{of_thread, step_of}, Threads.is_thread, Turn.thread_call, Warmth.disturbs}
use Rattle.mg_model.specs.{Warmth.is_ok, declared.{calls.{Call.Call, Line.Line}, replies.{Refusal.TheVariants.NoThread, Reply.TheVariants.No}}}
use Rattle.{mg_volume.specs.{Held.VolumeHeld, Meaning.{now_of, threads_in}, RunLemmas.told_thread}, std.proofs.Common.{arith, refl, sym, ap, subst}}
use Rattle.std.{proofs.Common.◌∙◌, specs.Prelude.{ℕ, ◌≡◌, ◌≤◌, ◌+◌, ◌==◌, ◌&&◌, Bool, true, false, [], find, is_some, if◌then◌else◌, Some, None}}
use Rattle.mg_model.specs.declared.calls.Call.TheVariants as call

-- no access keeps what is kept
pub no-keys : (state : State) (kept kept' : Key → Bool) → ((key : Key) → kept' key ≡ kept key) → KeepsKeys state [] kept kept'
no-keys state kept kept' same = record { stays = λ key was own. same key ∙ was; comes = λ key first. cc }

-- and a line like that
pub still-line : (state : State) (line : Line) (kept : Key → Bool) (steps : ℕ) → accesses state line ≡ [] → line_words state line ≡ 0 → KeepsLine state line kept kept steps steps
still-line state line kept steps none own = record {
  keys = λ quiet. subst (λ those. KeepsKeys state those kept kept) (sym none) (no-keys state kept kept (λ key. refl));
  least = omega arith;
  most = omega arith;
}

-- a call that a thread makes, if it lives
pub record IsOfThread (state : State) (t : ℕ) (made : Call) : Type 0 where
  pub answer : step_of state t made ≡ of_thread state t (thread_call state t made)
  pub accesses : accesses_of state t made ≡ (if is_thread state t then call_accesses state t made else [])
  pub words : words_by state t made ≡ (if is_thread state t then call_words state t made else 0)

pub of-thread : (made : Call) (state : State) (t : ℕ) → (made ≡ call.Bad → ⊥) → (made ≡ call.Turn → ⊥) → (made ≡ call.Next → ⊥) → (made ≡ call.Rent → ⊥) → IsOfThread state t made
of-thread call.Bad state t bad turn next rent = absurd (bad refl)
of-thread call.Turn state t bad turn next rent = absurd (turn refl)
of-thread call.Next state t bad turn next rent = absurd (next refl)
of-thread call.Rent state t bad turn next rent = absurd (rent refl)
of-thread other state t bad turn next rent = record { answer = refl; accesses = refl; words = refl }

module _ (state : State) (t : ℕ) (made : Call) (of : IsOfThread state t made) where
  abbrev line : Line
  line = record { thread = t; call = made }

  -- what the line keeps is what the call keeps
  pub line-call : (kept kept' : Key → Bool) (steps steps' : ℕ) → is_thread state t ≡ true → KeepsLine state line kept kept' steps steps' → KeepsCall state t made kept kept' steps steps'
  line-call kept kept' steps steps' lives keeps =
      let those : accesses state line ≡ call_accesses state t made = of.accesses ∙ ap (λ v. if v then call_accesses state t made else []) lives in
      let own : line_words state line ≡ call_words state t made = of.words ∙ ap (λ v. if v then call_words state t made else 0) lives in
      let answer : step_of state t made ≡ thread_call state t made = of.answer ∙ ap (λ v. if v then thread_call state t made else (state, No NoThread)) lives in
      let limit : searches_limit kept state (accesses state line) ≡ searches_limit kept state (call_accesses state t made) = ap (λ xs. searches_limit kept state xs) those in
      let least = keeps.least in
      let most = keeps.most in
      record {
        keys = λ quiet. subst (λ xs. KeepsKeys state xs kept kept') those (keeps.keys (ap (λ (a : Answer). is_ok a.1 && disturbs state t made) answer ∙ quiet));
        least = omega arith;
        most = omega arith;
      }

  pub limit-call : (kept : Key → Bool) (steps steps' : ℕ) → is_thread state t ≡ true → steps' ≤ steps + line_limit kept state line → steps' ≤ steps + call_limit kept state t made
  limit-call kept steps steps' lives few =
      let own : line_words state line ≡ call_words state t made = of.words ∙ ap (λ v. if v then call_words state t made else 0) lives in
      let limit : searches_limit kept state (accesses state line) ≡ searches_limit kept state (call_accesses state t made) =
      ap (λ xs. searches_limit kept state xs) (of.accesses ∙ ap (λ v. if v then call_accesses state t made else []) lives) in
      omega arith

  -- and the other way round
  pub call-line : (kept kept' : Key → Bool) (steps steps' : ℕ) → is_thread state t ≡ true → KeepsCall state t made kept kept' steps steps' → KeepsLine state line kept kept' steps steps'
  call-line kept kept' steps steps' lives called =
      let those : accesses state line ≡ call_accesses state t made = of.accesses ∙ ap (λ v. if v then call_accesses state t made else []) lives in
      let own : line_words state line ≡ call_words state t made = of.words ∙ ap (λ v. if v then call_words state t made else 0) lives in
      let answer : step_of state t made ≡ thread_call state t made = of.answer ∙ ap (λ v. if v then thread_call state t made else (state, No NoThread)) lives in
      let limit : searches_limit kept state (accesses state line) ≡ searches_limit kept state (call_accesses state t made) = ap (λ xs. searches_limit kept state xs) those in
      let least = called.least in
      let most = called.most in
      record {
        keys = λ quiet. subst (λ xs. KeepsKeys state xs kept kept') (sym those) (called.keys (sym (ap (λ (a : Answer). is_ok a.1 && disturbs state t made) answer) ∙ quiet));
        least = omega arith;
        most = omega arith;
      }

  pub limit-line : (kept : Key → Bool) (steps steps' : ℕ) → is_thread state t ≡ true → steps' ≤ steps + call_limit kept state t made → steps' ≤ steps + line_limit kept state line
  limit-line kept steps steps' lives few =
      let own : line_words state line ≡ call_words state t made = of.words ∙ ap (λ v. if v then call_words state t made else 0) lives in
      let limit : searches_limit kept state (accesses state line) ≡ searches_limit kept state (call_accesses state t made) =
      ap (λ xs. searches_limit kept state xs) (of.accesses ∙ ap (λ v. if v then call_accesses state t made else []) lives) in
      omega arith

  -- a line of a thread that does not live
  pub gone-line : (kept : Key → Bool) (steps : ℕ) → is_thread state t ≡ false → KeepsLine state line kept kept steps steps
  gone-line kept steps gone =
      still-line state line kept steps (of.accesses ∙ ap (λ v. if v then call_accesses state t made else []) gone) (of.words ∙ ap (λ v. if v then call_words state t made else 0) gone)

-- whether the thread lives, by what is held
module _ (v : VolumeHeld) (image : Image) (t : ℕ) where
  pub held-lives : (thread : Thread) → find (λ (thread : Thread). thread.number == t) (threads_in v) ≡ Some thread → is_thread (now_of v image) t ≡ true
  held-lives thread found = ap is_some (told_thread v image t (Some thread) found)

  pub held-gone : find (λ (thread : Thread). thread.number == t) (threads_in v) ≡ None → is_thread (now_of v image) t ≡ false
  held-gone found = ap is_some (told_thread v image t None found)
