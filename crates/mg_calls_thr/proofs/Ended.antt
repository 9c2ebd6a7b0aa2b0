-- What `end` and `resume` make of their rows, by their tests.
use Rattle.{mg_calls_thr.specs.Owning.{is_own_among, own_refusal, thread_among}, mg_model.specs.{Abbreviations.unless_refused, Domains.with_thread}}
use Rattle.mg_model.specs.{Refused.{Answer, first_refusal}, State.{State, Thread, ThreadRow}, Threads.{end_thread, resume}}
use Rattle.mg_model.specs.declared.replies.{Refusal.{Refusal, TheVariants.{NoThread, NotYours}}, Reply.TheVariants.{Done, No}}
use Rattle.{mg_model.specs.declared.threads.ThrState.TheVariants.Ready, std.proofs.Common.{ℕ, ◌≡◌, ◌||◌, ◌==◌, Bool, not, true, false, List, [], ◌∷◌}}
use Rattle.std.{proofs.Common.{Option, Some, None, refl, ap, ◌∙◌}, specs.Prelude.{filter, is_some}}

-- the tests of `end`, of what they look at
abbrev by_tests : Bool → Bool → Bool → Option Refusal
by_tests there first own = first_refusal ((not there, NoThread) ∷ (first || not own, NotYours) ∷ [])

abbrev owned : Bool → Bool → Option Refusal
owned there own = first_refusal ((not there, NoThread) ∷ (not own, NotYours) ∷ [])

not-owned : (there first own : Bool) (word : Refusal) → owned there own ≡ Some word → by_tests there first own ≡ Some word
not-owned false first own word some = some
not-owned true true false word some = some
not-owned true false false word some = some
not-owned true first true word some = cc

is-first : (there own : Bool) → owned there own ≡ None → by_tests there true own ≡ Some NotYours
is-first false own none = cc
is-first true own none = refl

is-later : (there own : Bool) → owned there own ≡ None → by_tests there false own ≡ None
is-later false own none = cc
is-later true own none = none

module _ (state : State) (threads : List Thread) (same : state.threads ≡ threads) (t i : ℕ) where
  abbrev ended : Answer
  ended = (record state { threads = filter (λ (thread : Thread). not (thread.number == i)) state.threads }, Done)

  end-by : (word : Option Refusal) → by_tests (is_some (thread_among threads i)) (i == 1) (is_own_among threads t i) ≡ word → end_thread state t i ≡ unless_refused word state ended
  end-by word is =
      ap (λ (x : List Thread). unless_refused (by_tests (is_some (thread_among x i)) (i == 1) (is_own_among x t i)) state ended) same ∙ ap (λ w. unless_refused w state ended) is

  pub end-refused : (word : Refusal) → own_refusal threads t i ≡ Some word → end_thread state t i ≡ (state, No word)
  end-refused word some = end-by (Some word) (not-owned (is_some (thread_among threads i)) (i == 1) (is_own_among threads t i) word some)

  pub end-first : (i == 1) ≡ true → own_refusal threads t i ≡ None → end_thread state t i ≡ (state, No NotYours)
  end-first first none =
      end-by (Some NotYours)
      (ap (λ v. by_tests (is_some (thread_among threads i)) v (is_own_among threads t i)) first ∙ is-first (is_some (thread_among threads i)) (is_own_among threads t i) none)

  pub end-done : (i == 1) ≡ false → own_refusal threads t i ≡ None → end_thread state t i ≡ (record state { threads = filter (λ (thread : Thread). not (thread.number == i)) threads }, Done)
  end-done later none =
      end-by None
      (ap (λ v. by_tests (is_some (thread_among threads i)) v (is_own_among threads t i)) later ∙ is-later (is_some (thread_among threads i)) (is_own_among threads t i) none)
      ∙ ap (λ (x : List Thread). (record state { threads = filter (λ (thread : Thread). not (thread.number == i)) x }, Done)) same

  pub resume-by : (word : Option Refusal) → own_refusal threads t i ≡ word → resume state t i ≡ unless_refused word state (with_thread state i (λ (thread : ThreadRow). record thread { state = Ready }), Done)
  resume-by word is =
      ap (λ (x : List Thread). unless_refused (own_refusal x t i) state (with_thread state i (λ (thread : ThreadRow). record thread { state = Ready }), Done)) same
      ∙ ap (λ w. unless_refused w state (with_thread state i (λ (thread : ThreadRow). record thread { state = Ready }), Done)) is
