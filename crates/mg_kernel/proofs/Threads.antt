-- Which thread makes a call.
use Rattle.{mg_disk.specs.Disk.Image, mg_model.specs.{Refused.Answer, State.{State, Thread}, Step.{of_thread, step_of}, Turn.thread_call}}
use Rattle.{mg_model.specs.declared.{calls.Call.Call, replies.{Refusal.TheVariants.NoThread, Reply.TheVariants.No}}, mg_volume.specs.Held.VolumeHeld}
use Rattle.{mg_volume.specs.{Meaning.{now_of, threads_in}, RunLemmas.told_thread, Staging.lives as lives_held}, std.proofs.Common.{refl, ap, ◌∙◌}}
use Rattle.std.{proofs.lemmas.Bool.cond_both, specs.{List.list_any, Prelude.{◌≡◌, ◌==◌, ◌||◌, ℕ, true, List, [], ◌∷◌, Option, Some, None, find}}}
use Rattle.std.specs.Prelude.{is_some, if◌then◌else◌}
use Rattle.mg_model.specs.declared.calls.Call.TheVariants as call

module _ (v : VolumeHeld) (image : Image) (t : ℕ) (answer : Answer) where
  by_found : (found : Option Thread) → find (λ (thread : Thread). thread.number == t) (threads_in v) ≡ found
      → of_thread (now_of v image) t answer ≡ (if is_some found then answer else (now_of v image, No NoThread))
  by_found found is = ap (λ o. if is_some o then answer else (now_of v image, No NoThread)) (told_thread v image t found is)

  pub lives : (thread : Thread) → find (λ (thread : Thread). thread.number == t) (threads_in v) ≡ Some thread → of_thread (now_of v image) t answer ≡ answer
  lives thread found = by_found (Some thread) found

  pub gone : find (λ (thread : Thread). thread.number == t) (threads_in v) ≡ None → of_thread (now_of v image) t answer ≡ (now_of v image, No NoThread)
  gone found = by_found None found

-- a line of none of the calls that the machine answers without a thread
pub by-thread : (made : Call) (state : State) (t : ℕ) → (made ≡ call.Bad → ⊥) → (made ≡ call.Turn → ⊥) → (made ≡ call.Next → ⊥) → (made ≡ call.Rent → ⊥)
    → step_of state t made ≡ of_thread state t (thread_call state t made)
by-thread call.Bad state t bad turn next rent = absurd (bad refl)
by-thread call.Turn state t bad turn next rent = absurd (turn refl)
by-thread call.Next state t bad turn next rent = absurd (next refl)
by-thread call.Rent state t bad turn next rent = absurd (rent refl)
by-thread other state t bad turn next rent = refl

-- a thread that is found is held
pub found-lives : (v : VolumeHeld) (t : ℕ) (thread : Thread) → find (λ (thread : Thread). thread.number == t) (threads_in v) ≡ Some thread → lives_held v t ≡ true
found-lives v t thread found = any (threads_in v) found
  where
    any : (threads : List Thread) → find (λ (thread : Thread). thread.number == t) threads ≡ Some thread → list_any (λ (thread : Thread). thread.number == t) threads ≡ true
    any [] none = absurd (cc)
    any (x ∷ xs) some =
        cond_both (x.number == t) (Some x) (find (λ (thread : Thread). thread.number == t) xs) (λ o. o ≡ Some thread → ((x.number == t) || list_any (λ (thread : Thread). thread.number == t) xs) ≡ true)
        (λ here _. ap (λ b. b || list_any (λ (thread : Thread). thread.number == t) xs) here)
        (λ other later. ap (λ b. b || list_any (λ (thread : Thread). thread.number == t) xs) other ∙ any xs later)
        some
