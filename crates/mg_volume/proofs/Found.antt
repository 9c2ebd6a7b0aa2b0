-- A thread is found among the rows that are held.
use Rattle.{mg_model.specs.State.{ObjectRow, Thread, ThreadRow}, mg_volume.specs.{Held.VolumeHeld, Meaning.{objects_in, threads_in}}}
use Rattle.std.{proofs.{Common.{refl, sym, ap, ◌∙◌, arith, subst}, lemmas.List.Elements.{All-head, All-tail}}, specs.Prelude.{◌≡◌, ◌==◌, ℕ, Bool}}
use Rattle.std.specs.Prelude.{List, [], ◌∷◌, find, if◌then◌else◌, map, option_map, Option, Some, None, All, true, false}

abbrev pub as_thread : ℕ × ThreadRow → Thread
as_thread t = record { number = t.0; row = t.1 }

pub find-mapped : {X Y : Type 0} (f : X → Y) (q : Y → Bool) (xs : List X) → find q (map f xs) ≡ option_map f (find (λ x. q (f x)) xs)
find-mapped f q [] = refl
find-mapped f q (x ∷ xs) = grind (arith, find-mapped f q xs)

pub thread_found : (v : VolumeHeld) (t : ℕ) (o : Option ThreadRow) → o ≡ option_map (λ (thread : ℕ × ThreadRow). thread.1) (find (λ (thread : ℕ × ThreadRow). thread.0 == t) v.threads)
    → option_map (λ (thread : Thread). thread.row) (find (λ (thread : Thread). thread.number == t) (threads_in v)) ≡ o
unfolding threads_in
thread_found v t o is =
    ap (option_map (λ (thread : Thread). thread.row)) (find-mapped as_thread (λ (thread : Thread). thread.number == t) v.threads)
    ∙ by_thread (find (λ (thread : ℕ × ThreadRow). thread.0 == t) v.threads)
    ∙ sym is
  where
    by_thread : (o : Option (ℕ × ThreadRow)) → option_map (λ (thread : Thread). thread.row) (option_map as_thread o) ≡ option_map (λ (thread : ℕ × ThreadRow). thread.1) o
    by_thread None = refl
    by_thread (Some thread) = refl

pub thread_none : (v : VolumeHeld) (t : ℕ) → None ≡ option_map (λ (thread : ℕ × ThreadRow). thread.1) (find (λ (thread : ℕ × ThreadRow). thread.0 == t) v.threads)
    → find (λ (thread : Thread). thread.number == t) (threads_in v) ≡ None
unfolding threads_in
thread_none v t is =
    find-mapped as_thread (λ (thread : Thread). thread.number == t) v.threads ∙ ap (option_map as_thread) (no-thread (find (λ (thread : ℕ × ThreadRow). thread.0 == t) v.threads) is)
  where
    no-thread : (o : Option (ℕ × ThreadRow)) → None ≡ option_map (λ (thread : ℕ × ThreadRow). thread.1) o → o ≡ None
    no-thread None is = refl
    no-thread (Some thread) is = cc

pub thread_some : (v : VolumeHeld) (t : ℕ) (row : ThreadRow) → Some row ≡ option_map (λ (thread : ℕ × ThreadRow). thread.1) (find (λ (thread : ℕ × ThreadRow). thread.0 == t) v.threads)
    → (thread : Thread) × (find (λ (thread : Thread). thread.number == t) (threads_in v) ≡ Some thread) × (thread.row ≡ row)
unfolding threads_in
thread_some v t row is = by_thread (find (λ (thread : ℕ × ThreadRow). thread.0 == t) v.threads) refl is
  where
    by_thread : (o : Option (ℕ × ThreadRow)) → find (λ (thread : ℕ × ThreadRow). thread.0 == t) v.threads ≡ o → Some row ≡ option_map (λ (thread : ℕ × ThreadRow). thread.1) o
        → (thread : Thread) × (find (λ (thread : Thread). thread.number == t) (map as_thread v.threads) ≡ Some thread) × (thread.row ≡ row)
    by_thread None at same = cc
    by_thread (Some thread) at same =
        let e : row ≡ thread.1 = cc in
        (as_thread thread, find-mapped as_thread (λ (thread : Thread). thread.number == t) v.threads ∙ ap (option_map as_thread) at, sym e)

pub object_found : (v : VolumeHeld) (q : ObjectRow → Bool) (o : Option (ℕ × ObjectRow)) → o ≡ find (λ (o : ℕ × ObjectRow). q o.1) v.objects → option_map (λ (o : ℕ × ObjectRow). o.1) o ≡ find q (objects_in v)
unfolding objects_in
object_found v q o is = ap (option_map (λ (o : ℕ × ObjectRow). o.1)) is ∙ sym (find-mapped (λ (o : ℕ × ObjectRow). o.1) q v.objects)

pub row_found : (v : VolumeHeld) (q : ObjectRow → Bool) (o : Option ObjectRow) → o ≡ option_map (λ (o : ℕ × ObjectRow). o.1) (find (λ (o : ℕ × ObjectRow). q o.1) v.objects) → o ≡ find q (objects_in v)
row_found v q o is = is ∙ object_found v q (find (λ (o : ℕ × ObjectRow). q o.1) v.objects) refl

-- what all have is had by what is found
pub found_keeps : {X : Type 0} (P : X → Type 0) (test : X → Bool) (xs : List X) (x : X) → All P xs → find test xs ≡ Some x → P x
found_keeps P test [] x all h = cc
found_keeps P test (y ∷ xs) x all h = by_test (test y) (found_keeps P test xs x (All-tail P y xs all)) h
  where
    by_test : (v : Bool) → (find test xs ≡ Some x → P x) → (if v then Some y else find test xs) ≡ Some x → P x
    by_test true later is = let same : y ≡ x = cc in subst P same (All-head P y xs all)
    by_test false later is = later is
