-- Another row of a thread that lives, by a change of the row that it has.
use Rattle.{mg_disk.specs.Disk.Image, mg_model.specs.{Domains.with_thread, State.{Thread, ThreadRow}}, mg_volume.proofs.Found.as_thread}
use Rattle.mg_volume.{proofs.ObjectLists.{change-none, distinct_map}, specs.{Held.VolumeHeld, Meaning.{now_of, threads_in}, RowLists.DistinctBy}}
use Rattle.{mg_volume.specs.{Staging.threads_with, StateLemmas.now_threads}, std.proofs.{Common.{refl, arith}, lemmas.Bool.eqb-true}}
use Rattle.std.specs.{List.list_any, Prelude.{◌≡◌, ◌≢◌, ◌==◌, ℕ, Bool, true, false, All, List, [], ◌∷◌, find, if◌then◌else◌, map, IfSome}}
use Rattle.std.specs.Prelude.{MatchOption, Option, Some, None}

-- no two threads of a volume have one number
pub numbers_apart : (v : VolumeHeld) → DistinctBy (λ (t : ℕ × ThreadRow). t.0) v.threads → DistinctBy (λ (thread : Thread). thread.number) (threads_in v)
unfolding threads_in
numbers_apart v apart = distinct_map as_thread (λ (t : ℕ × ThreadRow). t.0) (λ (thread : Thread). thread.number) (λ x y same. same) v.threads apart

-- the threads with a change of one
abbrev pub changed : ℕ → (ThreadRow → ThreadRow) → List Thread → List Thread
changed t change threads = map (λ (thread : Thread). if thread.number == t then record thread { row = change thread.row } else thread) threads

others-stay : (t : ℕ) (change : ThreadRow → ThreadRow) (threads : List Thread) → All (λ (thread : Thread). thread.number ≢ t) threads → changed t change threads ≡ threads
others-stay t change threads differ = change-none (λ (thread : Thread). thread.number) (λ thread. record thread { row = change thread.row }) t threads differ

-- two changes that make the same row of the thread that is found
same-change : (t : ℕ) (row : ThreadRow) (change : ThreadRow → ThreadRow) (threads : List Thread) → DistinctBy (λ (x : Thread). x.number) threads
    → IfSome (find (λ (x : Thread). x.number == t) threads) (λ thread. change thread.row ≡ row) → changed t (λ old. row) threads ≡ changed t change threads
same-change t row change [] apart gives = refl
same-change t row change (thread ∷ threads) apart gives = by_test (thread.number == t) refl gives (same-change t row change threads apart.1)
  where
    by_test : (v : Bool) → (thread.number == t) ≡ v → IfSome (if v then Some thread else find (λ (x : Thread). x.number == t) threads) (λ x. change x.row ≡ row)
        → (IfSome (find (λ (x : Thread). x.number == t) threads) (λ x. change x.row ≡ row) → changed t (λ old. row) threads ≡ changed t change threads)
        → (if v then record thread { row = row } else thread) ∷ changed t (λ old. row) threads ≡ (if v then record thread { row = change thread.row } else thread) ∷ changed t change threads
    by_test true is gives later = grind (arith, eqb-true, others-stay)
    by_test false is gives later = let rest = later gives in cc

-- so the state is what the change gives
pub thread_changed : (v : VolumeHeld) (image : Image) (t : ℕ) (row : ThreadRow) (change : ThreadRow → ThreadRow) → DistinctBy (λ (x : Thread). x.number) (threads_in v) → list_any (λ (x : Thread). x.number == t) (threads_in v) ≡ true
    → IfSome (find (λ (x : Thread). x.number == t) (threads_in v)) (λ thread. change thread.row ≡ row) → record (now_of v image) { threads = threads_with t (Some row) (threads_in v) } ≡ with_thread (now_of v image) t change
thread_changed v image t row change apart there gives = grind (arith, same-change, now_threads)

-- a thread that lives is found
living-found : (t : ℕ) (threads : List Thread) → find (λ (x : Thread). x.number == t) threads ≡ None → list_any (λ (x : Thread). x.number == t) threads ≡ true → ⊥
living-found t [] none there = cc
living-found t (thread ∷ threads) none there = grind (arith, none, there, living-found t threads)

-- what is known of one that is found is known of it
pub living : {X : Type 0} (F : X → Type 0) (P : Type 0) (o : Option X) (t : ℕ) (threads : List Thread) → MatchOption o (find (λ (x : Thread). x.number == t) threads ≡ None) F → IfSome o (λ x. P) → list_any (λ (x : Thread). x.number == t) threads ≡ true → P
living F P None t threads found some there = absurd (living-found t threads found there)
living F P (Some x) t threads found some there = some
