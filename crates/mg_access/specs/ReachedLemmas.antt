-- Lemmas on what was reached: what the row that is found says of the access, and steps of a search through a list.
use Rattle.std.proofs.Common.{ℕ, suc, ◌+◌, ◌<◌, ◌≤◌, ◌≡◌, ◌||◌, ◌&&◌, ◌==◌, Bool, true, false, List, length, get_or}
use Rattle.std.proofs.{Common.{drop, if◌then◌else◌, Option, Some, None, refl, sym, ap, ◌∙◌, arith}, Math.Seq.drop-cons}
use Rattle.std.{proofs.lemmas.List.drop_all, specs.{List.list_any, Option.option_map_or, Prelude.{[], find, is_some}}}
use Rattle.std.specs.Prelude.{option_map}
use Rattle.{mg_access.specs.Searching.{allowed_row, reached_row}, mg_disk.specs.Disk.Image}
use Rattle.mg_model.specs.{Abbreviations.no_row, Access.{allowed, at, capabilities, domain_of, holds, last_slots}}
use Rattle.mg_model.specs.{Access.thread_of, ObjectCalls.row_at, State.{Object, ObjectRow, State, Thread}}
use Rattle.{mg_model.specs.{Threads.is_thread, declared.rights.Right.Right}, mg_volume.specs.Held.VolumeHeld}
use Rattle.mg_volume.specs.{Meaning.{Keeps, now_of, threads_in}, RunLemmas.told_thread, StateLemmas.now_threads}

-- when a row is reached the access is allowed, and the row is that of the address
reached-when : (v : Bool) (o : Option Object) (row : ObjectRow) → Some row ≡ (if v then option_map (λ (object : Object). object.row) o else None) → (v ≡ true) × (option_map_or (λ (object : Object). object.row) o no_row ≡ row)
reached-when true None row h = cc
reached-when true (Some object) row h = let is : object.row ≡ row = cc in (refl, is)
reached-when false o row h = cc

pub reached_allowed : (state : State) (t a : ℕ) (right : Right) (row : ObjectRow) → Some row ≡ allowed_row state t a right → allowed state t a right ≡ true
reached_allowed state t a right row h = (reached-when (allowed state t a right) (at state.objects a) row h).0

pub reached_at : (state : State) (t a : ℕ) (right : Right) (row : ObjectRow) → Some row ≡ allowed_row state t a right → row_at state a ≡ row
reached_at state t a right row h = (reached-when (allowed state t a right) (at state.objects a) row h).1

-- when none is, the access is not allowed: an address that no object has is reached by none
unreached-when : (o : Option Object) (test : Object → Bool) → None ≡ (if option_map_or test o false then option_map (λ (object : Object). object.row) o else None) → option_map_or test o false ≡ false
unreached-when None test h = refl
unreached-when (Some object) test h = by_test (test object) h
  where
    by_test : (v : Bool) → None ≡ (if v then Some object.row else None) → v ≡ false
    by_test true h = cc
    by_test false h = refl

pub reached_none : (state : State) (t a : ℕ) (right : Right) → None ≡ allowed_row state t a right → allowed state t a right ≡ false
reached_none state t a right h =
    unreached-when (at state.objects a) (λ (object : Object). list_any (λ (entry : ℕ × ℕ). entry.0 == object.row.base && holds state.counters.period object.row entry.1 right) (capabilities state.objects state.counters.period (domain_of state t))) h

-- a thread that does not live reaches nothing
pub nobody_reaches : (state : State) (t a : ℕ) (right : Right) → thread_of state t ≡ None → None ≡ allowed_row state t a right
nobody_reaches state t a right none =
    sym (ap (λ (o : Option Thread). reached_row state (option_map_or (λ (x : Thread). last_slots x.row.frames) o []) a right) none
    ∙ ap (λ v. if v then option_map (λ (object : Object). object.row) (at state.objects a) else None) (slotless (at state.objects a)))
  where
    slotless : (o : Option Object) → option_map_or (λ (object : Object). list_any (λ (entry : ℕ × ℕ). entry.0 == object.row.base && holds state.counters.period object.row entry.1 right) (capabilities state.objects state.counters.period [])) o false ≡ false
    slotless None = refl
    slotless (Some object) = refl

-- so a row is reached by a thread that lives
pub reached_lives : (state : State) (t a : ℕ) (right : Right) (row : ObjectRow) → Some row ≡ allowed_row state t a right → is_thread state t ≡ true
reached_lives state t a right row found = by_thread (thread_of state t) refl
  where
    by_thread : (o : Option Thread) → thread_of state t ≡ o → is_some o ≡ true
    by_thread (Some thread) is = refl
    by_thread None is = let none = nobody_reaches state t a right is in cc

none-of : (o : Option Thread) → is_some o ≡ false → o ≡ None
none-of None h = refl
none-of (Some thread) h = cc

pub thread_gone : (state : State) (t : ℕ) → is_thread state t ≡ false → thread_of state t ≡ None
thread_gone state t gone = none-of (thread_of state t) gone

-- nor is it among the threads that are held
pub gone_held : (v : VolumeHeld) (image : Image) (t : ℕ) → is_thread (now_of v image) t ≡ false → find (λ (thread : Thread). thread.number == t) (threads_in v) ≡ None
gone_held v image t gone =
    let same = told_thread v image t (find (λ (thread : Thread). thread.number == t) (threads_in v)) refl in
    none-of (find (λ (thread : Thread). thread.number == t) (threads_in v)) (sym (ap is_some same) ∙ gone)

-- the threads that are held stay if the state does
pub same_threads : (a b : VolumeHeld) → Keeps a b → threads_in b ≡ threads_in a
same_threads a b keeps = sym (now_threads b []) ∙ ap (λ (s : State). s.threads) (keeps.now []) ∙ now_threads a []

-- an element that passes ends a search through a list
pub any_hit : {X : Type 0} (test : X → Bool) (xs : List X) (i : ℕ) (x : X) → i < length xs → true ≡ test (get_or xs i x) → list_any test xs ≡ list_any test (drop i xs) → true ≡ list_any test xs
any_hit test xs i x h hit same = sym (same ∙ ap (λ ys. list_any test ys) (drop-cons xs i x h) ∙ ap (λ v. v || list_any test (drop (suc i) xs)) (sym hit))

-- one that does not leaves the later ones
pub any_miss : {X : Type 0} (test : X → Bool) (xs : List X) (i : ℕ) (x : X) → i < length xs → false ≡ test (get_or xs i x) → list_any test xs ≡ list_any test (drop i xs) → list_any test xs ≡ list_any test (drop (i + 1) xs)
any_miss test xs i x h miss same =
    let next : suc i ≡ i + 1 = omega arith in
    same ∙ ap (λ ys. list_any test ys) (drop-cons xs i x h) ∙ ap (λ v. v || list_any test (drop (suc i) xs)) (sym miss) ∙ ap (λ k. list_any test (drop k xs)) next

-- after the last there is none
pub any_end : {X : Type 0} (test : X → Bool) (xs : List X) (i : ℕ) → length xs ≤ i → list_any test xs ≡ list_any test (drop i xs) → false ≡ list_any test xs
any_end test xs i h same = sym (same ∙ ap (λ ys. list_any test ys) (drop_all i xs h))
