-- A well-formed state is sound, so it may be committed.
use Rattle.std.proofs.{Common.{refl, sym, ap, ◌∙◌, ⊎_elim, arith}, lemmas.Bool.{and_from, cases_eq, eq-eqb, le-leb}}
use Rattle.std.proofs.lemmas.{Bool.{ne_eqb, not_from_false, or_from}, List.Elements.{All-head, All-tail}}
use Rattle.std.specs.{List.{list_all, list_any}, Option.option_map_or, Prelude.{◌≡◌, ◌≢◌, ◌*◌, ◌^◌, ◌≤◌, ◌<◌, ◌==◌}}
use Rattle.std.specs.Prelude.{◌&&◌, nat_le, ℕ, Bool, true, false, not, All, AllPairs, List, [], ◌∷◌, find}
use Rattle.std.specs.Prelude.{if◌then◌else◌, length, map, sum_by, Some, None}
use Rattle.mg_model.specs.{Bank.used, KeptListLemmas.{AllPairs-head, AllPairs-tail}, Objects.{page_behind, page_of}}
use Rattle.mg_model.specs.{State.{Object, State, Thread, ThreadRow}, Tests.all_distinct, Volume.accounts_fit}
use Rattle.mg_model.specs.{Volume.{are_apart, begins_with_first, objects_fit, threads_fit}, WellFormed.AreAccounts}
use Rattle.mg_model.specs.WellFormed.{AreObjects, AreThreads, IsAccount, IsBefore, IsFirst, IsThread, IsWellFormed}
use Rattle.{mg_model.specs.declared.accounts.AccRow.AccRow, mg_volume.specs.Meaning.is_sound}

all-pass : {X : Type 0} (test : X → Bool) (P : X → Type 0) → ((x : X) → P x → test x ≡ true) → (xs : List X) → All P xs → list_all test xs ≡ true
all-pass test P tells [] all = refl
all-pass test P tells (x ∷ xs) all = and_from (test x) (list_all test xs) (tells x (All-head P x xs all)) (all-pass test P tells xs (All-tail P x xs all))

accounts-sound : (credits period : ℕ) (accounts : List AccRow) → AreAccounts credits period accounts → accounts_fit credits period accounts ≡ true
accounts-sound credits period accounts are =
    and_from (nat_le 1 (length accounts) && sum_by (λ (row : AccRow). row.balance) accounts == credits) (list_all (λ (row : AccRow). nat_le row.owed (period * 2 ^ 36)) accounts)
    (and_from (nat_le 1 (length accounts)) (sum_by (λ (row : AccRow). row.balance) accounts == credits) (le-leb 1 (length accounts) are.some) (eq-eqb (sum_by (λ (row : AccRow). row.balance) accounts) credits are.sum))
    (all-pass (λ (row : AccRow). nat_le row.owed (period * 2 ^ 36)) (IsAccount period) (λ row is. le-leb row.owed (period * 2 ^ 36) is.owed) accounts are.each)

apart-sound : (objects : List Object) → AllPairs IsBefore objects → are_apart objects ≡ true
apart-sound [] apart = refl
apart-sound (object ∷ []) apart = refl
apart-sound (object ∷ next ∷ objects) apart =
    and_from (nat_le (page_behind object.row) (page_of next.row)) (are_apart (next ∷ objects))
    (le-leb (page_behind object.row) (page_of next.row) (All-head (IsBefore object) next objects (AllPairs-head IsBefore object (next ∷ objects) apart)))
    (apart-sound (next ∷ objects) (AllPairs-tail IsBefore object (next ∷ objects) apart))

objects-sound : (frames accounts : ℕ) (objects : List Object) → AreObjects frames accounts objects → objects_fit frames accounts objects ≡ true
objects-sound frames accounts objects are =
    and_from (are_apart objects && list_all (λ (object : Object). nat_le object.row.account accounts) objects) (nat_le (used objects) frames)
    (and_from (are_apart objects) (list_all (λ (object : Object). nat_le object.row.account accounts) objects) (apart-sound objects are.apart)
    (all-pass (λ (object : Object). nat_le object.row.account accounts) (λ (object : Object). object.row.account ≤ accounts) (λ object is. le-leb object.row.account accounts is) objects are.paid))
    (le-leb (used objects) frames are.fit)

births-apart : (birth : ℕ) (threads : List Thread) → All (λ (thread : Thread). birth ≢ thread.row.birth) threads → list_any (λ b. birth == b) (map (λ (thread : Thread). thread.row.birth) threads) ≡ false
births-apart birth [] all = refl
births-apart birth (thread ∷ threads) all =
    or_from (birth == thread.row.birth) (list_any (λ b. birth == b) (map (λ (thread : Thread). thread.row.birth) threads))
    (ne_eqb birth thread.row.birth (All-head (λ (thread : Thread). birth ≢ thread.row.birth) thread threads all))
    (births-apart birth threads (All-tail (λ (thread : Thread). birth ≢ thread.row.birth) thread threads all))

births-sound : (threads : List Thread) → AllPairs (λ (x y : Thread). x.row.birth ≢ y.row.birth) threads → all_distinct (map (λ (thread : Thread). thread.row.birth) threads) ≡ true
births-sound [] distinct = refl
births-sound (thread ∷ threads) distinct =
    and_from (not (list_any (λ b. thread.row.birth == b) (map (λ (thread : Thread). thread.row.birth) threads))) (all_distinct (map (λ (thread : Thread). thread.row.birth) threads))
    (not_from_false (list_any (λ b. thread.row.birth == b) (map (λ (thread : Thread). thread.row.birth) threads)) (births-apart thread.row.birth threads (AllPairs-head (λ (x y : Thread). x.row.birth ≢ y.row.birth) thread threads distinct)))
    (births-sound threads (AllPairs-tail (λ (x y : Thread). x.row.birth ≢ y.row.birth) thread threads distinct))

-- no thread after the first has number 1
none-first : (n : ℕ) (threads : List Thread) → 1 ≤ n → All (λ (thread : Thread). n < thread.number) threads → find (λ (thread : Thread). thread.number == 1) threads ≡ None
none-first n [] from all = refl
none-first n (thread ∷ threads) from all =
    let above = All-head (λ (thread : Thread). n < thread.number) thread threads all in
    ap (λ b. if b then Some thread else find (λ (thread : Thread). thread.number == 1) threads) (ne_eqb thread.number 1 (λ is. omega arith))
    ∙ none-first n threads from (All-tail (λ (thread : Thread). n < thread.number) thread threads all)

first-sound : (births : ℕ) (threads : List Thread) (row : ThreadRow) → AreThreads births threads → option_map_or (λ (thread : Thread). Some thread.row) (find (λ (thread : Thread). thread.number == 1) threads) None ≡ Some row → IsFirst row → begins_with_first threads ≡ true
first-sound births [] row are is first = absurd (cc)
first-sound births (thread ∷ threads) row are is first = ⊎_elim here elsewhere (cases_eq thread.number 1)
  where
    here : thread.number ≡ 1 → begins_with_first (thread ∷ threads) ≡ true
    here one =
        let found : Some thread.row ≡ Some row = sym (ap (λ b. option_map_or (λ (thread : Thread). Some thread.row) (if b then Some thread else find (λ (thread : Thread). thread.number == 1) threads) None) (eq-eqb thread.number 1 one)) ∙ is in
        let same : thread.row ≡ row = (cc) in
        and_from (thread.number == 1 && thread.row.birth == 1) (thread.row.creator == 0)
        (and_from (thread.number == 1) (thread.row.birth == 1) (eq-eqb thread.number 1 one) (eq-eqb thread.row.birth 1 (ap (λ (r : ThreadRow). r.birth) same ∙ first.birth)))
        (eq-eqb thread.row.creator 0 (ap (λ (r : ThreadRow). r.creator) same ∙ first.creator))

    elsewhere : (thread.number ≡ 1 → ⊥) → begins_with_first (thread ∷ threads) ≡ true
    elsewhere other =
        let at_least = (All-head (IsThread births) thread threads are.each).some in
        let none = none-first thread.number threads at_least (AllPairs-head (λ (x y : Thread). x.number < y.number) thread threads are.ordered) in
        let found : None ≡ Some row = sym (ap (λ b. option_map_or (λ (thread : Thread). Some thread.row) (if b then Some thread else find (λ (thread : Thread). thread.number == 1) threads) None) (ne_eqb thread.number 1 other) ∙ ap (λ o. option_map_or (λ (thread : Thread). Some thread.row) o None) none) ∙ is in
        absurd (cc)

pub formed_sound : (state : State) → IsWellFormed state → is_sound state ≡ true
formed_sound state formed =
    let first = formed.first in
    and_from (accounts_fit state.settings.credits state.counters.period state.accounts && objects_fit state.settings.frames (length state.accounts) state.objects) (threads_fit state.counters.births state.threads)
    (and_from (accounts_fit state.settings.credits state.counters.period state.accounts) (objects_fit state.settings.frames (length state.accounts) state.objects)
    (accounts-sound state.settings.credits state.counters.period state.accounts formed.accounts)
    (objects-sound state.settings.frames (length state.accounts) state.objects formed.objects))
    (and_from (begins_with_first state.threads && all_distinct (map (λ (thread : Thread). thread.row.birth) state.threads)) (list_all (λ (thread : Thread). nat_le thread.row.birth state.counters.births) state.threads)
    (and_from (begins_with_first state.threads) (all_distinct (map (λ (thread : Thread). thread.row.birth) state.threads))
    (first-sound state.counters.births state.threads first.0 formed.threads first.1 first.2)
    (births-sound state.threads formed.threads.distinct))
    (all-pass (λ (thread : Thread). nat_le thread.row.birth state.counters.births) (IsThread state.counters.births) (λ thread is. le-leb thread.row.birth state.counters.births is.born) state.threads formed.threads.each))
