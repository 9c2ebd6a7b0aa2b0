-- Changes of one thread's row, one after another, and what is read of the threads after them.
use Rattle.mg_model.specs.{Access.{domain_of, last_slots}, Domains.{frames_of, row_of, with_thread}, KeptListLemmas.{AllPairs-head, AllPairs-tail}}
use Rattle.{mg_model.specs.State.{CallFrame, State, Thread, ThreadRow}, std.proofs.Common.{ℕ, suc, ◌<◌, ◌≡◌, ◌≢◌, Bool, true, false, cond, eqb, List}}
use Rattle.std.proofs.{Common.{[], ◌∷◌, length, get_or, map, Some, None, refl, sym, ap, ◌∙◌, subst, arith}, lemmas.Bool.{cond_both, cond-false}}
use Rattle.std.{proofs.lemmas.{Bool.{eqb-true, ne_eqb}, Option.same_Some}, specs.{Option.option_map_or, Prelude.{AllPairs, find}}}

-- the thread with a change of its row, if it has the number
abbrev changed : ℕ → (ThreadRow → ThreadRow) → Thread → Thread
changed t change thread = cond (eqb thread.number t) (record thread { row = change thread.row }) thread

changed-number : (t : ℕ) (change : ThreadRow → ThreadRow) (thread : Thread) → (changed t change thread).number ≡ thread.number
changed-number t change thread = cond_both (eqb thread.number t) _ _ (λ (x : Thread). x.number ≡ thread.number) (λ _. refl) (λ _. refl)

either : (t : ℕ) (g : ThreadRow → ThreadRow) (x : Thread) (v : Bool) → eqb x.number t ≡ v → changed t g x ≡ cond v (record x { row = g x.row }) x
either t g x v is = ap (λ b. cond b (record x { row = g x.row }) x) is

changed-then : (t : ℕ) (f g : ThreadRow → ThreadRow) (x : Thread) → changed t g (changed t f x) ≡ changed t (λ row. g (f row)) x
changed-then t f g x = by_number (eqb x.number t) refl
  where
    by_number : (v : Bool) → eqb x.number t ≡ v → changed t g (changed t f x) ≡ changed t (λ row. g (f row)) x
    by_number true at = ap (changed t g) (either t f x true at) ∙ either t g (record x { row = f x.row }) true at ∙ sym (either t (λ row. g (f row)) x true at)
    by_number false other = ap (changed t g) (either t f x false other) ∙ either t g x false other ∙ sym (either t (λ row. g (f row)) x false other)

threads-then : (t : ℕ) (f g : ThreadRow → ThreadRow) (threads : List Thread) → map (changed t g) (map (changed t f) threads) ≡ map (changed t (λ row. g (f row))) threads
threads-then t f g [] = refl
threads-then t f g (x ∷ xs) = ap (λ y. y ∷ map (changed t g) (map (changed t f) xs)) (changed-then t f g x) ∙ ap (λ ys. changed t (λ row. g (f row)) x ∷ ys) (threads-then t f g xs)

-- two changes are one
pub with_thread-then : (state : State) (t : ℕ) (f g : ThreadRow → ThreadRow) → with_thread (with_thread state t f) t g ≡ with_thread state t (λ row. g (f row))
with_thread-then state t f g = ap (λ threads. record state { threads = threads }) (threads-then t f g state.threads)

threads-same : (t : ℕ) (threads : List Thread) → map (changed t (λ row. row)) threads ≡ threads
threads-same t [] = refl
threads-same t (x ∷ xs) = ap (λ y. y ∷ map (changed t (λ row. row)) xs) (cond_both (eqb x.number t) _ _ (λ (y : Thread). y ≡ x) (λ _. refl) (λ _. refl)) ∙ ap (λ ys. x ∷ ys) (threads-same t xs)

-- a change to the same row
pub with_thread-same : (state : State) (t : ℕ) → with_thread state t (λ row. row) ≡ state
with_thread-same state t = ap (λ threads. record state { threads = threads }) (threads-same t state.threads)

abbrev pub IsBelow : Thread → Thread → Type 0
IsBelow x y = x.number < y.number

-- threads whose numbers are larger stay
above : (t : ℕ) (f : ThreadRow → ThreadRow) (xs : List Thread) → ((k : ℕ) (d : Thread) → k < length xs → t < (get_or xs k d).number) → map (changed t f) xs ≡ xs
above t f [] larger = refl
above t f (y ∷ ys) larger =
    let here : t < y.number = larger 0 y (omega arith) in
    let other : y.number ≢ t = omega arith in
    ap (λ z. z ∷ map (changed t f) ys) (cond-false (eqb y.number t) (record y { row = f y.row }) y (ne_eqb _ _ other))
    ∙ ap (λ zs. y ∷ zs) (above t f ys (λ k d within. larger (suc k) d (omega arith)))

threads-like : (t : ℕ) (f g : ThreadRow → ThreadRow) (row : ThreadRow) (threads : List Thread) → AllPairs IsBelow threads → option_map_or (λ (x : Thread). Some x.row) (find (λ (x : Thread). eqb x.number t) threads) None ≡ Some row → f row ≡ g row
    → map (changed t f) threads ≡ map (changed t g) threads
threads-like t f g row [] apart there same = refl
threads-like t f g row (x ∷ xs) apart there same = by_number (λ was. threads-like t f g row xs (AllPairs-tail IsBelow x xs apart) was same) (eqb x.number t) refl there
  where
    by_number : (option_map_or (λ (y : Thread). Some y.row) (find (λ (y : Thread). eqb y.number t) xs) None ≡ Some row → map (changed t f) xs ≡ map (changed t g) xs) → (v : Bool) → eqb x.number t ≡ v → option_map_or (λ (y : Thread). Some y.row) (cond v (Some x) (find (λ (y : Thread). eqb y.number t) xs)) None ≡ Some row
        → map (changed t f) (x ∷ xs) ≡ map (changed t g) (x ∷ xs)
    by_number rest true at was =
        let number : x.number ≡ t = eqb-true _ _ at in
        let larger : (k : ℕ) (d : Thread) → k < length xs → t < (get_or xs k d).number = λ k d within. subst (λ n. n < (get_or xs k d).number) number (AllPairs-head IsBelow x xs apart k d within) in
        let own : x.row ≡ row = same_Some x.row row was in
        ap (λ ys. changed t f x ∷ ys) (above t f xs larger)
        ∙ ap (λ y. y ∷ xs) (either t f x true at ∙ ap (λ r. record x { row = r }) (ap f own ∙ same ∙ ap g (sym own)) ∙ sym (either t g x true at))
        ∙ ap (λ ys. changed t g x ∷ ys) (sym (above t g xs larger))
    by_number rest false other was = grind (arith, either)

-- if numbers differ, two changes are equal that agree at the row that the thread has
pub with_thread-like : (state : State) (t : ℕ) (f g : ThreadRow → ThreadRow) (row : ThreadRow) → AllPairs IsBelow state.threads → row_of state t ≡ Some row → f row ≡ g row → with_thread state t f ≡ with_thread state t g
with_thread-like state t f g row apart there same = ap (λ threads. record state { threads = threads }) (threads-like t f g row state.threads apart there same)

-- what is read of the frames of a thread, if the change leaves it
read-changed : {Y : Type 0} (part : List CallFrame → Y) (d : Y) (t u : ℕ) (f : ThreadRow → ThreadRow) → ((row : ThreadRow) → part (f row).frames ≡ part row.frames) → (threads : List Thread)
    → option_map_or (λ (x : Thread). part x.row.frames) (find (λ (x : Thread). eqb x.number u) (map (changed t f) threads)) d ≡ option_map_or (λ (x : Thread). part x.row.frames) (find (λ (x : Thread). eqb x.number u) threads) d
read-changed part d t u f same [] = refl
read-changed part d t u f same (x ∷ xs) =
    ap (λ (n : ℕ). option_map_or (λ (y : Thread). part y.row.frames) (cond (eqb n u) (Some (changed t f x)) (find (λ (y : Thread). eqb y.number u) (map (changed t f) xs))) d) (changed-number t f x)
    ∙ by_number (read-changed part d t u f same xs) (eqb x.number u)
  where
    by_number : option_map_or (λ (y : Thread). part y.row.frames) (find (λ (y : Thread). eqb y.number u) (map (changed t f) xs)) d ≡ option_map_or (λ (y : Thread). part y.row.frames) (find (λ (y : Thread). eqb y.number u) xs) d → (v : Bool)
        → option_map_or (λ (y : Thread). part y.row.frames) (cond v (Some (changed t f x)) (find (λ (y : Thread). eqb y.number u) (map (changed t f) xs))) d ≡ option_map_or (λ (y : Thread). part y.row.frames) (cond v (Some x) (find (λ (y : Thread). eqb y.number u) xs)) d
    by_number rest true = cond_both (eqb x.number t) (record x { row = f x.row }) x (λ (y : Thread). part y.row.frames ≡ part x.row.frames) (λ _. same x.row) (λ _. refl)
    by_number rest false = rest

pub frames-changed : (state : State) (t u : ℕ) (f : ThreadRow → ThreadRow) → ((row : ThreadRow) → (f row).frames ≡ row.frames) → frames_of (with_thread state t f) u ≡ frames_of state u
frames-changed state t u f same = read-changed (λ frames. frames) [] t u f same state.threads

pub domain-changed : (state : State) (t u : ℕ) (f : ThreadRow → ThreadRow) → ((row : ThreadRow) → last_slots (f row).frames ≡ last_slots row.frames) → domain_of (with_thread state t f) u ≡ domain_of state u
domain-changed state t u f same = read-changed last_slots [] t u f same state.threads
