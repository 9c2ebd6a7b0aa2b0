-- Rights that are tried in turn, and what their accesses keep and cost.
use Rattle.{mg_access.specs.{LineLemmas.{as_if, failed_access, limit_append}, ReachedLemmas.same_threads}, mg_laws.specs.Costs.SearchesGoOn}
use Rattle.{mg_laws.specs.Costs.SearchesKeepRules, mg_model.specs.{Access.allowed, Accesses.{Access, tried, line_words}, Kept.{Searches, Validates}}}
use Rattle.mg_model.specs.{Kept.{access_limit, searches_limit}, Keys.Key, State.{State, Thread}, Threads.is_thread, declared.calls.Line.Line}
use Rattle.{mg_model.specs.declared.{rights.Right.Right, seats.Seat.Seat}, mg_vcache.specs.Seats.is_kept, mg_volume.specs.Held.VolumeHeld}
use Rattle.{mg_volume.specs.Meaning.{Keeps, threads_in}, std.proofs.Common.{ℕ, suc, ◌≡◌, ◌≤◌, ◌<◌, ◌+◌, ◌-◌, Bool, true, false, List, [], ◌∷◌, ◌++◌}}
use Rattle.std.proofs.{Common.{length, get_or, take, drop, if◌then◌else◌, refl, sym, ap, subst, ◌∙◌, arith}, Math.Seq.{drop-cons, take-suc}}
use Rattle.std.{proofs.lemmas.List.{append-nil, append_assoc, drop_all, map-append}, specs.Prelude.{◌==◌, find, map, Option, None}}
use Rattle.mg_model.specs.declared.calls.Call.TheVariants as call

module _ (state : State) (t a : ℕ) where
  -- the access with a right
  abbrev pub of : Right → Access
  of right = record { thread = t; address = a; right = right }

  -- the rights before place i were tried, and none of them is allowed
  abbrev pub Tries : List Right → ℕ → Type 0
  Tries rights i = tried state t a rights ≡ take i rights ++ tried state t a (drop i rights)

  at_place : (rights : List Right) (i : ℕ) (d : Right) → i < length rights → Tries rights i → (v : Bool) → allowed state t a (get_or rights i d) ≡ v
      → tried state t a rights ≡ take i rights ++ (if v then get_or rights i d ∷ [] else get_or rights i d ∷ tried state t a (drop (suc i) rights))
  at_place rights i d within tries v is =
      tries
      ∙ ap (λ rest. take i rights ++ tried state t a rest) (drop-cons rights i d within)
      ∙ ap (λ b. take i rights ++ (if b then get_or rights i d ∷ [] else get_or rights i d ∷ tried state t a (drop (suc i) rights))) is

  grown : (rights : List Right) (i : ℕ) (d : Right) → i < length rights → (more : List Right) → take i rights ++ get_or rights i d ∷ more ≡ take (i + 1) rights ++ more
  grown rights i d within more =
      let next : suc i ≡ i + 1 = omega arith in
      sym (append_assoc (take i rights) (get_or rights i d ∷ []) more)
      ∙ ap (λ xs. xs ++ more) (sym (take-suc rights i d within) ∙ ap (λ k. take k rights) next)

  pub tries_miss : (rights : List Right) (i : ℕ) (d : Right) → i < length rights → Tries rights i → allowed state t a (get_or rights i d) ≡ false → Tries rights (i + 1)
  tries_miss rights i d within tries denied =
      let next : suc i ≡ i + 1 = omega arith in
      at_place rights i d within tries false denied ∙ grown rights i d within (tried state t a (drop (suc i) rights)) ∙ ap (λ k. take (i + 1) rights ++ tried state t a (drop k rights)) next

  pub tries_hit : (rights : List Right) (i : ℕ) (d : Right) → i < length rights → Tries rights i → allowed state t a (get_or rights i d) ≡ true → tried state t a rights ≡ take i rights ++ get_or rights i d ∷ []
  tries_hit rights i d within tries may = at_place rights i d within tries true may

  pub tries_end : (rights : List Right) (i : ℕ) → length rights ≤ i → Tries rights i → tried state t a rights ≡ take i rights
  tries_end rights i past tries = tries ∙ ap (λ rest. take i rights ++ tried state t a rest) (drop_all i rights past) ∙ append-nil (take i rights)

  -- the right at a place is tried, whatever comes of it
  tries_next : (rights : List Right) (i : ℕ) (d : Right) → i < length rights → Tries rights i → (more : List Right) × (tried state t a rights ≡ (take i rights ++ get_or rights i d ∷ []) ++ more)
  tries_next rights i d within tries = by_test (allowed state t a (get_or rights i d)) refl
    where
      by_test : (v : Bool) → allowed state t a (get_or rights i d) ≡ v → (more : List Right) × (tried state t a rights ≡ (take i rights ++ get_or rights i d ∷ []) ++ more)
      by_test true is = ([], at_place rights i d within tries true is ∙ sym (append-nil (take i rights ++ get_or rights i d ∷ [])))
      by_test false is = (tried state t a (drop (suc i) rights), at_place rights i d within tries false is ∙ sym (append_assoc (take i rights) (get_or rights i d ∷ []) (tried state t a (drop (suc i) rights))))

  -- the accesses with one right more
  made_next : (rights : List Right) (i : ℕ) (d : Right) → map of (take i rights ++ get_or rights i d ∷ []) ≡ map of (take i rights) ++ of (get_or rights i d) ∷ []
  made_next rights i d = map-append of (take i rights) (get_or rights i d ∷ [])

  module _ (kept : Key → Bool) (rights : List Right) (i : ℕ) (d : Right) (s u w : ℕ) (low : s ≤ u) (high : u ≤ w) (more : SearchesGoOn Searches) (before : Searches state kept (map of (take i rights)) kept (u - s)) where
    -- an access after those that found nothing
    pub searched : (kept' : Key → Bool) → Validates state (of (get_or rights i d)) kept kept' (w - u) → Searches state kept (map of (take i rights ++ get_or rights i d ∷ [])) kept' (w - s)
    searched kept' valid =
        let total : (u - s) + (w - u) ≡ w - s = omega arith in
        subst (λ made. Searches state kept made kept' (w - s)) (sym (made_next rights i d))
        (subst (λ words. Searches state kept (map of (take i rights) ++ of (get_or rights i d) ∷ []) kept' words) total (more state kept (map of (take i rights)) kept (u - s) (of (get_or rights i d)) kept' (w - u) before valid))

    -- one that failed stays within the limit of all that are tried
    pub failed_limit : i < length rights → Tries rights i → SearchesKeepRules Searches → w ≤ u + access_limit kept state (of (get_or rights i d)) → w - s ≤ searches_limit kept state (map of (tried state t a rights))
    failed_limit within tries keep few =
        let (rest, whole) = tries_next rights i d within tries in
        let first = take i rights ++ get_or rights i d ∷ [] in
        let access = of (get_or rights i d) in
        let valid = failed_access state access kept (w - u) (omega arith) in
        let mine = (keep state kept (map of first) (as_if state access kept) (w - s) (searched (as_if state access kept) valid)).few in
        let all = limit_append state kept (map of first) (map of rest) in
        let less : w - s ≤ searches_limit kept state (map of first ++ map of rest) = omega arith in
        subst (λ made. w - s ≤ searches_limit kept state made) (sym (ap (λ xs. map of xs) whole ∙ map-append of first rest)) less

-- the rule of an access, for the state and the seats before a run of reads
pub valid-since : (one other : State) (access : Access) (seats seats' : List (Option Seat)) (kept' : Key → Bool) (words : ℕ) → other ≡ one → seats' ≡ seats → Validates other access (λ key. is_kept seats' key) kept' words → Validates one access (λ key. is_kept seats key) kept' words
valid-since one other access seats seats' kept' words e same valid = subst (λ s. Validates s access (λ key. is_kept seats key) kept' words) e (subst (λ s. Validates other access (λ key. is_kept s key) kept' words) same valid)

pub limit-since : (one other : State) (access : Access) (seats seats' : List (Option Seat)) (u w : ℕ) → other ≡ one → seats' ≡ seats → w ≤ u + access_limit (λ key. is_kept seats' key) other access → w ≤ u + access_limit (λ key. is_kept seats key) one access
limit-since one other access seats seats' u w e same few = subst (λ s. w ≤ u + access_limit (λ key. is_kept seats key) s access) e (subst (λ s. w ≤ u + access_limit (λ key. is_kept s key) other access) same few)

-- a thread that is not there is not there if the state stays
pub gone-since : (a b : VolumeHeld) (t : ℕ) → Keeps a b → find (λ (thread : Thread). thread.number == t) (threads_in a) ≡ None → find (λ (thread : Thread). thread.number == t) (threads_in b) ≡ None
gone-since a b t keeps gone = ap (λ threads. find (λ (thread : Thread). thread.number == t) threads) (same_threads a b keeps) ∙ gone

-- an `info` has no word of its own
pub no-words : (state : State) (t a : ℕ) → (let line : Line = record { thread = t; call = call.Info a } in line_words state line) ≡ 0
no-words state t a = by_thread (is_thread state t)
  where
    by_thread : (v : Bool) → (let n : ℕ = if v then 0 else 0 in n) ≡ 0
    by_thread true = refl
    by_thread false = refl

pub taken_more : (rights : List Right) (i : ℕ) (d : Right) → i < length rights → take i rights ++ get_or rights i d ∷ [] ≡ take (i + 1) rights
taken_more rights i d within = let next : suc i ≡ i + 1 = omega arith in sym (take-suc rights i d within) ∙ ap (λ k. take k rights) next
