-- What turns keep and cost, by their fetch and their call, and what the lines that need a turn keep.
use Rattle.{mg_calls_dom.specs.Fetching.{Fetches, fetch_limit}, mg_kernel.{proofs.Counted.still-line, specs.Calls.{KeepsCall, KeepsTurn, call_limit}}}
use Rattle.{mg_kernel.specs.Calls.turn_limit, mg_laws.specs.Costs.{LimitGoesOn, RulesGoOn}, mg_model.specs.Abbreviations.is_allowed}
use Rattle.mg_model.specs.{Access.thread_of, Accesses.{Access, accesses, call_accesses, call_words, turn_accesses, turn_words, turning, line_words}}
use Rattle.mg_model.specs.{Domains.row_of, Kept.{KeepsKeys, KeepsLine, access_limit, is_known, is_served, line_limit, searches_limit}, Keys.Key}
use Rattle.mg_model.specs.{Keys.{has_seat, key_of}, Limits.search_limit, Refused.checked, State.{State, Thread, ThreadRow}, Step.{of_thread, step}}
use Rattle.mg_model.specs.{Turn.{outcome_of, picked, run_next, thread_is_ready, turn, turn_state}, Warmth.{disturbs, is_calm_turn, is_disturbing}}
use Rattle.mg_model.specs.{Warmth.is_ok, declared.{calls.Line.Line, replies.{Refusal.TheVariants.{NoThread, NotReady}, Reply.TheVariants.No}}}
use Rattle.{mg_model.specs.declared.{replies.Reply.TheVariants.Turned, rights.Right.TheVariants.X}, mg_script.specs.TurnCosts.IsSearchedAsCall}
use Rattle.{mg_script.specs.Turns.turn_call, std.proofs.{Common.{arith, refl, sym, ap, subst, ◌∙◌}, lemmas.Bool.{and_parts, cond_both, eqb-true}}}
use Rattle.std.{proofs.lemmas.Bool.false≢true, specs.{Option.option_map_or, Prelude.{ℕ, ◌≡◌, ◌≤◌, ◌+◌, ◌*◌, ◌==◌, ◌&&◌, Bool, true, false, not}}}
use Rattle.std.specs.Prelude.{List, [], ◌∷◌, find, is_some, if◌then◌else◌, Option, Some, None}
use Rattle.mg_model.specs.declared.calls.Call.TheVariants as call

-- A fetch and a call

-- the most that is searched for one access is within the most for it and others after it
served-known : (o : Option Key) (kept : Key → Bool) → option_map_or (λ key. kept key && has_seat [] key) o false ≡ true → option_map_or kept o false ≡ true
served-known None kept served = served
served-known (Some key) kept served = (and_parts (kept key) true served).0

one-limit : (known served : Bool) → (served ≡ true → known ≡ true) → (if known then 0 else search_limit) ≤ search_limit * (if served then 0 else 1)
one-limit true served implies = omega arith
one-limit false true implies = absurd (false≢true (implies refl))
one-limit false false implies = omega arith

first-limit : (kept : Key → Bool) (state : State) (access : Access) (more : List Access) → access_limit kept state access ≤ searches_limit kept state (access ∷ more)
first-limit kept state access more =
    let one = one-limit (is_known kept state access) (is_served kept state [] access) (served-known (key_of state access) kept) in
    omega arith

module _ (state : State) (t : ℕ) (thread : ThreadRow) (asked : IsSearchedAsCall state t thread) where
  abbrev whole : Thread
  whole = record { number = t; row = thread }

  abbrev fetch : Access
  fetch = record { thread = t; address = thread.pc; right = X }

  abbrev made : List Access
  made = call_accesses state t (turn_call state t thread)

  -- the limit of a turn, in parts
  all-limit : (kept : Key → Bool) → turn_limit kept state whole ≡ (if is_allowed state fetch then 1 else 0) + call_words state t (turn_call state t thread) + searches_limit kept state (fetch ∷ made)
  all-limit kept =
      let limit = ap (λ xs. searches_limit kept state xs) asked.accesses in
      let words = asked.words in
      omega arith

  -- a fetch and a call that stayed within its limit
  pub fetch-within : (kept middle : Key → Bool) (steps steps1 steps' : ℕ) → LimitGoesOn searches_limit
      → Fetches state fetch kept middle steps steps1 → steps' ≤ steps1 + call_limit middle state t (turn_call state t thread) → steps' ≤ steps + turn_limit kept state whole
  fetch-within kept middle steps steps1 steps' limit fetched few =
      let all = all-limit kept in
      let count = fetched.count in
      let rest : searches_limit middle state made ≤ searches_limit middle state made = omega arith in
      let both = limit state fetch made kept middle fetched.searched (searches_limit middle state made) fetched.keeps rest in
      omega arith

  -- a fetch and a call that was answered
  pub fetch-call : (kept middle kept' : Key → Bool) (steps steps1 steps' : ℕ) → RulesGoOn → LimitGoesOn searches_limit
      → Fetches state fetch kept middle steps steps1 → KeepsCall state t (turn_call state t thread) middle kept' steps1 steps' → KeepsTurn state whole kept kept' steps steps'
  fetch-call kept middle kept' steps steps1 steps' rules limit fetched called = record {
    keys = λ calm. subst (λ xs. KeepsKeys state xs kept kept') (sym asked.accesses)
        (rules state fetch made kept middle kept' fetched.searched 0 fetched.keeps (record { keys = called.keys (asked.calm calm); few = omega arith })).keys;
    least = let words = asked.words in let count = fetched.count in let least = called.least in omega arith;
    most = fetch-within kept middle steps steps1 steps' limit fetched called.most;
  }

  -- a fetch that failed
  pub fetch-failed : (kept : Key → Bool) (steps steps' : ℕ) → steps' ≤ steps + fetch_limit kept state fetch → steps' ≤ steps + turn_limit kept state whole
  fetch-failed kept steps steps' few =
      let all = all-limit kept in
      let first = first-limit kept state fetch made in
      omega arith

-- A line that needs a turn

-- a thread that has a row is found under its number
pub row-found : (state : State) (t : ℕ) (thread : ThreadRow) → row_of state t ≡ Some thread → thread_of state t ≡ Some (record { number = t; row = thread })
row-found state t thread is = by_find state.threads is
  where
    by_find : (threads : List Thread) → option_map_or (λ (x : Thread). Some x.row) (find (λ (x : Thread). x.number == t) threads) None ≡ Some thread
        → find (λ (x : Thread). x.number == t) threads ≡ Some (record { number = t; row = thread })
    by_find [] none = absurd (cc)
    by_find (x ∷ threads) some =
        cond_both (x.number == t) (Some x) (find (λ (x : Thread). x.number == t) threads) (λ o. option_map_or (λ (x : Thread). Some x.row) o None ≡ Some thread → o ≡ Some (record { number = t; row = thread }))
        (λ here same. let number : x.number ≡ t = eqb-true _ _ here in let row : x.row ≡ thread = cc in subst (λ n. Some x ≡ Some (record { number = n; row = thread })) number (ap (λ r. Some (record { number = x.number; row = r })) row))
        (λ other later. by_find threads later)
        some

-- how a turn is found
turn-of : (state : State) (t : ℕ) (thread : Thread) → thread_of state t ≡ Some thread → thread_is_ready state t ≡ true → turning state t ≡ Some thread
turn-of state t thread found ready = ap (λ v. if v then thread_of state t else None) ready ∙ found

-- the reply to it
turn-ok : (state : State) (t : ℕ) (thread : Thread) → thread_of state t ≡ Some thread → thread_is_ready state t ≡ true → is_ok (of_thread state t (turn state t)).1 ≡ true
turn-ok state t thread found ready =
    ap (λ o. is_ok (if is_some o then turn state t else (state, No NoThread)).1) found
    ∙ ap (λ v. is_ok (checked state ((not v, NotReady) ∷ []) (turn_state state t, Turned (outcome_of (turn_state state t) t))).1) ready

-- when a line is answered ok and disturbs nothing, its turn is calm
calm-turn : (ok disturbing calm : Bool) → ok ≡ true → disturbing ≡ not calm → (ok && disturbing) ≡ false → calm ≡ true
calm-turn ok disturbing true is not quiet = refl
calm-turn ok disturbing false is not quiet = absurd (false≢true (cc))

module _ (state : State) (line : Line) (thread : Thread) (those : accesses state line ≡ turn_accesses state thread) (own : line_words state line ≡ turn_words state thread) where
  keeps-line : (kept kept' : Key → Bool) (steps steps' : ℕ) → (is_disturbing state line ≡ false → is_calm_turn state (Some thread) ≡ true) → KeepsTurn state thread kept kept' steps steps' → KeepsLine state line kept kept' steps steps'
  keeps-line kept kept' steps steps' calm keeps =
      let limit = ap (λ xs. searches_limit kept state xs) those in
      let least = keeps.least in
      let most = keeps.most in
      record {
        keys = λ quiet. subst (λ xs. KeepsKeys state xs kept kept') (sym those) (keeps.keys (calm quiet));
        least = omega arith;
        most = omega arith;
      }

  limit-line : (kept : Key → Bool) (steps steps' : ℕ) → steps' ≤ steps + turn_limit kept state thread → steps' ≤ steps + line_limit kept state line
  limit-line kept steps steps' few = let limit = ap (λ xs. searches_limit kept state xs) those in omega arith

-- `turn`
module _ (state : State) (t : ℕ) (thread : Thread) (found : thread_of state t ≡ Some thread) (ready : thread_is_ready state t ≡ true) where
  abbrev turns : Line
  turns = record { thread = t; call = call.Turn }

  turn-accesses : accesses state turns ≡ turn_accesses state thread
  turn-accesses = ap (λ o. option_map_or (λ x. turn_accesses state x) o []) (turn-of state t thread found ready)

  turn-words : line_words state turns ≡ turn_words state thread
  turn-words = ap (λ o. option_map_or (λ x. turn_words state x) o 0) (turn-of state t thread found ready)

  pub turn-line : (kept kept' : Key → Bool) (steps steps' : ℕ) → KeepsTurn state thread kept kept' steps steps' → KeepsLine state turns kept kept' steps steps'
  turn-line kept kept' steps steps' keeps =
      keeps-line state turns thread turn-accesses turn-words kept kept' steps steps'
      (calm-turn (is_ok (step state turns).1) (disturbs state t call.Turn) (is_calm_turn state (Some thread)) (turn-ok state t thread found ready) (ap (λ o. not (is_calm_turn state o)) (turn-of state t thread found ready)))
      keeps

  pub turn-within : (kept : Key → Bool) (steps steps' : ℕ) → steps' ≤ steps + turn_limit kept state thread → steps' ≤ steps + line_limit kept state turns
  turn-within kept steps steps' few = limit-line state turns thread turn-accesses turn-words kept steps steps' few

-- `turn` if no turn is made
pub no-turn : (state : State) (t : ℕ) (kept : Key → Bool) (steps : ℕ) → turning state t ≡ None → KeepsLine state (record { thread = t; call = call.Turn }) kept kept steps steps
no-turn state t kept steps none =
    still-line state (record { thread = t; call = call.Turn }) kept steps (ap (λ o. option_map_or (λ x. turn_accesses state x) o []) none) (ap (λ o. option_map_or (λ x. turn_words state x) o 0) none)

pub unready-turn : (state : State) (t : ℕ) (kept : Key → Bool) (steps : ℕ) → thread_is_ready state t ≡ false → KeepsLine state (record { thread = t; call = call.Turn }) kept kept steps steps
unready-turn state t kept steps unready = no-turn state t kept steps (ap (λ v. if v then thread_of state t else None) unready)

pub gone-turn : (state : State) (t : ℕ) (kept : Key → Bool) (steps : ℕ) → thread_of state t ≡ None → KeepsLine state (record { thread = t; call = call.Turn }) kept kept steps steps
gone-turn state t kept steps gone = no-turn state t kept steps (either (thread_is_ready state t) (thread_of state t) gone)
  where
    either : (v : Bool) (o : Option Thread) → o ≡ None → (if v then o else None) ≡ None
    either true o none = none
    either false o none = refl

-- `next`
module _ (state : State) (u : ℕ) (thread : Thread) (runs : picked state ≡ Some thread) where
  abbrev nexts : Line
  nexts = record { thread = u; call = call.Next }

  next-accesses : accesses state nexts ≡ turn_accesses state thread
  next-accesses = ap (λ o. option_map_or (λ x. turn_accesses state x) o []) runs

  next-words : line_words state nexts ≡ turn_words state thread
  next-words = ap (λ o. option_map_or (λ x. turn_words state x) o 0) runs

  pub next-line : (kept kept' : Key → Bool) (steps steps' : ℕ) → KeepsTurn state thread kept kept' steps steps' → KeepsLine state nexts kept kept' steps steps'
  next-line kept kept' steps steps' keeps =
      keeps-line state nexts thread next-accesses next-words kept kept' steps steps'
      (calm-turn (is_ok (step state nexts).1) (disturbs state u call.Next) (is_calm_turn state (Some thread)) (ap (λ o. is_ok (run_next state o).1) runs) (ap (λ o. not (is_calm_turn state o)) runs))
      keeps

  pub next-within : (kept : Key → Bool) (steps steps' : ℕ) → steps' ≤ steps + turn_limit kept state thread → steps' ≤ steps + line_limit kept state nexts
  next-within kept steps steps' few = limit-line state nexts thread next-accesses next-words kept steps steps' few
