-- Lemmas on lines of accesses: what a line keeps and costs, from the accesses that it made.
use Rattle.std.{proofs.{Common.{arith, refl, ap, ◌∙◌}, lemmas.Bool.eq-eqb}, specs.Prelude.{ℕ, ◌≡◌, ◌≤◌, ◌+◌, ◌-◌, ◌==◌}}
use Rattle.std.specs.Prelude.{◌&&◌, Bool, not, true, false, List, [], ◌∷◌, ◌++◌, if◌then◌else◌}
use Rattle.{mg_laws.specs.Costs.SearchesKeepRules, mg_model.specs.Accesses.{Access, accesses, line_words}}
use Rattle.mg_model.specs.Kept.{KeepsKeys, KeepsLine, KeepsRules, Searches, Validates, access_limit, is_served}
use Rattle.mg_model.specs.{Kept.{line_limit, searches_limit, is_elsewhere}, Keys.{Key, seat_of, key_taken}, State.State}
use Rattle.mg_model.specs.{Threads.is_thread, Warmth.{failing, is_disturbing}, declared.calls.Line.Line}

-- a line that was answered
pub keeps_line : (state : State) (line : Line) (kept kept' : Key → Bool) (steps steps' words : ℕ) → KeepsRules state (accesses state line) kept kept' words → steps' ≡ steps + line_words state line + words
    → KeepsLine state line kept kept' steps steps'
keeps_line state line kept kept' steps steps' words rules count = record {
  keys = λ quiet. rules.keys;
  least = omega arith;
  most = let few = rules.few in omega arith;
}

-- the same of one that may have dropped keys after its accesses, if it disturbs
pub drops_line : (state : State) (line : Line) (kept kept' : Key → Bool) (steps steps' words : ℕ) → (is_disturbing state line ≡ false → KeepsKeys state (accesses state line) kept kept') → words ≤ searches_limit kept state (accesses state line)
    → steps' ≡ steps + line_words state line + words → KeepsLine state line kept kept' steps steps'
drops_line state line kept kept' steps steps' words keys few count = record { keys = keys; least = omega arith; most = omega arith }

-- accesses that make none leave all
pub none_rules : (state : State) (kept kept' : Key → Bool) (words : ℕ) → ((key : Key) → kept' key ≡ kept key) → words ≡ 0 → SearchesKeepRules Searches → KeepsRules state [] kept kept' words
none_rules state kept kept' words same none keep = keep state kept [] kept' words (same, none)

-- one access
pub one_rules : (state : State) (access : Access) (kept kept' : Key → Bool) (words : ℕ) → Validates state access kept kept' words → SearchesKeepRules Searches → KeepsRules state (access ∷ []) kept kept' words
one_rules state access kept kept' words valid keep = keep state kept (access ∷ []) kept' words (kept', words, 0, omega arith, valid, ((λ key. refl), refl))

-- The keys that would be kept after an access, whether it is allowed or not.
abbrev pub as_if : State → Access → (Key → Bool) → Key → Bool
as_if state access kept key = if is_elsewhere (key_taken state access) key then kept key else true

-- an access that failed stays within its limit, and so do those before it
pub failed_access : (state : State) (access : Access) (kept : Key → Bool) (words : ℕ) → words ≤ access_limit kept state access → Validates state access kept (as_if state access kept) words
failed_access state access kept words few = record {
  own = λ key took. ap (λ keys. if is_elsewhere keys key then kept key else true) took ∙ mine (seat_of key == seat_of key) key (eq-eqb (seat_of key) (seat_of key) refl);
  others = λ key far. ap (λ v. if v then kept key else true) far;
  few = few;
}
  where
    mine : (v : Bool) (key : Key) → v ≡ true → (if not v && true then kept key else true) ≡ true
    mine true key is = refl
    mine false key is = cc

pub one_limit : (state : State) (access : Access) (kept : Key → Bool) (words : ℕ) → words ≤ access_limit kept state access → SearchesKeepRules Searches → words ≤ searches_limit kept state (access ∷ [])
one_limit state access kept words few keep = (one_rules state access kept (as_if state access kept) words (failed_access state access kept words few) keep).few

-- accesses cost no more than these and more
failing-append : (test : List Access → Access → Bool) (before first more : List Access) → failing test before first ≤ failing test before (first ++ more)
failing-append test before [] more = omega arith
failing-append test before (access ∷ first) more = let later = failing-append test (before ++ access ∷ []) first more in omega arith

pub limit_append : (state : State) (kept : Key → Bool) (first more : List Access) → searches_limit kept state first ≤ searches_limit kept state (first ++ more)
limit_append state kept first more = let less = failing-append (is_served kept state) [] first more in omega arith

-- a line stays within its limit if its searches do
pub limit_line : (state : State) (line : Line) (kept : Key → Bool) (steps steps' : ℕ) → steps' ≤ steps + searches_limit kept state (accesses state line) → steps' ≤ steps + line_limit kept state line
limit_line state line kept steps steps' few = omega arith

-- Accesses of a thread, which makes none if it does not live.
pub thread_rules : (state : State) (t : ℕ) (made : List Access) (kept kept' : Key → Bool) (steps steps' : ℕ) → SearchesKeepRules Searches → Searches state kept made kept' (steps' - steps)
    → (is_thread state t ≡ false → (key : Key) → kept' key ≡ kept key) → (is_thread state t ≡ false → steps' ≡ steps) → KeepsRules state (if is_thread state t then made else []) kept kept' (steps' - steps)
thread_rules state t made kept kept' steps steps' keep searches same none = by_thread (is_thread state t) same none
  where
    by_thread : (v : Bool) → (v ≡ false → (key : Key) → kept' key ≡ kept key) → (v ≡ false → steps' ≡ steps) → KeepsRules state (if v then made else []) kept kept' (steps' - steps)
    by_thread true same none = keep state kept made kept' (steps' - steps) searches
    by_thread false same none = let rise = none refl in none_rules state kept kept' (steps' - steps) (same refl) (omega arith) keep

pub thread_limit : (state : State) (t : ℕ) (made : List Access) (kept : Key → Bool) (steps steps' : ℕ) → steps' - steps ≤ searches_limit kept state made → (is_thread state t ≡ false → steps' ≡ steps)
    → steps' ≤ steps + searches_limit kept state (if is_thread state t then made else [])
thread_limit state t made kept steps steps' few none = by_thread (is_thread state t) none
  where
    by_thread : (v : Bool) → (v ≡ false → steps' ≡ steps) → steps' ≤ steps + searches_limit kept state (if v then made else [])
    by_thread true none = omega arith
    by_thread false none = let rise = none refl in omega arith
