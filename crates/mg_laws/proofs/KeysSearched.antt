-- From one access to a line: accesses one after another, each with its own rule, keep the rules of a line.
use Rattle.mg_laws.{proofs.KeysSeats.{has_seat-append, is_key-same, last_is_kept}, specs.Costs.{LimitGoesOn, RulesGoOn, SearchesGoOn}}
use Rattle.{mg_laws.specs.Costs.SearchesKeepRules, mg_model.specs.{Abbreviations.is_allowed, Accesses.Access, Kept.{KeepsKeys, Searches, Validates}}}
use Rattle.mg_model.specs.{Kept.{is_known, is_served, searches_limit, is_elsewhere}, Keys.{Key, first_at, has_seat, key_of, seat_of, key_taken}}
use Rattle.{mg_model.specs.{Keys.keys_taken, Limits.search_limit, State.State, Warmth.failing}, std.proofs.Common.{ℕ, ◌≡◌, ◌≤◌, ◌+◌, ◌*◌, Bool, true}}
use Rattle.std.proofs.{Common.{false, cond, List, [], ◌∷◌, ◌++◌, Option, Some, None, refl, sym, ap, ◌∙◌, arith, append-nil}, lemmas.Bool.and_from}
use Rattle.std.{proofs.lemmas.{Bool.{and_parts, cond_both, false≢true}, Option.none-some}, specs.Option.option_to_list}

-- One access

-- an access takes one seat or none
one_or_none : (may : Bool) (o : Option Key) (P : List Key → Type 0) → P [] → ((key : Key) → cond may (option_to_list o) [] ≡ key ∷ [] → P (key ∷ [])) → P (cond may (option_to_list o) [])
one_or_none false o P none one = none
one_or_none true None P none one = none
one_or_none true (Some key) P none one = one key refl

by_taken : (state : State) (access : Access) (P : List Key → Type 0) → P [] → ((key : Key) → key_taken state access ≡ key ∷ [] → P (key ∷ [])) → P (key_taken state access)
by_taken state access P none one = one_or_none (is_allowed state access) (key_of state access) P none one

-- if one key took a seat and the seat is left to a key, then it is that key, or has another seat
own_or_other : (x key : Key) (P : Type 0) → has_seat (x ∷ []) key ≡ true → (x ≡ key → P) → (is_elsewhere (x ∷ []) key ≡ true → P) → P
own_or_other x key P leaves own other = grind (arith, and_parts, is_key-same, and_from)

validates-stays : (state : State) (access : Access) (kept kept' : Key → Bool) (words : ℕ) → Validates state access kept kept' words
    → (key : Key) → kept key ≡ true → has_seat (key_taken state access) key ≡ true → kept' key ≡ true
validates-stays state access kept kept' words v key was leaves = grind (arith, by_taken, own_or_other)

validates-comes : (state : State) (access : Access) (kept kept' : Key → Bool) (words : ℕ) → Validates state access kept kept' words
    → (key : Key) → first_at (seat_of key) (key_taken state access) ≡ Some key → kept' key ≡ true
validates-comes state access kept kept' words v key first = grind (arith, by_taken, none-some, cond_both)

-- Accesses one after another

searches-keep_keys : (state : State) (kept : Key → Bool) (made : List Access) (kept' : Key → Bool) (words : ℕ) → Searches state kept made kept' words → KeepsKeys state made kept kept'
searches-keep_keys state kept [] kept' words (same, none) = grind (arith, none-some)
searches-keep_keys state kept (access ∷ more) kept' words (middle, first, rest, sum, v, searches) =
    let later = searches-keep_keys state middle more kept' rest searches in record {
      stays = λ key was leaves.
          let both = has_seat-append key (keys_taken state more) (key_taken state access) leaves in
          later.stays key (validates-stays state access kept middle first v key was both.1) both.0;
      comes = λ key is.
          last_is_kept (keys_taken state more) (key_taken state access) middle kept' later.stays later.comes (λ other there. validates-comes state access kept middle first v other there) key is;
    }

-- the keys of one access more
taken_by-push : (state : State) (before : List Access) (access : Access) → keys_taken state (before ++ access ∷ []) ≡ key_taken state access ++ keys_taken state before
taken_by-push state [] access = sym (append-nil (key_taken state access))
taken_by-push state (x ∷ before) access = grind (arith, (taken_by-push state before access))

-- after these accesses of a line each key is kept that was kept before it and whose seat no other key took
abbrev StillKeeps : State → (Key → Bool) → List Access → (Key → Bool) → Type 0
StillKeeps state kept before now = (key : Key) → kept key ≡ true → has_seat (keys_taken state before) key ≡ true → now key ≡ true

still_more : (state : State) (kept now middle : Key → Bool) (before : List Access) (access : Access) (words : ℕ)
    → StillKeeps state kept before now → Validates state access now middle words → StillKeeps state kept (before ++ access ∷ []) middle
still_more state kept now middle before access words still v key was leaves = grind (arith, has_seat-append, taken_by-push, validates-stays)

-- an access that is served was known
served-known : (state : State) (kept now : Key → Bool) (before : List Access) (access : Access) → StillKeeps state kept before now → is_served kept state before access ≡ true
    → is_known now state access ≡ true
served-known state kept now before access still served = grind (arith, and_parts)

-- for one access no word is searched, or at most a whole search
one-few : (known served : Bool) (words : ℕ) → (served ≡ true → known ≡ true) → words ≤ cond known 0 search_limit → words ≤ search_limit * cond served 0 1
one-few true true words implies few = few
one-few true false words implies few = omega arith
one-few false true words implies few = absurd (false≢true (implies refl))
one-few false false words implies few = few

searches-few : (state : State) (kept now : Key → Bool) (before more : List Access) (kept' : Key → Bool) (words : ℕ)
    → StillKeeps state kept before now → Searches state now more kept' words → words ≤ search_limit * failing (is_served kept state) before more
searches-few state kept now before [] kept' words still (same, none) = omega arith
searches-few state kept now before (access ∷ more) kept' words still (middle, first, rest, sum, v, searches) =
    grind (arith, (searches-few state kept middle (before ++ access ∷ []) more kept' rest (still_more state kept now middle before access first still v) searches))

pub searches-keep_rules : SearchesKeepRules Searches
searches-keep_rules state kept made kept' words searches = grind (arith, searches-keep_keys, searches-few)

-- the same rule, if the same keys are kept
same_kept : (state : State) (access : Access) (kept now kept' : Key → Bool) (words : ℕ) → ((key : Key) → now key ≡ kept key) → Validates state access now kept' words → Validates state access kept kept' words
same_kept state access kept now kept' words same v = grind arith

pub searches-go_on : SearchesGoOn Searches
searches-go_on state kept [] middle words access kept' more (same, none) v =
    (kept', more, 0, ap (λ w. w + more) none ∙ omega arith, same_kept state access kept middle kept' more same v, ((λ key. refl), refl))
searches-go_on state kept (x ∷ made) middle words access kept' more (now, first, rest, sum, w, searches) v =
    grind (arith, (searches-go_on state now made middle rest access kept' more searches v))

-- An access, and more after it

-- an access that is served after one access and others is also served after the others alone, by the keys that are kept
-- after that one access
served-later : (state : State) (access : Access) (kept middle : Key → Bool) (first : ℕ) → Validates state access kept middle first → (before : List Access) (later : Access) → is_served kept state (access ∷ before) later ≡ true
    → is_served middle state before later ≡ true
served-later state access kept middle first v before later served = grind (arith, and_parts, has_seat-append, and_from, validates-stays)

-- if each access that passes one test passes another, fewer accesses fail the other test
fewer-fail : (access : Access) (test other : List Access → Access → Bool) → ((before : List Access) (later : Access) → test (access ∷ before) later ≡ true → other before later ≡ true) → (before more : List Access)
    → failing other before more ≤ failing test (access ∷ before) more
fewer-fail access test other passes before [] = omega arith
fewer-fail access test other passes before (later ∷ more) = grind (arith, (fewer-fail access test other passes (before ++ later ∷ []) more))

pub limit-goes_on : LimitGoesOn searches_limit
limit-goes_on state access more kept middle first rest v few =
    let one : first ≤ search_limit * cond (is_served kept state [] access) 0 1 = grind (arith, one-few, served-known) in
    let fewer = fewer-fail access (is_served kept state) (is_served middle state) (served-later state access kept middle first v) [] more in
    omega arith

pub rules-go_on : RulesGoOn
rules-go_on state access more kept middle kept' first rest v later = record {
  keys = record {
    stays = λ key was leaves.
        let both = has_seat-append key (keys_taken state more) (key_taken state access) leaves in
        later.keys.stays key (validates-stays state access kept middle first v key was both.1) both.0;
    comes = λ key is.
        last_is_kept (keys_taken state more) (key_taken state access) middle kept' later.keys.stays later.keys.comes (λ other there. validates-comes state access kept middle first v other there) key is;
  };
  few = limit-goes_on state access more kept middle first rest v later.few;
}
