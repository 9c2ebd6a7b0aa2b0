-- Lemmas on the access of a word: why it is refused, and what it keeps and counts, by what was reached.
use Rattle.std.proofs.Common.{ℕ, ◌≡◌, ◌≤◌, ◌+◌, ◌-◌, Bool, not, true, false, [], ◌∷◌, if◌then◌else◌, Option, Some, None}
use Rattle.std.{proofs.Common.{refl, sym, ap, subst, ◌∙◌, arith}, specs.{Option.option_to_list, Prelude.option_map}}
use Rattle.mg_access.specs.{LineLemmas.{none_rules, one_limit, one_rules}, ReachedLemmas.nobody_reaches}
use Rattle.mg_access.specs.{ReachedLemmas.{reached_allowed, reached_none, thread_gone}, Searching.access_refusal}
use Rattle.{mg_access.specs.Searching.{allowed_row, word_accesses}, mg_laws.specs.Costs.SearchesKeepRules}
use Rattle.mg_model.specs.{Access.{allowed, at}, Accesses.{Access, word_access}, Kept.{KeepsRules, Searches, Validates}}
use Rattle.mg_model.specs.{Kept.{access_limit, searches_limit, is_elsewhere}, Keys.{Key, key_taken}}
use Rattle.mg_model.specs.{ObjectCalls.is_aligned, Refused.first_refusal, State.{Object, ObjectRow, State}}
use Rattle.mg_model.specs.{Threads.is_thread, declared.replies.Refusal.TheVariants.{Align, Denied}}
use Rattle.mg_model.specs.declared.rights.Right.{Right}

module _ (t a : ℕ) (right : Right) where
  -- an access that reaches nothing takes no seat
  pub taken-none : (v : Bool) (o : Option Object) → None ≡ (if v then option_map (λ (object : Object). object.row) o else None)
      → (if v then option_to_list {X = Key} (option_map (λ (object : Object). record { thread = t; base = object.row.base; right = right }) o) else []) ≡ []
  taken-none true (Some object) h = cc
  taken-none true None h = refl
  taken-none false o h = refl

module _ (state : State) (t a : ℕ) (right : Right) where
  by_access : (v : Bool) → is_aligned a ≡ true → allowed state t a right ≡ v → access_refusal state t a right ≡ (if not v then Some Denied else None)
  by_access v on may = ap (λ b. if not b then Some Align else first_refusal ((not (allowed state t a right), Denied) ∷ [])) on ∙ ap (λ b. if not b then Some Denied else None) may

  pub refusal-denied : is_aligned a ≡ true → None ≡ allowed_row state t a right → access_refusal state t a right ≡ Some Denied
  refusal-denied on none = by_access false on (reached_none state t a right none)

  pub refusal-none : (row : ObjectRow) → is_aligned a ≡ true → Some row ≡ allowed_row state t a right → access_refusal state t a right ≡ None
  refusal-none row on some = by_access true on (reached_allowed state t a right row some)

  abbrev access : Access
  access = record { thread = t; address = a; right = right }

  made-nobody : is_thread state t ≡ false → word_accesses state t a right ≡ []
  made-nobody gone = ap (λ v. if v then word_access t a right else []) gone

  made-one : is_thread state t ≡ true → is_aligned a ≡ true → word_accesses state t a right ≡ access ∷ []
  made-one lives on = ap (λ v. if v then word_access t a right else []) lives ∙ ap (λ b. if b then access ∷ [] else []) on

  module _ (kept kept' : Key → Bool) (steps steps' : ℕ) (keep : SearchesKeepRules Searches) where
    -- what the access keeps; one of no thread makes none
    pub tested-rules : is_aligned a ≡ true → Validates state access kept kept' (steps' - steps) → (is_thread state t ≡ false → steps' ≡ steps) → KeepsRules state (word_accesses state t a right) kept kept' (steps' - steps)
    tested-rules on valid gone = by_thread (is_thread state t) refl
      where
        by_thread : (v : Bool) → is_thread state t ≡ v → KeepsRules state (word_accesses state t a right) kept kept' (steps' - steps)
        by_thread true is = subst (λ made. KeepsRules state made kept kept' (steps' - steps)) (sym (made-one is on)) (one_rules state access kept kept' (steps' - steps) valid keep)
        by_thread false is =
            let none : key_taken state access ≡ [] = taken-none t a right (allowed state t a right) (at state.objects a) (nobody_reaches state t a right (thread_gone state t is)) in
            let same = gone is in
            subst (λ made. KeepsRules state made kept kept' (steps' - steps)) (sym (made-nobody is))
            (none_rules state kept kept' (steps' - steps) (λ key. valid.others key (ap (λ keys. is_elsewhere keys key) none)) (omega arith) keep)

    pub tested-limit : is_aligned a ≡ true → steps' ≤ steps + access_limit kept state access → (is_thread state t ≡ false → steps' ≡ steps) → steps' ≤ steps + searches_limit kept state (word_accesses state t a right)
    tested-limit on few gone = by_thread (is_thread state t) refl
      where
        by_thread : (v : Bool) → is_thread state t ≡ v → steps' ≤ steps + searches_limit kept state (word_accesses state t a right)
        by_thread true is =
            let less : steps' - steps ≤ searches_limit kept state (access ∷ []) = one_limit state access kept (steps' - steps) (omega arith) keep in
            subst (λ made. steps' ≤ steps + searches_limit kept state made) (sym (made-one is on)) (omega arith)
        by_thread false is = let same = gone is in omega arith
