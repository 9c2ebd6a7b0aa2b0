-- The fetch of a word, by what was reached.
use Rattle.{mg_access.specs.{ReachedLemmas.{reached_allowed, reached_none}, Searching.allowed_row}, mg_calls_dom.specs.Fetching.Fetches}
use Rattle.{mg_calls_dom.specs.Fetching.fetch_limit, mg_model.specs.{Abbreviations.is_allowed, Access.allowed, Accesses.Access, Kept.Validates}}
use Rattle.mg_model.specs.{Kept.access_limit, Keys.Key, Objects.word_at, State.{ObjectRow, State}, declared.rights.Right.TheVariants.X}
use Rattle.std.{proofs.Common.{arith, sym, ap, ◌∙◌}, specs.Prelude.{ℕ, ◌≡◌, ◌≤◌, ◌+◌, ◌-◌, Bool, if◌then◌else◌, Some, None}}

module _ (state : State) (t a : ℕ) where
  abbrev count : Bool → ℕ
  count may = if may then 1 else 0

  abbrev access : Access
  access = record { thread = t; address = a; right = X }

  -- the word
  pub fetched-word : (row : ObjectRow) (word : ℕ) → Some row ≡ allowed_row state t a X → word ≡ word_at state.objects a → Some word ≡ (if allowed state t a X then Some (word_at state.objects a) else None)
  fetched-word row word found is = ap (λ w. Some w) is ∙ sym (ap (λ v. if v then Some (word_at state.objects a) else None) (reached_allowed state t a X row found))

  pub unfetched-word : None ≡ allowed_row state t a X → None ≡ (if allowed state t a X then Some (word_at state.objects a) else None)
  unfetched-word none = sym (ap (λ v. if v then Some (word_at state.objects a) else None) (reached_none state t a X none))

  module _ (kept : Key → Bool) (steps middle : ℕ) where
    -- what it keeps and counts
    pub fetched-keeps : (kept' : Key → Bool) (steps' : ℕ) (row : ObjectRow) → Some row ≡ allowed_row state t a X → Validates state access kept kept' (middle - steps) → steps ≤ middle → steps' ≡ middle + 1 → Fetches state access kept kept' steps steps'
    fetched-keeps kept' steps' row found valid more one =
        let one-more : count (is_allowed state access) ≡ 1 = ap count (reached_allowed state t a X row found) in
        record { searched = middle - steps; keeps = valid; count = omega arith }

    pub unfetched-keeps : (kept' : Key → Bool) → None ≡ allowed_row state t a X → Validates state access kept kept' (middle - steps) → steps ≤ middle → Fetches state access kept kept' steps middle
    unfetched-keeps kept' none valid more =
        let none-more : count (is_allowed state access) ≡ 0 = ap count (reached_none state t a X none) in
        record { searched = middle - steps; keeps = valid; count = omega arith }

    -- and the most that it counts
    pub fetched-limit : (steps' : ℕ) (row : ObjectRow) → Some row ≡ allowed_row state t a X → middle ≤ steps + access_limit kept state access → steps' ≡ middle + 1 → steps' ≤ steps + fetch_limit kept state access
    fetched-limit steps' row found few one =
        let one-more : count (is_allowed state access) ≡ 1 = ap count (reached_allowed state t a X row found) in
        omega arith

    pub unfetched-limit : middle ≤ steps + access_limit kept state access → middle ≤ steps + fetch_limit kept state access
    unfetched-limit few = omega arith
