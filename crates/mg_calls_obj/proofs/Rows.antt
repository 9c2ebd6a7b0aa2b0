-- What a call on an object makes of its row, by its tests.
use Rattle.{mg_calls_obj.specs.Altering.{is_crowded, is_outside, paying_refusal}, mg_model.specs.{Abbreviations.unless_refused, Access.allowed}}
use Rattle.mg_model.specs.{Bank.{opens, owed_by}, Limits.{never, password_limit}, ObjectCalls.{all_drawn, delete, drawn, entry, ext, extension_of}}
use Rattle.mg_model.specs.{ObjectCalls.{has_password, is_entry, is_past, next_password, pwadd, pwdel, recharge, row_at, with_entry}, Objects.with_row}
use Rattle.mg_model.specs.{Objects.without_object, Refused.{Answer, first_refusal, checked}, State.{ObjectRow, State}}
use Rattle.mg_model.specs.declared.replies.{Refusal.{Refusal, TheVariants.{Account, Debt, Denied, Limit, NoPassword, Past, Range}}, Reply.Reply}
use Rattle.{mg_model.specs.declared.{replies.Reply.TheVariants.{Done, Value}, rights.Right.TheVariants.{D, O}}, mg_volume.specs.Held.VolumeHeld}
use Rattle.{mg_volume.specs.{Meaning.accounts_in, Staging.{MayChange, has_base}}, std.proofs.Common.{refl, sym, ap, subst, ◌∙◌}}
use Rattle.std.specs.{List.list_any, Prelude.{◌≡◌, ◌+◌, ◌==◌, ◌||◌, ◌++◌, ◌∷◌, [], ℕ, nat_le, nat_lt, Bool, true, false, not, if◌then◌else◌, List}}
use Rattle.std.specs.Prelude.{Option, Some, IfSome, IsSomeAnd, filter, find, length, unwrap_or}

-- a state with a change of the row of an object
abbrev pub changed : State → ObjectRow → (ObjectRow → ObjectRow) → State
changed state object change = record state { objects = with_row object.base change state.objects }

abbrev pub without_password : ℕ → ObjectRow → ObjectRow
without_password password object = record object { passwords = filter (λ pw. not (has_password password pw)) object.passwords }

abbrev pub with_password : ℕ → ℕ → ℕ → ObjectRow → ObjectRow
with_password password rights until object = record object { passwords = object.passwords ++ record { password = password; rights = rights; until = until } ∷ [] }

-- a row that is found by its base, with another in its place
module _ (rows rows' : List ObjectRow) (object new : ObjectRow) (same : rows' ≡ rows) (held : find (λ (r : ObjectRow). r.base == object.base) rows ≡ Some object) (base : new.base ≡ object.base) where
  found : find (λ (r : ObjectRow). r.base == new.base) rows' ≡ Some object
  found = ap (λ b. find (λ (r : ObjectRow). r.base == b) rows') base ∙ ap (find (λ (r : ObjectRow). r.base == object.base)) same ∙ held

  pub may_change : object.pages ≡ new.pages → MayChange rows' new
  may_change pages = subst (λ o. IsSomeAnd o (λ (old : ObjectRow). old.pages ≡ new.pages)) (sym found) pages

  pub change_gives : (change : ObjectRow → ObjectRow) → change object ≡ new → IfSome (find (λ (r : ObjectRow). r.base == new.base) rows') (λ old. change old ≡ new)
  change_gives change gives = subst (λ o. IfSome o (λ (old : ObjectRow). change old ≡ new)) (sym found) gives

found_any : (test : ObjectRow → Bool) (rows : List ObjectRow) (object : ObjectRow) → find test rows ≡ Some object → list_any test rows ≡ true
found_any test [] object is = cc
found_any test (r ∷ rows) object is = by_test (test r) refl (found_any test rows object)
  where
    by_test : (v : Bool) → test r ≡ v → (find test rows ≡ Some object → list_any test rows ≡ true) → list_any test (r ∷ rows) ≡ true
    by_test true e later = ap (λ t. t || list_any test rows) e
    by_test false e later = ap (λ t. t || list_any test rows) e ∙ later (sym (rest e) ∙ is)
      where
        rest : test r ≡ false → find test (r ∷ rows) ≡ find test rows
        rest fails = rw fails refl

pub found_passes : (test : ObjectRow → Bool) (rows : List ObjectRow) (object : ObjectRow) → find test rows ≡ Some object → test object ≡ true
found_passes test [] object is = cc
found_passes test (r ∷ rows) object is = by_test (test r) refl is (found_passes test rows object)
  where
    by_test : (v : Bool) → test r ≡ v → (if v then Some r else find test rows) ≡ Some object → (find test rows ≡ Some object → test object ≡ true) → test object ≡ true
    by_test true e h later = let same : r ≡ object = cc in subst (λ (x : ObjectRow). test x ≡ true) same e
    by_test false e h later = later h

pub based_there : (rows : List ObjectRow) (object : ObjectRow) → find (λ (r : ObjectRow). r.base == object.base) rows ≡ Some object → has_base object.base rows ≡ true
based_there rows object held = found_any (λ (r : ObjectRow). r.base == object.base) rows object held

-- an entry moves no object
pub entry_moves : (object new : ObjectRow) (address : ℕ) → new ≡ with_entry object address → (new.base ≡ object.base) × (object.pages ≡ new.pages)
entry_moves object new address is = by_test (is_entry object address) is
  where
    by_test : (v : Bool) → new ≡ (if v then object else record object { entries = object.entries ++ address ∷ [] }) → (new.base ≡ object.base) × (object.pages ≡ new.pages)
    by_test true e = (ap (λ (r : ObjectRow). r.base) e, sym (ap (λ (r : ObjectRow). r.pages) e))
    by_test false e = (ap (λ (r : ObjectRow). r.base) e, sym (ap (λ (r : ObjectRow). r.pages) e))

-- what is staged is the state with the change
pub staged-is :
    (state new : State) (object given : ObjectRow) (change : ObjectRow → ObjectRow) (reply : Reply) → given.base ≡ object.base → new ≡ record state { objects = with_row given.base change state.objects } → ◌≡◌ {A = Answer} (changed state object change, reply) (new, reply)
staged-is state new object given change reply base is = ap (λ b. (record state { objects = with_row b change state.objects }, reply)) (sym base) ∙ ap (λ s. (s, reply)) (sym is)

module _ (state : State) (t a : ℕ) (object : ObjectRow) (named : row_at state a ≡ object) where
  -- `delete`
  pub delete-is : allowed state t a D ≡ true → delete state t a ≡ (record state { objects = without_object object.base state.objects }, Done)
  delete-is may =
      ap (λ m. checked state ((not m, Denied) ∷ []) (record state { objects = without_object (row_at state a).base state.objects }, Done)) may
      ∙ ap (λ (r : ObjectRow). (record state { objects = without_object r.base state.objects }, Done)) named

  module _ (may : allowed state t a O ≡ true) where
    -- what an owner's call does
    of_owner : (call : Bool → ObjectRow → Answer) → call (allowed state t a O) (row_at state a) ≡ call true object
    of_owner call = ap (λ m. call m (row_at state a)) may ∙ ap (λ r. call true r) named

    -- `pwdel`
    abbrev by_has : Bool → Bool → Answer → Answer
    by_has m has done = checked state ((not m, Denied) ∷ (not has, NoPassword) ∷ []) done

    pub pwdel-is : (password : ℕ) (has : Bool) → list_any (λ pw. has_password password pw) object.passwords ≡ has → pwdel state t a password ≡ by_has true has (changed state object (without_password password), Done)
    pwdel-is password has is =
        of_owner (λ m r. by_has m (list_any (λ pw. has_password password pw) r.passwords) (changed state r (without_password password), Done))
        ∙ ap (λ h. by_has true h (changed state object (without_password password), Done)) is

    -- `pwadd`
    abbrev by_past : Bool → Bool → Bool → Answer → Answer
    by_past m past limit done = checked state ((not m, Denied) ∷ (past, Past) ∷ (limit, Limit) ∷ []) done

    pub pwadd-is :
        (rights : ℕ) (until : Option ℕ) (past limit : Bool) → is_past state.counters.period until ≡ past → (nat_le password_limit (length object.passwords) || all_drawn state) ≡ limit
        → pwadd state t a rights until ≡ by_past true past limit (changed (drawn state) object (with_password (next_password state) rights (unwrap_or until never)), Value (next_password state))
    pwadd-is rights until past limit is_p is_l =
        let done : ObjectRow → Answer = λ r. (changed (drawn state) r (with_password (next_password state) rights (unwrap_or until never)), Value (next_password state)) in
        of_owner (λ m r. by_past m (is_past state.counters.period until) (nat_le password_limit (length r.passwords) || all_drawn state) (done r))
        ∙ ap (λ p. by_past true p (nat_le password_limit (length object.passwords) || all_drawn state) (done object)) is_p
        ∙ ap (λ l. by_past true past l (done object)) is_l

    -- `entry`
    abbrev by_place : Bool → Bool → Bool → Answer → Answer
    by_place m outside crowded done = checked state ((not m, Denied) ∷ (outside, Range) ∷ (crowded, Limit) ∷ []) done

    pub entry-is :
        (off address : ℕ) (outside crowded : Bool) → address ≡ object.base + off → is_outside object off ≡ outside → is_crowded object address ≡ crowded
        → entry state t a off ≡ by_place true outside crowded (changed state object (λ r. with_entry r address), Value address)
    entry-is off address outside crowded is_a is_o is_c =
        let done : ObjectRow → ℕ → Answer = λ r x. (changed state r (λ o. with_entry o x), Value x) in
        of_owner (λ m r. by_place m (is_outside r off) (is_crowded r (r.base + off)) (done r (r.base + off)))
        ∙ ap (λ x. by_place true (is_outside object off) (is_crowded object x) (done object x)) (sym is_a)
        ∙ ap (λ o. by_place true o (is_crowded object address) (done object address)) is_o
        ∙ ap (λ c. by_place true outside c (done object address)) is_c

    -- `ext`
    pub ext-is : (clist password : ℕ) → ext state t a clist password ≡ (changed state object (λ r. record r { extension = extension_of clist password }), Done)
    ext-is clist password = of_owner (λ m r. checked state ((not m, Denied) ∷ []) (changed state r (λ o. record o { extension = extension_of clist password }), Done))

    -- `recharge`
    pub recharge-is :
        (v : VolumeHeld) (account password : ℕ) (word : Option Refusal) → state.accounts ≡ accounts_in v → word ≡ paying_refusal v account password
        → recharge state t a account password ≡ unless_refused word state (changed state object (λ r. record r { account = account }), Done)
    recharge-is v account password word accounts is =
        let done : ObjectRow → Answer = λ r. (changed state r (λ o. record o { account = account }), Done) in
        of_owner (λ m r. checked state ((not m, Denied) ∷ (not (opens state.accounts account password), Account) ∷ (nat_lt 0 (owed_by state.accounts account), Debt) ∷ []) (done r))
        ∙ ap (λ l. unless_refused (first_refusal ((not (opens l account password), Account) ∷ (nat_lt 0 (owed_by l account), Debt) ∷ [])) state (done object)) accounts
        ∙ ap (λ w. unless_refused w state (done object)) (sym is)
