-- The calls on accounts and the collection of rent keep the state well formed; so the balances always sum to the credits.
use Rattle.mg_laws.proofs.{Keeps.unless_refused-keeps, KeepsCreate.frames-few, KeepsObjects.drawn-keeps, KeptAccounts.{IsEdited, account_of-there}}
use Rattle.mg_laws.proofs.{KeptAccounts.{credited-edits, opens-row, paid-edits, debited-edits}, KeptRent.{all_charged-each, all_charged-total}}
use Rattle.{mg_laws.proofs.{KeptRent.{due-few, length-all_charged, rate_of-few}, Passed.unrefused}, mg_model.specs.Bank.{account_of, all_charged}}
use Rattle.mg_model.specs.{Bank.{balance_of, credited, opens, pages_of, rate_now, rent_accounts, rent_paid, debited}, BankCalls.balance}
use Rattle.mg_model.specs.{BankCalls.{open_account, pay, rent}, DrawnLemmas.drawn-IsWord, Limits.{account_limit, period_limit}, ObjectCalls.all_drawn}
use Rattle.mg_model.specs.{ObjectCalls.{drawn, next_password}, State.{Object, State}, WellFormed.{AreAccounts, AreObjects, IsAccount, IsWellFormed}}
use Rattle.{mg_model.specs.declared.accounts.AccRow.AccRow, std.proofs.Common.{◌≡◌, ℕ, ◌+◌, ◌*◌, ◌^◌, ◌<◌, ◌≤◌, ◌==◌, nat_le, nat_lt, ◌||◌, true}}
use Rattle.std.proofs.{Common.{false, not, List, [], ◌∷◌, ◌++◌, length, is_some, ap, arith}, lemmas.Bool.{eqb-false, leb-false, ltb-false, not-false}}
use Rattle.std.proofs.lemmas.{Bool.or_parts, List.{length_push, Elements.{All-push, All-weaker}, Sums.sum_by_push}}

-- objects stay as they are if there are as many accounts as before, or more
objects-more : (frames before after : ℕ) (objects : List Object) → before ≤ after → AreObjects frames before objects → AreObjects frames after objects
objects-more frames before after objects more formed = grind (arith, All-weaker)

-- other accounts
pub accounts-keep : (state : State) (accounts : List AccRow) → IsWellFormed state → AreAccounts state.settings.credits state.counters.period accounts → length state.accounts ≤ length accounts → IsWellFormed (record state { accounts = accounts })
accounts-keep state accounts formed are more = grind (arith, objects-more)

-- an account that a password opens is there
opens-some : (accounts : List AccRow) (number password : ℕ) → opens accounts number password ≡ true → is_some (account_of accounts number) ≡ true
opens-some accounts number password opened = ap is_some (opens-row accounts number password opened).1

pub balance-keeps : (state : State) (account password : ℕ) → IsWellFormed state → IsWellFormed (balance state account password).0
balance-keeps state account password formed = unless_refused-keeps _ state _ formed (λ _. formed)

paid-keeps : (state : State) (account to amount : ℕ) → IsWellFormed state → is_some (account_of state.accounts account) ≡ true → is_some (account_of state.accounts to) ≡ true → amount ≤ balance_of state.accounts account → IsWellFormed (record state { accounts = credited (debited state.accounts account amount) to amount })
paid-keeps state account to amount formed some there has =
    let edited = paid-edits state.counters.period state.accounts account to amount some there has formed.accounts.each in
    let long = edited.long in
    let sum = edited.sum in
    let before = formed.accounts.sum in
    let some_accounts = formed.accounts.some in
    let few = formed.accounts.few in
    accounts-keep state (credited (debited state.accounts account amount) to amount) formed (record { some = omega arith; few = omega arith; each = edited.each; sum = omega arith }) (omega arith)

pub pay-keeps : (state : State) (account password to amount : ℕ) → IsWellFormed state → IsWellFormed (pay state account password to amount).0
pay-keeps state account password to amount formed =
    unless_refused-keeps _ state _ formed (λ none.
    let closed = unrefused (not (opens state.accounts account password) || not (is_some (account_of state.accounts to))) _ _ none in
    let credit = unrefused (nat_lt (balance_of state.accounts account) amount) _ _ closed.1 in
    let parts = or_parts (not (opens state.accounts account password)) (not (is_some (account_of state.accounts to))) closed.0 in
    paid-keeps state account to amount formed
    (opens-some state.accounts account password (not-false (opens state.accounts account password) parts.0))
    (not-false (is_some (account_of state.accounts to)) parts.1)
    (ltb-false (balance_of state.accounts account) amount credit.0))

opened-keeps : (state : State) (account amount : ℕ) → IsWellFormed state → is_some (account_of state.accounts account) ≡ true → amount ≤ balance_of state.accounts account → length state.accounts < 1024 → all_drawn state ≡ false
    → IsWellFormed (record (drawn state) { accounts = debited state.accounts account amount ++ record { password = next_password state; balance = amount; owed = 0 } ∷ [] })
opened-keeps state account amount formed some has room left =
    let new : AccRow = record { password = next_password state; balance = amount; owed = 0 } in
    let rest = debited state.accounts account amount in
    let edited = debited-edits state.counters.period state.accounts account amount some has formed.accounts.each in
    let long = edited.long in
    let sum = edited.sum in
    let before = formed.accounts.sum in
    let count = length_push (debited state.accounts account amount) new in
    let balances = sum_by_push (λ (row : AccRow). row.balance) (debited state.accounts account amount) new in
    accounts-keep (drawn state) (rest ++ new ∷ []) (drawn-keeps state formed left)
    (record {
      some = omega arith;
      few = omega arith;
      each = All-push (IsAccount state.counters.period) rest new edited.each (record { password = drawn-IsWord state.settings.seed state.counters.draws; owed = omega arith });
      sum = omega arith;
    })
    (omega arith)

pub open_account-keeps : (state : State) (account password amount : ℕ) → IsWellFormed state → IsWellFormed (open_account state account password amount).0
open_account-keeps state account password amount formed =
    unless_refused-keeps _ state _ formed (λ none.
    let closed = unrefused (not (opens state.accounts account password)) _ _ none in
    let credit = unrefused (nat_lt (balance_of state.accounts account) amount) _ _ closed.1 in
    let limit = unrefused (nat_le account_limit (length state.accounts) || all_drawn state) _ _ credit.1 in
    let limits = or_parts (nat_le account_limit (length state.accounts)) (all_drawn state) limit.0 in
    opened-keeps state account amount formed
    (opens-some state.accounts account password (not-false (opens state.accounts account password) closed.0))
    (ltb-false (balance_of state.accounts account) amount credit.0)
    (leb-false account_limit (length state.accounts) limits.0)
    limits.1)

-- all accounts after a collection
rent-edits : (state : State) → IsWellFormed state → IsEdited (state.counters.period + 1) (all_charged state.objects (rate_now state) 1 state.accounts) (rent_accounts state) 0 (rent_paid state)
rent-edits state formed =
    let rate = rate_now state in
    let charged = all_charged state.objects (rate_now state) 1 state.accounts in
    let long = length-all_charged state.objects (rate_now state) 1 state.accounts in
    let some = formed.accounts.some in
    let fit = formed.objects.fit in
    let frames = frames-few state.settings formed.settings in
    let few : (number : ℕ) → rate_now state * pages_of state.objects number ≤ 2 ^ 36 = λ number. grind (arith, due-few, rate_of-few) in
    credited-edits (state.counters.period + 1) charged 1 (rent_paid state) (account_of-there charged 1 (omega arith) (omega arith))
    (all_charged-each state.objects rate state.counters.period few 1 state.accounts formed.accounts.each)

rented-keeps : (state : State) → IsWellFormed state → state.counters.period < period_limit → IsWellFormed (record state { counters = record state.counters { period = state.counters.period + 1 }; accounts = rent_accounts state })
rented-keeps state formed early = grind (arith, rent-edits, length-all_charged, all_charged-total, objects-more)

pub rent-keeps : (state : State) → IsWellFormed state → IsWellFormed (rent state).0
rent-keeps state formed =
    unless_refused-keeps _ state _ formed (λ none.
    let calendar = unrefused (state.counters.period == period_limit) _ _ none in
    let limit = formed.counters.period in
    rented-keeps state formed (below state.counters.period period_limit limit (eqb-false state.counters.period period_limit calendar.0)))
  where
    below : (period limit : ℕ) → period ≤ limit → (period ≡ limit → ⊥) → period < limit
    below period limit within differs = omega arith
