-- What the calls on accounts make of their rows, by their tests.
use Rattle.{mg_calls_bank.specs.Refusals.opening_refusal, mg_model.specs.{Abbreviations.unless_refused, Bank.{balance_of, credited, opens, owed_by}}}
use Rattle.mg_model.specs.{Bank.{pages_of, debited}, BankCalls.{balance, open_account, pay}, Limits.{account_limit, draw_limit}, ObjectCalls.drawn}
use Rattle.mg_model.specs.{ObjectCalls.next_password, Refused.{Answer, first_refusal}, State.{Counters, Object, ObjectRow, State}}
use Rattle.mg_model.specs.declared.{accounts.AccRow.AccRow, replies.{Refusal.{Refusal, TheVariants.{Account, Credit, Limit}}, Reply.Reply}}
use Rattle.{mg_model.specs.declared.replies.Reply.TheVariants.{Done, Funds, No, Opened}, mg_rent.specs.PaidLemmas.{paid-through, row_pages}}
use Rattle.{mg_volume.specs.{Held.VolumeHeld, Meaning.{accounts_in, now_of}, StateLemmas.{now_accounts, now_counters}}, std.proofs.Common.{sym, ap}}
use Rattle.std.{proofs.Common.◌∙◌, specs.Prelude.{◌≡◌, ◌+◌, ◌||◌, ◌++◌, ◌∷◌, [], ℕ, true, false, nat_le, nat_lt, not, cond, List, Option, None, Some}}
use Rattle.std.specs.Prelude.{length, map}
use Rattle.mg_bank.specs.Refusals as bank

-- the tests, of what they look at
abbrev opening_of : List AccRow → Counters → ℕ → ℕ → ℕ → Option Refusal
opening_of accounts counters account password amount =
    first_refusal (
    (not (opens accounts account password), Account)
    ∷ (nat_lt (balance_of accounts account) amount, Credit)
    ∷ (nat_le account_limit (length accounts) || nat_le draw_limit counters.draws, Limit)
    ∷ [])

-- what they do if none holds
abbrev pub opened_of : State → ℕ → ℕ → Answer
opened_of state account amount =
    (record (drawn state) { accounts = debited state.accounts account amount ++ record { password = next_password state; balance = amount; owed = 0 } ∷ [] }, Opened (length state.accounts + 1) (next_password state))

abbrev pub paid_of : State → ℕ → ℕ → ℕ → Answer
paid_of state account to amount = (record state { accounts = credited (debited state.accounts account amount) to amount }, Done)

pub account-is : (v : VolumeHeld) (image : List (List ℕ)) (account password amount : ℕ) (word : Option Refusal) → word ≡ opening_refusal v account password amount → open_account (now_of v image) account password amount ≡ unless_refused word (now_of v image) (opened_of (now_of v image) account amount)
account-is v image account password amount word is =
    let state = now_of v image in
    ap (λ r. unless_refused r state (opened_of state account amount))
    (ap (λ (a : List AccRow). opening_of a state.counters account password amount) (now_accounts v image) ∙ ap (λ (k : Counters). opening_of (accounts_in v) k account password amount) (now_counters v image) ∙ sym is)

pub pay-is : (v : VolumeHeld) (image : List (List ℕ)) (account password to amount : ℕ) (word : Option Refusal) → word ≡ bank.paying_refusal (accounts_in v) account password to amount → pay (now_of v image) account password to amount ≡ unless_refused word (now_of v image) (paid_of (now_of v image) account to amount)
pay-is v image account password to amount word is =
    let state = now_of v image in
    ap (λ r. unless_refused r state (paid_of state account to amount)) (ap (λ (a : List AccRow). bank.paying_refusal a account password to amount) (now_accounts v image) ∙ sym is)

-- a draw leaves the accounts
pub drawn-accounts : (old mid : VolumeHeld) → ((image : List (List ℕ)) → now_of mid image ≡ drawn (now_of old image)) → accounts_in mid ≡ accounts_in old
drawn-accounts old mid now = sym (now_accounts mid []) ∙ ap (λ (s : State). s.accounts) (now []) ∙ now_accounts old []

-- what is staged is the state after it
pub opened : (state mid new : State) (accounts : List AccRow) (account amount number fresh : ℕ) → accounts ≡ state.accounts → number ≡ length state.accounts + 1 → fresh ≡ next_password state → mid ≡ drawn state
    → new ≡ record mid { accounts = debited accounts account amount ++ record { password = fresh; balance = amount; owed = 0 } ∷ [] } → opened_of state account amount ≡ (new, Opened number fresh)
opened state mid new accounts account amount number fresh same count fresh_is mid_is new_is =
    ap (λ n. (record (drawn state) { accounts = debited state.accounts account amount ++ record { password = next_password state; balance = amount; owed = 0 } ∷ [] }, Opened n (next_password state))) (sym count)
    ∙ ap (λ f. (record (drawn state) { accounts = debited state.accounts account amount ++ record { password = f; balance = amount; owed = 0 } ∷ [] }, Opened number f)) (sym fresh_is)
    ∙ ap (λ (a : List AccRow). (record (drawn state) { accounts = debited a account amount ++ record { password = fresh; balance = amount; owed = 0 } ∷ [] }, Opened number fresh)) (sym same)
    ∙ ap (λ (s : State). (record s { accounts = debited accounts account amount ++ record { password = fresh; balance = amount; owed = 0 } ∷ [] }, Opened number fresh)) (sym mid_is)
    ∙ ap (λ (s : State). (s, Opened number fresh)) (sym new_is)

pub paid : (state new : State) (accounts : List AccRow) (account to amount : ℕ) → accounts ≡ state.accounts → new ≡ record state { accounts = credited (debited accounts account amount) to amount } → paid_of state account to amount ≡ (new, Done)
paid state new accounts account to amount same new_is =
    ap (λ (a : List AccRow). (record state { accounts = credited (debited a account amount) to amount }, Done)) (sym same) ∙ ap (λ (s : State). (s, Done)) (sym new_is)

-- what is known of an account that is opened
abbrev funds_of : State → ℕ → Answer
funds_of state account = (state, Funds (balance_of state.accounts account) (owed_by state.accounts account) (pages_of state.objects account))

pub balance-told : (state : State) (accounts : List AccRow) (rows : List ObjectRow) (account password : ℕ) (told : Reply) → state.accounts ≡ accounts → map (λ (object : Object). object.row) state.objects ≡ rows → opens accounts account password ≡ true
    → told ≡ Funds (balance_of accounts account) (owed_by accounts account) (row_pages rows account) → balance state account password ≡ (state, told)
balance-told state accounts rows account password told same same_rows opened is =
    ap (λ t. unless_refused (cond (not t) (Some Account) None) state (funds_of state account)) (ap (λ (a : List AccRow). opens a account password) same ∙ opened)
    ∙ ap (λ (a : List AccRow). (state, Funds (balance_of a account) (owed_by a account) (pages_of state.objects account))) same
    ∙ ap (λ p. (state, Funds (balance_of accounts account) (owed_by accounts account) p)) (paid-through (λ (object : Object). object.row) state.objects account ∙ ap (λ (r : List ObjectRow). row_pages r account) same_rows)
    ∙ ap (λ reply. (state, reply)) (sym is)

pub balance-closed : (state : State) (accounts : List AccRow) (account password : ℕ) → state.accounts ≡ accounts → opens accounts account password ≡ false → balance state account password ≡ (state, No Account)
balance-closed state accounts account password same closed =
    ap (λ t. unless_refused (cond (not t) (Some Account) None) state (funds_of state account)) (ap (λ (a : List AccRow). opens a account password) same ∙ closed)
