-- What `rent` makes of its row.
use Rattle.mg_model.specs.{Abbreviations.unless_refused, Bank.{rate_now, rent_accounts, rent_paid}, BankCalls.rent, Limits.period_limit}
use Rattle.mg_model.specs.{Refused.Answer, State.{Counters, State}, WellFormed.{IsAccount, IsWellFormed}, declared.accounts.AccRow.AccRow}
use Rattle.{mg_model.specs.declared.replies.{Refusal.TheVariants.Calendar, Reply.TheVariants.{Collected, No}}, mg_rent.specs.Charging.OweAtMost}
use Rattle.mg_volume.specs.{Held.VolumeHeld, Meaning.{accounts_in, counters_in, now_of}, StateLemmas.{now_accounts, now_counters}}
use Rattle.std.{proofs.{Common.{sym, ap, subst, ◌∙◌, arith}, lemmas.List.Elements.All-weaker}, specs.Prelude.{◌≡◌, ◌≤◌, ◌+◌, ◌^◌, ◌==◌, ℕ, true}}
use Rattle.std.specs.Prelude.{false, cond, List, [], None, Some}

-- what it does before the last period
abbrev rented_of : State → Answer
rented_of state =
    (record state { counters = record state.counters { period = state.counters.period + 1 }; accounts = rent_accounts state }, Collected (state.counters.period + 1) (rate_now state) (rent_paid state))

pub rent-last : (state : State) (period : ℕ) → period ≡ state.counters.period → (period == period_limit) ≡ true → rent state ≡ (state, No Calendar)
rent-last state period is last = ap (λ t. unless_refused (cond t (Some Calendar) None) state (rented_of state)) (ap (λ p. p == period_limit) (sym is) ∙ last)

-- in a state that is well formed no account owes so much that a sum of its rent is no word
pub few-owed : (v : VolumeHeld) (image : List (List ℕ)) → IsWellFormed (now_of v image) → OweAtMost (2 ^ 60) (accounts_in v)
few-owed v image formed =
    let state = now_of v image in
    subst (OweAtMost (2 ^ 60)) (now_accounts v image)
    (All-weaker (IsAccount state.counters.period) (λ (row : AccRow). row.owed ≤ 2 ^ 60) (λ row is. let owed = is.owed in let last = formed.counters.period in omega arith) state.accounts formed.accounts.each)

-- a collection leaves the counters
pub same-counters : (old mid : VolumeHeld) → ((image : List (List ℕ)) → now_of mid image ≡ record (now_of old image) { accounts = accounts_in mid }) → counters_in mid ≡ counters_in old
same-counters old mid now = sym (now_counters mid []) ∙ ap (λ (s : State). s.counters) (now []) ∙ now_counters old []

-- the state after both
pub rented-now : (old mid new : State) (before between : Counters) (accounts : List AccRow) (next : ℕ) → mid ≡ record old { accounts = accounts } → accounts ≡ rent_accounts old → between ≡ before → next ≡ before.period + 1
    → new ≡ record mid { counters = record between { period = next } } → new ≡ record old { counters = record before { period = before.period + 1 }; accounts = rent_accounts old }
rented-now old mid new before between accounts next mid_is rented same next_is new_is =
    new_is
    ∙ ap (λ (s : State). record s { counters = record between { period = next } }) mid_is
    ∙ ap (λ (l : List AccRow). record old { counters = record between { period = next }; accounts = l }) rented
    ∙ ap (λ (k : Counters). record old { counters = record k { period = next }; accounts = rent_accounts old }) same
    ∙ ap (λ n. record old { counters = record before { period = n }; accounts = rent_accounts old }) next_is

pub rent-done : (state new : State) (counters : Counters) (period rate paid : ℕ) → counters ≡ state.counters → period ≡ counters.period → (period == period_limit) ≡ false → rate ≡ rate_now state → paid ≡ rent_paid state
    → new ≡ record state { counters = record counters { period = counters.period + 1 }; accounts = rent_accounts state } → rent state ≡ (new, Collected (period + 1) rate paid)
rent-done state new counters period rate paid same is early rate_is paid_is new_is =
    ap (λ t. unless_refused (cond t (Some Calendar) None) state (rented_of state)) (ap (λ (k : Counters). k.period == period_limit) (sym same) ∙ ap (λ p. p == period_limit) (sym is) ∙ early)
    ∙ ap (λ (k : Counters). (record state { counters = record k { period = k.period + 1 }; accounts = rent_accounts state }, Collected (k.period + 1) (rate_now state) (rent_paid state))) (sym same)
    ∙ ap (λ p. (record state { counters = record counters { period = counters.period + 1 }; accounts = rent_accounts state }, Collected (p + 1) (rate_now state) (rent_paid state))) (sym is)
    ∙ ap (λ r. (record state { counters = record counters { period = counters.period + 1 }; accounts = rent_accounts state }, Collected (period + 1) r (rent_paid state))) (sym rate_is)
    ∙ ap (λ p. (record state { counters = record counters { period = counters.period + 1 }; accounts = rent_accounts state }, Collected (period + 1) rate p)) (sym paid_is)
    ∙ ap (λ (s : State). (s, Collected (period + 1) rate paid)) (sym new_is)
