use Rattle.{mg_bank.specs.{AccountLemmas.{account_there, balance_of-row}, Bank.credits_of}, mg_model.specs.Abbreviations.with_account}
use Rattle.{mg_model.specs.{Bank.{account_of, balance_of}, declared.accounts.AccRow.AccRow}, std.proofs.Common.{◌≡◌, ◌≤◌, ◌+◌, ◌-◌, ℕ, true, List}}
use Rattle.std.proofs.{Common.{is_some, get_or, refl, arith}, lemmas.List.Sums.sum_by-set}
use Rattle.mg_bank.proofs.rows.take.Goals as goal

-- the row in its place with less
taken : (rows : List AccRow) (n amount : ℕ) (row : AccRow) → is_some (account_of rows n) ≡ true → amount ≤ balance_of rows n → get_or rows (n - 1) (record { password = 0; balance = 0; owed = 0 }) ≡ row → credits_of (with_account rows n (record row { balance = row.balance - amount })) + amount ≡ credits_of rows
taken rows n amount row there enough is =
    let found = account_there rows n there in
    let some = found.at.some in
    let within = found.at.within in
    let balance = balance_of-row rows n found.row found.is in
    let same : row.balance ≡ found.row.balance = cc (is, found.at.there (record { password = 0; balance = 0; owed = 0 })) in
    let old : (get_or rows (n - 1) (record { password = 0; balance = 0; owed = 0 })).balance ≡ row.balance = cc in
    omega (arith, sum_by-set (λ (r : AccRow). r.balance) rows (n - 1) (record row { balance = row.balance - amount }) (record { password = 0; balance = 0; owed = 0 }) (omega arith))

pub returns-clause-sum : goal.returns-clause-sum
returns-clause-sum c =
    taken c.args.rows.now c.args.account c.args.amount (get_or c.args.rows.now (c.args.account - 1) (record { password = 0; balance = 0; owed = 0 })) c.requires.there c.requires.enough refl
