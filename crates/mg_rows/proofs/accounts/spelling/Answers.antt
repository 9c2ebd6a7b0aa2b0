use Rattle.{mg_model.specs.{Ranges.IsWord, Spelling.{account_bytes, account_read}}, mg_rows.proofs.Reading.account-back, std.proofs.Common.rules}
use Rattle.std.proofs.{Common.{◌≡◌, [], ◌∷◌, ap, ◌∙◌, arith}, lemmas.List.Elements.{All-head, All-tail}}
use Rattle.mg_rows.proofs.accounts.spelling.Goals as goal

pub returns-clause-read_back : goal.returns-clause-read_back
returns-clause-read_back c =
    let row = c.args.row.now in
    let is : c.whole.result ≡ account_bytes row = first_of (search rules, grind arith) in
    let from_1 = All-tail IsWord 1 (row.password ∷ row.balance ∷ row.owed ∷ []) c.add_words.ensures.fit in
    let from_2 = All-tail IsWord row.password (row.balance ∷ row.owed ∷ []) from_1 in
    let from_3 = All-tail IsWord row.balance (row.owed ∷ []) from_2 in
    ap account_read is
    ∙ account-back row (All-head IsWord row.password (row.balance ∷ row.owed ∷ []) from_1) (All-head IsWord row.balance (row.owed ∷ []) from_2) (All-head IsWord row.owed [] from_3)
