use Rattle.{mg_model.specs.{Spelling.{account_bytes, account_fields}, declared.accounts.AccRow.AccRow}, mg_rows.proofs.ThreadReads.row-other}
use Rattle.{mg_rows.proofs.ThreadReads.row-some, std.proofs.Common.{◌≡◌, Some, true, ap, sym, ◌∙◌}}
use Rattle.mg_rows.proofs.accounts.read_account.Goals as goal

pub returns-then-eq : goal.returns-then-eq
returns-then-eq c =
    let row : AccRow = record { password = c.number_at.result; balance = c.number_at-2.result; owed = c.number_at-3.result } in
    let same : row ≡ account_fields c.args.bytes.now = cc (c.number_at.ensures, c.number_at-2.ensures, c.number_at-3.ensures) in
    row-some account_fields (λ _. true) account_bytes c.args.bytes.now (sym c.are_zeros.ensures ∙ c.if-are_zeros.false) row (ap Some same) (rw c.spelling-spelled.ensures.spelled at (sym c.eq.ensures ∙ c.if-eq.true))

pub returns-else-eq : goal.returns-else-eq
returns-else-eq c =
    let row : AccRow = record { password = c.number_at.result; balance = c.number_at-2.result; owed = c.number_at-3.result } in
    let same : row ≡ account_fields c.args.bytes.now = cc (c.number_at.ensures, c.number_at-2.ensures, c.number_at-3.ensures) in
    row-other account_fields (λ _. true) account_bytes c.args.bytes.now (sym c.are_zeros.ensures ∙ c.if-are_zeros.false) row (ap Some same) (rw c.spelling-spelled.ensures.spelled at (sym c.eq.ensures ∙ c.if-eq.false))
