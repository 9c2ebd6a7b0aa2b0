use Rattle.{mg_model.specs.Bytes.padded_to, mg_rows.{proofs.AccountStarts.{AreRows, row_more, rows_padded}, specs.Blocks.account_in}}
use Rattle.std.proofs.Common.{◌+◌, ap, sym, subst, ◌∙◌, arith, rules}
use Rattle.mg_rows.proofs.accounts.accounts_start.Goals as goal

pub loop-j-preserved : goal.loop-j-preserved
loop-j-preserved c =
    subst (AreRows c.args.rows.now c.args.first (c.loop-j.j + 1)) (sym c.add.ensures.value)
    (row_more c.args.rows.now c.args.first c.loop-j.j c.loop-j.filling c.spelling.result _ c.loop-j.invariant (search rules) (omega (arith, c.loop-j-test)) c.spelling.ensures.read_back)

pub returns : goal.returns
returns c j low =
    ap (λ bytes. account_in (padded_to 4096 bytes) j) c.whole.ensures
    ∙ rows_padded c.args.rows.now c.args.first c.loop-j.j c.loop-j.filling c.loop-j.invariant (omega (arith, c.loop-j-test, c.requires.few)) (omega (arith, c.loop-j-test)) j low
