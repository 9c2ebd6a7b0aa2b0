use Rattle.{mg_volume.proofs.AccountsStaged.staged_then, std.proofs.Common.{◌==◌, ◌||◌, refl}}
use Rattle.mg_volume.proofs.account_block.stage_both.Goals as goal

pub returns : goal.returns
returns c =
    staged_then c.args.pages.now c.stage_accounts.new.pages c.stage_accounts-2.new.pages 1 1 (λ i. i == c.args.j) (λ i. i == c.args.k) (λ i. (i == c.args.j) || (i == c.args.k)) c.args.rows.now c.stage_accounts.ensures
    c.stage_accounts-2.ensures (λ i. refl)
