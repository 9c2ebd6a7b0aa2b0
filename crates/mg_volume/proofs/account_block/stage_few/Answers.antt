use Rattle.{mg_model.specs.Bytes.padded_to, mg_volume.proofs.AccountsStaged.one_staged}
use Rattle.mg_volume.proofs.account_block.stage_few.Goals as goal

pub returns : goal.returns
returns c =
    let said = c.stage_start.ensures in
    one_staged c.args.pages.now c.stage_start.new.self c.args.rows.now c.args.k (padded_to 4096 c.accounts_start-start.result) c.requires.block c.accounts_start-start.ensures
    (record { coming = said.coming; table = said.table; shape = said.shape; staged = said.staged; here = said.here; words = said.words; spelled = said.spelled })
