use Rattle.mg_volume.proofs.AccountsStaged.{one_staged}
use Rattle.mg_volume.proofs.account_block.stage_many.Goals as goal

pub returns : goal.returns
returns c =
    let said = c.stage.ensures in
    one_staged c.args.pages.now c.stage.new.self c.args.rows.now c.args.k c.account_block-block.result c.requires.block c.account_block-block.ensures
    (record { coming = said.coming; table = said.table; shape = said.shape; staged = said.staged; here = said.here; words = said.words; spelled = said.spelled })
