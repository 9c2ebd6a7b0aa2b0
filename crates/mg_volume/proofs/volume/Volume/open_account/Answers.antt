use Rattle.mg_volume.{proofs.{AccountLists.{are_both, opened_within}, AccountsStaged.accounts_changes}, specs.Meaning.{accounts_in, now_of}}
use Rattle.{mg_volume.specs.contracts.volume.Volume.the_view, std.proofs.Common.{◌∙◌, ap, arith}}
use Rattle.mg_volume.proofs.volume.Volume.open_account.Goals as goal

pub returns : goal.returns
unfolding accounts_in
returns c =
    let v = the_view c.self.inside in
    let said = c.in_ok-number.ensures in
    let first = c.block_of-first.result in
    let last = c.block_of-last.result in
    let rows = c.open_account.new.self.accounts in
    let few = said.may.few in
    let count = said.count in
    let number = said.number in
    let place = c.block_of-last.ensures.block in
    let within = opened_within v.accounts rows c.args.account c.args.credits (record { password = c.args.fresh; balance = c.args.credits; owed = 0 }) first last said.accounts c.block_of-first.ensures.block (omega arith) in
    let all = accounts_changes v c.stage_both.new.pages 2 (are_both first last) rows (rw c.rows.ensures at c.stage_both.ensures) within (omega arith) in
    rw (← c.self.view_is) (record { refusal = said.refusal; number = said.number; now = λ image. all.now image ∙ ap (λ rows. record (now_of v image) { accounts = rows }) said.accounts; rows = all.rows; stages = all.stages; objects = all.objects; stays = tt })
