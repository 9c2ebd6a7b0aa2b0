use Rattle.mg_volume.{proofs.{AccountLists.{are_both, paid_within}, AccountsStaged.accounts_changes}, specs.Meaning.{accounts_in, now_of}}
use Rattle.{mg_volume.specs.contracts.volume.Volume.the_view, std.proofs.Common.{◌∙◌, ap, arith}}
use Rattle.mg_volume.proofs.volume.Volume.pay.Goals as goal

pub returns : goal.returns
unfolding accounts_in
returns c =
    let v = the_view c.self.inside in
    let said = c.in_ok-pay.ensures in
    let first = c.block_of-first.result in
    let second = c.block_of-second.result in
    let rows = c.pay.new.self.accounts in
    let was = c.self.invariant.kept.few_accounts in
    let count = said.count in
    let within = paid_within v.accounts rows c.args.from c.args.to c.args.credits first second said.accounts c.block_of-first.ensures.block c.block_of-second.ensures.block in
    let all = accounts_changes v c.stage_both.new.pages 2 (are_both first second) rows (rw c.rows.ensures at c.stage_both.ensures) within (omega arith) in
    rw (← c.self.view_is) (record { refusal = said.refusal; now = λ image. all.now image ∙ ap (λ rows. record (now_of v image) { accounts = rows }) said.accounts; rows = all.rows; stages = all.stages; objects = all.objects; stays = tt })
