use Rattle.{mg_volume.{proofs.AccountsStaged.{next_staged, none_staged, staged_wider}, specs.StagesAccounts.StagesAccounts}, std.proofs.Common.◌≡◌}
use Rattle.std.{proofs.Common.{subst, arith}, specs.Prelude.nat_lt}
use Rattle.mg_volume.proofs.account_block.stage_first.Goals as goal

pub loop-k-init : goal.loop-k-init
loop-k-init c = none_staged c.args.pages.now c.args.rows.now

pub stage_accounts-requires-clause-fewer_than_160_staged : goal.stage_accounts-requires-clause-fewer_than_160_staged
stage_accounts-requires-clause-fewer_than_160_staged c =
    let more = c.loop-k.invariant.staged.staged in
    let few = c.requires.n_at_most_16 in
    let room = c.requires.at_most_144_staged in
    omega arith

pub loop-k-preserved : goal.loop-k-preserved
loop-k-preserved c =
    next_staged c.args.pages.now c.loop-k.pages c.stage_accounts.new.pages _ c.args.rows.now c.loop-k.invariant c.stage_accounts.ensures

pub returns : goal.returns
returns c =
    let all : c.loop-k.k ≡ c.args.count = omega (arith, c.loop-k-test, c.loop-k) in
    let few = c.requires.n_at_most_16 in
    subst (λ n. StagesAccounts 16 (λ k. nat_lt k n) c.args.rows.now c.args.pages.now c.loop-k.pages) all (staged_wider c.args.pages.now c.loop-k.pages c.loop-k.k 16 (λ k. nat_lt k c.loop-k.k) c.args.rows.now (omega arith) c.loop-k.invariant)
