use Rattle.{mg_volume.specs.StagesAccounts.StagesAccounts, std.specs.Prelude.nat_lt}
use Rattle.mg_volume.proofs.account_block.stage_first.Given as goal

abbrev pub invariant-loop-k : goal.invariant-loop-k
invariant-loop-k l = StagesAccounts l.k (λ k. nat_lt k l.k) l.rows l.initial.pages l.pages
