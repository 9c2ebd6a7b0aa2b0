use Rattle.{mg_check.specs.ReadRuns.AreRead, mg_migrate.specs.Lifted.lifted, mg_model.specs.Replay.replay, std.specs.Prelude.{length, option_map}}
use Rattle.mg_migrate.proofs.lifting.LiftingContents.read_blocks.Given as goal

abbrev pub invariant-loop-k : goal.invariant-loop-k
invariant-loop-k g l = AreRead g.D.Disk (λ image. option_map (lifted l.fn.self.settings) (replay image l.fn.self.placed.total)) l.first l.out l.k (length l.fn.out) l.fn.disk l.disk
