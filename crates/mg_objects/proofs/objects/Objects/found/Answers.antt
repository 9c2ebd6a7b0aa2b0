use Rattle.{mg_model.specs.State.ObjectRow, mg_objects.proofs.Lists.find-any, std.proofs.Common.{◌==◌, ℕ}}
use Rattle.mg_objects.proofs.objects.Objects.found.Goals as goal

pub unreachable-requires : goal.unreachable-requires
unreachable-requires c = find-any (λ (o : ℕ × ObjectRow). o.1.base == c.args.base) c.args.self.now c.in-None.ensures c.requires
