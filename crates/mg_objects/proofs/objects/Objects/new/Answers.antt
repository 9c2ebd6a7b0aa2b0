use Rattle.{mg_objects.proofs.Keys.held-none, std.proofs.Common.arith}
use Rattle.mg_objects.proofs.objects.Objects.new.Goals as goal

pub invariant_of-result : goal.invariant_of-result
invariant_of-result c = rw (c.in_ok-rows.ensures.items, c.in_ok-bases.ensures) (held-none _ (omega (arith, c.in_ok-rows.ensures.capacity)))
