use Rattle.{mg_vcache.proofs.Dropped.none_marked, std.proofs.Common.rules}
use Rattle.mg_vcache.proofs.cache.VCache.new.Goals as goal

pub invariant_of-result : goal.invariant_of-result
invariant_of-result c = (search rules, search rules, none_marked c.in_ok-seats.seats.items c.in_ok-marks.marks.items (search rules))
