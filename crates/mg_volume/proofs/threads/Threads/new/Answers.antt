use Rattle.mg_volume.proofs.{ByNumber.none_is, ThreadSearch.none_listed}
use Rattle.mg_volume.proofs.threads.Threads.new.Goals as goal

pub invariant_of-result : goal.invariant_of-result
invariant_of-result c = none_listed c.in_ok-rows.rows.items c.in_ok-taken.taken.items c.in_ok-ready.ready.items c.in_ok-rows.ensures c.in_ok-taken.ensures c.in_ok-ready.ensures

pub returns : goal.returns
returns c = none_is c.in_ok-rows.rows.items c.in_ok-rows.ensures
