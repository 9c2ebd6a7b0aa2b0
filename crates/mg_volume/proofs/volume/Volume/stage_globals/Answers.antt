use Rattle.std.proofs.Common.{refl}
use Rattle.mg_volume.proofs.volume.Volume.stage_globals.Goals as goal

pub returns-then-not-put_counters : goal.returns-then-not-put_counters
returns-then-not-put_counters c = rw (c.if-not-put_counters.ensures.not_staged refl) at c.spell_counters.ensures

pub returns-else-not-put_counters : goal.returns-else-not-put_counters
returns-else-not-put_counters c =
    let put = c.if-not-put_counters.ensures in
    record { now = put.now refl; rows = put.rows refl; stages = put.stages refl; objects = put.objects refl; here = put.here refl }
