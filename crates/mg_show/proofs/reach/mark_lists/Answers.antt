use Rattle.{mg_model.specs.{Access.pairs_under, declared.slots.Slot.Slot}, mg_show.proofs.Learning.{found_list, found_same, found_then}}
use Rattle.mg_show.specs.{Shown.state_shown, WritingLemmas.flat_more}
use Rattle.mg_show.proofs.reach.mark_lists.Goals as goal

pub loop-i-preserved : goal.loop-i-preserved
loop-i-preserved g c =
    let shown = c.args.shown.now in
    found_same g.D.Disk (λ r. flat_more
    (λ (slot : Slot). pairs_under (state_shown shown r).objects shown.counters.period slot) c.args.slots.now c.loop-i.i _
    c.loop-i-test.true)
    (found_then g.D.Disk c.loop-i.invariant
    (found_list g.D.Disk c.as_slice.result.now c.list_under-list.result c.as_slice.ensures.value c.list_under-list.ensures c.mark.ensures))
