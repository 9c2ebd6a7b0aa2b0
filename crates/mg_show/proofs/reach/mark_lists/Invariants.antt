use Rattle.{mg_model.specs.{Access.{capabilities, holds}, Rights.has_right}, mg_show.specs.{Marking.Finds, Shown.{held_in, state_shown}}}
use Rattle.std.proofs.Common.{take}
use Rattle.mg_show.proofs.reach.mark_lists.Given as goal

-- the slots before this one have given their rights
abbrev pub invariant-loop-i : goal.invariant-loop-i
invariant-loop-i g l =
    Finds g.D.Disk (held_in l.shown) has_right (holds l.shown.counters.period) l.shown.objects
    (λ r. capabilities (state_shown l.shown r).objects l.shown.counters.period (take l.i l.slots)) l.initial.disk l.disk l.initial.bytes
    l.bytes l.initial.out l.out
