use Rattle.{mg_model.specs.{Access.holds, Rights.has_right}, mg_show.specs.Marking.{Marks, named_by}, std.proofs.Common.take}
use Rattle.mg_show.proofs.marks.mark.Given as goal

-- the capabilities before this one have given their rights
abbrev pub invariant-loop-slot : goal.invariant-loop-slot
invariant-loop-slot l =
    Marks has_right (holds l.shown.counters.period) l.shown.objects (named_by (take l.slot-index l.capabilities)) l.initial.bytes l.bytes
