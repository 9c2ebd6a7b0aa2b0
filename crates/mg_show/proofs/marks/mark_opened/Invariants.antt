use Rattle.{mg_model.specs.{Access.{holds, last_slots}, Rights.has_right, State.ThreadRow}, mg_show.specs.Marking.{Marks, named_by}}
use Rattle.std.proofs.Common.{ℕ, flat_map, take}
use Rattle.mg_show.proofs.marks.mark_opened.Given as goal

-- the present frames of the threads before this one have given their rights
abbrev pub invariant-loop-i : goal.invariant-loop-i
invariant-loop-i l =
    Marks has_right (holds l.shown.counters.period) l.shown.objects
    (flat_map (λ (t : ℕ × ThreadRow). named_by (last_slots t.1.frames)) (take l.i l.shown.threads.items)) l.initial.bytes l.bytes
