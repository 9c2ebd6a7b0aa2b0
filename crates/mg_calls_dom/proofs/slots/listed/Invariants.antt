use Rattle.mg_calls_dom.proofs.SlotCalls.{AreShownTo}
use Rattle.mg_calls_dom.proofs.slots.listed.Given as goal

-- the bases of the slots before this place are shown
abbrev pub invariant-loop-place : goal.invariant-loop-place
invariant-loop-place l = AreShownTo l.place l.slots l.bases
