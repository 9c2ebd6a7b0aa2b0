use Rattle.mg_apd.proofs.Kept.{IsKeptTo}
use Rattle.mg_apd.proofs.entering.frame_kept.Given as goal

-- the slots before this place are done
abbrev pub invariant-loop-place : goal.invariant-loop-place
invariant-loop-place l = IsKeptTo l.mask l.back l.place l.slots l.frame
