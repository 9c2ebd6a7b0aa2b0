use Rattle.{mg_model.specs.Spelling.slots_at, std.proofs.Common.◌≡◌}
use Rattle.mg_rows.proofs.threads.add_slots_of.Given as goal

-- the slots so far are those of the bytes
abbrev pub invariant-loop-place : goal.invariant-loop-place
invariant-loop-place l = l.frame ≡ record l.initial.frame { slots = slots_at l.block l.at l.place }
