use Rattle.std.specs.Prelude.{None}
use Rattle.mg_mirror_session.proofs.top_call.top_mirror.Given as goal

-- opening begins as the call does
abbrev pub ghosts-run_on_mirror : goal.ghosts-run_on_mirror
ghosts-run_on_mirror g a = record { left_faults = g.D.Disk.faults a.left; right_faults = g.E.Disk.faults a.right; left_out = None; right_out = None }
