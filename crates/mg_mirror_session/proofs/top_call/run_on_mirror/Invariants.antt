use Rattle.mg_mirror_session.proofs.top_call.run_on_mirror.Given as goal
use Rattle.mg_mirror_session.specs.Ran.{out_left, out_right}

-- a disk that stands outside now stays as it is
abbrev pub ghosts-run_opened : goal.ghosts-run_opened
ghosts-run_opened g a =
    record { left_faults = g.O.Opened.left_faults; right_faults = g.O.Opened.right_faults; left_out = out_left a.mirror.alone a.mirror.left; right_out = out_right a.mirror.alone a.mirror.right }
