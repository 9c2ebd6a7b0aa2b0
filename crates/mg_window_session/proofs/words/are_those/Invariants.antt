use Rattle.{mg_window.specs.Attached.seen, mg_window_session.specs.Commands.are_those, std.proofs.Common.{length, drop, ◌-◌, ◌≡◌, ◌≤◌}}
use Rattle.mg_window_session.proofs.words.are_those.Given as goal

abbrev pub invariant-loop-i : goal.invariant-loop-i
invariant-loop-i g l =
    (l.i ≤ length l.asked) × (are_those (drop l.i (seen g.T.Device.held l.windows)) (drop l.i l.asked) ≡ are_those (seen g.T.Device.held l.windows) l.asked)

abbrev pub decreases-loop-i : goal.decreases-loop-i
decreases-loop-i g l = length l.asked - l.i
