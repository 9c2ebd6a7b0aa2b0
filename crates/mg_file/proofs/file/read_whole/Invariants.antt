use Rattle.std.proofs.Common.{◌-◌, ◌≤◌, length}
use Rattle.mg_file.proofs.file.read_whole.Given as goal

-- no more than there is room for
abbrev pub invariant-loop-filled : goal.invariant-loop-filled
invariant-loop-filled g l = l.filled ≤ length l.fn.out

-- what is left of it
abbrev pub decreases-loop-filled : goal.decreases-loop-filled
decreases-loop-filled g l = length l.fn.out - l.filled
