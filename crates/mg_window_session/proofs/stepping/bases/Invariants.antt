use Rattle.{mg_disk.specs.Disk.Image, mg_kernel.specs.Meaning.now_of, mg_window.specs.Attached.seen, mg_window_session.specs.Stepping.bases_of}
use Rattle.std.proofs.Common.{drop, ◌-◌, ◌++◌, ◌≡◌, ◌≤◌, length}
use Rattle.mg_window_session.proofs.stepping.bases.Given as goal

abbrev pub invariant-loop-i : goal.invariant-loop-i
invariant-loop-i g l = record {
  within : l.i ≤ length l.windows;
  few : length l.windows ≤ 16;
  count : length l.bases.items ≤ l.i;
  rest : (image : Image) → l.bases.items ++ bases_of (now_of l.kernel image) (drop l.i (seen g.T.Device.held l.windows)) ≡ bases_of (now_of l.kernel image) (seen g.T.Device.held l.windows);
}

abbrev pub decreases-loop-i : goal.decreases-loop-i
decreases-loop-i g l = length l.windows - l.i
