use Rattle.{mg_window.specs.Attached.seen, mg_window_session.specs.Headline.device_lines, std.proofs.Common.{drop, ◌-◌, ◌*◌, ◌++◌, ◌≡◌, ◌≤◌, length}}
use Rattle.mg_window_session.proofs.device_lines.device_text.Given as goal

abbrev pub invariant-loop-i : goal.invariant-loop-i
invariant-loop-i g l = record {
  all : l.count ≡ length l.windows;
  few : l.count ≤ 16;
  within : l.i ≤ l.count;
  short : length l.text.items ≤ 72 * l.i;
  rest : l.text.items ++ device_lines (drop l.i (seen g.T.Device.held l.windows)) ≡ device_lines (seen g.T.Device.held l.windows);
}

abbrev pub decreases-loop-i : goal.decreases-loop-i
decreases-loop-i g l = l.count - l.i
