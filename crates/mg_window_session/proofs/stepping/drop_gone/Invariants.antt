use Rattle.{mg_disk.specs.Disk.Image, mg_kernel.specs.Meaning.now_of, mg_window.specs.Attached.seen, mg_window_session.specs.Stepping.dropped}
use Rattle.std.proofs.Common.{drop, ◌≡◌}
use Rattle.mg_window_session.proofs.stepping.drop_gone.Given as goal

abbrev pub invariant-loop-base : goal.invariant-loop-base
invariant-loop-base g l = (image : Image)
    → dropped (now_of l.kernel image) (drop l.base-index l.bases) (seen g.T.Device.held l.windows) ≡ dropped (now_of l.kernel image) l.bases (seen g.T.Device.held l.initial.windows)
