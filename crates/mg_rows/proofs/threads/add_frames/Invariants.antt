use Rattle.{mg_model.specs.Spelling.frame_bytes, std.proofs.Common.{◌≡◌, ◌+◌, ◌*◌, ◌++◌, flat_map, length, take}}
use Rattle.mg_rows.proofs.threads.add_frames.Given as goal

-- the frames so far are there
abbrev pub invariant-loop-frame : goal.invariant-loop-frame
invariant-loop-frame g l = record {
  value : l.filling ≡ l.initial.filling ++ flat_map frame_bytes (take l.frame-index l.frames);
  long : length l.filling ≡ length l.initial.filling + 144 * l.frame-index;
}
