use Rattle.{mg_model.specs.Abbreviations.{frames_at, is_call_frame}, mg_rows.specs.ThreadParts.with_frames, std.proofs.Common.{◌≡◌, true}}
use Rattle.std.specs.List.{list_all}
use Rattle.mg_rows.proofs.threads.with_frames.Given as goal

-- the frames so far are those of the bytes, and each keeps its rule
abbrev pub invariant-loop-place : goal.invariant-loop-place
invariant-loop-place l = record {
  row : l.row ≡ with_frames l.block l.place;
  kept : list_all is_call_frame (frames_at l.block 128 l.place) ≡ true;
}
