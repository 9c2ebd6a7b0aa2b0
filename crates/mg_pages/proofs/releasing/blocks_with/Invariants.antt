use Rattle.{mg_frames.specs.Words.is_within, std.proofs.Common.{◌≡◌, ◌<◌, ◌/◌, ℕ, false, true, get_or, slice_index_or}}
use Rattle.mg_pages.proofs.releasing.blocks_with.Given as goal

-- the blocks of the frames up to this one
abbrev pub invariant-loop-i : goal.invariant-loop-i
invariant-loop-i l = (k : ℕ) → k < l.i → slice_index_or l.found (k / 512) true ≡ false → is_within l.first l.pages (get_or l.frames k 0) ≡ false
