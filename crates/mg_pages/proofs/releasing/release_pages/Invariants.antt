use Rattle.{mg_frames.specs.Words.unless_within, mg_pages.specs.{Held.with_writes, Parts.StagesTable}, std.proofs.Common.{◌≡◌, map}}
use Rattle.mg_pages.proofs.releasing.release_pages.Given as goal

-- the blocks of the frame table before this one are staged if they change, and nothing else is done
abbrev pub invariant-loop-k : goal.invariant-loop-k
invariant-loop-k l = record {
  staged : StagesTable l.fn.frames (map (unless_within l.first l.pages) l.fn.frames) l.k l.fn.blocks.writes l.blocks.writes;
  keeps : l.blocks ≡ with_writes l.fn.blocks l.blocks.writes;
}
