use Rattle.{mg_disk.specs.Disk.{Image, block_at}, mg_journal.specs.{Newest.TakesIn, Places.{IsPlace, places_from}}}
use Rattle.{mg_model.specs.Layout.segment_index, std.proofs.Common.{◌≡◌, ◌≤◌, ◌+◌, All, length}}
use Rattle.mg_journal.proofs.reading.add_bodies.Given as goal

-- the places of the bodies so far are in the table, and each is one
abbrev pub invariant-loop-k : goal.invariant-loop-k
invariant-loop-k l = record {
  newest : (image : Image) → block_at image (segment_index l.segment) ≡ l.index → TakesIn (places_from image l.segment 0 l.k) l.fn.table l.table;
  places : (image : Image) → block_at image (segment_index l.segment) ≡ l.index → All (IsPlace l.total) (places_from image l.segment 0 l.k);
  fit : All (IsPlace l.total) l.fn.table → All (IsPlace l.total) l.table;
  few : length l.table ≤ length l.fn.table + l.k;
}
