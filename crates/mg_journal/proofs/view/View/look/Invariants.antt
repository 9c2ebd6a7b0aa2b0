use Rattle.{mg_disk.specs.Stops.{CountGoes, WritesNothing}, mg_journal.specs.{Newest.HasLast, Places.{IsPlace, places_since}}}
use Rattle.{mg_model.specs.Abbreviations.segments_fit, std.{proofs.Common.{◌≡◌, ◌≤◌, ◌*◌, All, length, true}, specs.Option.ForSome}}
use Rattle.mg_journal.proofs.view.View.look.Given as goal

-- the segments before this one fit, and the last of their bodies are in the table
abbrev pub invariant-loop-segment : goal.invariant-loop-segment
invariant-loop-segment g l = record {
  fits : ForSome (g.D.Disk.seen l.initial.disk) (λ image. segments_fit l.total image 0 l.segment ≡ true);
  newest : ForSome (g.D.Disk.seen l.initial.disk) (λ image. HasLast (places_since image 0 l.segment) l.table);
  fit : All (IsPlace l.total) l.table;
  few : length l.table ≤ 160 * l.segment;
  writes : WritesNothing g.D.Disk l.initial.disk l.disk;
  count : CountGoes g.D.Disk l.initial.disk l.disk;
  blocks : g.D.Disk.block_count l.disk ≡ g.D.Disk.block_count l.initial.disk;
}
