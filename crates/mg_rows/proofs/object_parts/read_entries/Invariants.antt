use Rattle.{mg_model.specs.{Bytes.numbers_at, Tests.{all_distinct, is_entry_of}}, std.{proofs.Common.{◌≡◌, true}, specs.List.list_all}}
use Rattle.mg_rows.proofs.object_parts.read_entries.Given as goal

abbrev pub invariant-loop-k : goal.invariant-loop-k
invariant-loop-k l = record {
  value : l.row ≡ record l.initial.row { entries = numbers_at l.bytes 368 l.k };
  rule : list_all (is_entry_of l.initial.row.base l.initial.row.pages) (numbers_at l.bytes 368 l.k) ≡ true;
  distinct : all_distinct (numbers_at l.bytes 368 l.k) ≡ true;
}
