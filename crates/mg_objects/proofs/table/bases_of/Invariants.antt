use Rattle.{mg_model.specs.Ranges.IsObjectRow, mg_objects.specs.Held.AreBases, std.proofs.Common.{All, None, slice_index_or, take}}
use Rattle.std.specs.Option.{ForSome}
use Rattle.mg_objects.proofs.table.bases_of.Given as goal

-- the bases of the places so far, whose rows keep their ranges
abbrev pub invariant-loop-place : goal.invariant-loop-place
invariant-loop-place l = record {
  bases : AreBases (λ k. slice_index_or (take l.place l.table) k None) l.bases.items;
  ranges : All (λ row. ForSome row IsObjectRow) (take l.place l.table);
}
