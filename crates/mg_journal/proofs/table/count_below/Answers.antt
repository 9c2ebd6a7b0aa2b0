use Rattle.{mg_journal.proofs.Tables.no-falls, std.proofs.{Common.rules, lemmas.Bool.{ltb-false, ltb-true}}}
use Rattle.std.{proofs.lemmas.List.Sorted.{IsPartitionPoint-from_clause, IsPartitionedBy-ltb}, specs.Prelude.{ℕ, nat_lt, slice_index_or}}
use Rattle.mg_journal.proofs.table.count_below.Goals as goal

pub returns-clause-below : goal.returns-clause-below
returns-clause-below c =
    let places = c.args.places.now in
    let point =
    IsPartitionPoint-from_clause (λ (place : ℕ × ℕ). nat_lt place.0 c.args.block) places c.partition_point.result c.partition_point.ensures.partitioned
    (IsPartitionedBy-ltb (λ (place : ℕ × ℕ). place.0) places c.args.block (no-falls places c.requires)) (λ a r q k. search rules) in
    λ k d low high. ltb-true (slice_index_or places k d).0 c.args.block (point.0 k d low high)

pub returns-clause-above : goal.returns-clause-above
returns-clause-above c =
    let places = c.args.places.now in
    let point =
    IsPartitionPoint-from_clause (λ (place : ℕ × ℕ). nat_lt place.0 c.args.block) places c.partition_point.result c.partition_point.ensures.partitioned
    (IsPartitionedBy-ltb (λ (place : ℕ × ℕ). place.0) places c.args.block (no-falls places c.requires)) (λ a r q k. search rules) in
    λ k d low high. ltb-false (slice_index_or places k d).0 c.args.block (point.1 k d low high)
