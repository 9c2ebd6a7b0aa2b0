use Rattle.{mg_index.specs.ListLemmas.no-falls, std.proofs.{Common.rules, lemmas.Bool.{ltb-false, ltb-true}}}
use Rattle.std.{proofs.lemmas.List.Sorted.{IsPartitionPoint-from_clause, IsPartitionedBy-ltb}, specs.Prelude.{ℕ, nat_lt, slice_index_or}}
use Rattle.mg_index.proofs.pairs.count_below.Goals as goal

pub returns-clause-below : goal.returns-clause-below
returns-clause-below c =
    let pairs = c.args.pairs.now in
    let point =
    IsPartitionPoint-from_clause (λ (pair : ℕ × ℕ). nat_lt pair.0 c.args.number) pairs c.partition_point.result c.partition_point.ensures.partitioned
    (IsPartitionedBy-ltb (λ (pair : ℕ × ℕ). pair.0) pairs c.args.number (no-falls (λ (pair : ℕ × ℕ). pair.0) pairs c.requires)) (λ a r q k. search rules) in
    λ k d low high. ltb-true (slice_index_or pairs k d).0 c.args.number (point.0 k d low high)

pub returns-clause-above : goal.returns-clause-above
returns-clause-above c =
    let pairs = c.args.pairs.now in
    let point =
    IsPartitionPoint-from_clause (λ (pair : ℕ × ℕ). nat_lt pair.0 c.args.number) pairs c.partition_point.result c.partition_point.ensures.partitioned
    (IsPartitionedBy-ltb (λ (pair : ℕ × ℕ). pair.0) pairs c.args.number (no-falls (λ (pair : ℕ × ℕ). pair.0) pairs c.requires)) (λ a r q k. search rules) in
    λ k d low high. ltb-false (slice_index_or pairs k d).0 c.args.number (point.1 k d low high)
