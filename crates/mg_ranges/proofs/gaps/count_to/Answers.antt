use Rattle.{mg_ranges.proofs.Lists.no-falls, std.proofs.{Common.{ℕ, get_or, leb, rules}, lemmas.Bool.{leb-false, leb-true}}}
use Rattle.std.proofs.lemmas.List.Sorted.{IsPartitionPoint-from_clause, IsPartitionedBy-leb}
use Rattle.mg_ranges.proofs.gaps.count_to.Goals as goal

pub returns-clause-below : goal.returns-clause-below
returns-clause-below c =
    let gaps = c.args.gaps.now in
    let point =
    IsPartitionPoint-from_clause (λ (gap : ℕ × ℕ). leb gap.0 c.args.page) gaps c.partition_point.result c.partition_point.ensures.partitioned
    (IsPartitionedBy-leb (λ (gap : ℕ × ℕ). gap.0) gaps c.args.page (no-falls gaps c.requires)) (λ a r q k. search rules) in
    λ k d low high. leb-true (get_or gaps k d).0 c.args.page (point.0 k d low high)

pub returns-clause-above : goal.returns-clause-above
returns-clause-above c =
    let gaps = c.args.gaps.now in
    let point =
    IsPartitionPoint-from_clause (λ (gap : ℕ × ℕ). leb gap.0 c.args.page) gaps c.partition_point.result c.partition_point.ensures.partitioned
    (IsPartitionedBy-leb (λ (gap : ℕ × ℕ). gap.0) gaps c.args.page (no-falls gaps c.requires)) (λ a r q k. search rules) in
    λ k d low high. leb-false (get_or gaps k d).0 c.args.page (point.1 k d low high)
