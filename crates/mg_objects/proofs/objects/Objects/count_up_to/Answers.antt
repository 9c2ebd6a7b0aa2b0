use Rattle.{mg_index.specs.ListLemmas.no-falls, mg_objects.{proofs.Apart.bases-within, specs.Held.key_of}, std.proofs.Common.{◌≤◌, ◌<◌, ℕ, ap, arith}}
use Rattle.std.proofs.{Common.{get_or, leb, length, rules}, lemmas.{Bool.{leb-false, leb-true}, List.length-map}}
use Rattle.std.proofs.lemmas.List.Sorted.{IsPartitionPoint-from_clause, IsPartitionedBy-leb}
use Rattle.mg_objects.proofs.objects.Objects.count_up_to.Goals as goal

pub returns-clause-below : goal.returns-clause-below
returns-clause-below c =
    let pairs = c.keys.result.now in
    let point =
    IsPartitionPoint-from_clause (λ (pair : ℕ × ℕ). leb pair.0 c.args.address) pairs c.partition_point.result c.partition_point.ensures.partitioned
    (IsPartitionedBy-leb (λ (pair : ℕ × ℕ). pair.0) pairs c.args.address (no-falls (λ (pair : ℕ × ℕ). pair.0) pairs c.keys.ensures.ascending)) (λ a r q k. search rules) in
    bases-within (λ base. base ≤ c.args.address) c.args.self.now pairs 0 c.partition_point.result c.keys.ensures.keys (λ k d low high. leb-true (get_or pairs k d).0 c.args.address (point.0 k d low high))

pub returns-clause-above : goal.returns-clause-above
returns-clause-above c =
    let pairs = c.keys.result.now in
    let long = ap length c.keys.ensures.keys in
    let same = length-map c.args.self.now key_of in
    let point =
    IsPartitionPoint-from_clause (λ (pair : ℕ × ℕ). leb pair.0 c.args.address) pairs c.partition_point.result c.partition_point.ensures.partitioned
    (IsPartitionedBy-leb (λ (pair : ℕ × ℕ). pair.0) pairs c.args.address (no-falls (λ (pair : ℕ × ℕ). pair.0) pairs c.keys.ensures.ascending)) (λ a r q k. search rules) in
    bases-within (λ base. c.args.address < base) c.args.self.now pairs c.partition_point.result (length c.args.self.now) c.keys.ensures.keys
    (λ k d low high. leb-false (get_or pairs k d).0 c.args.address (point.1 k d low (omega arith)))
