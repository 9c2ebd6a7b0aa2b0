use Rattle.{mg_rules.proofs.Covered.{begins_rise, last_decides, none_before, within-there}, std.proofs.Common.{rules, sym, ap, ◌∙◌, arith}}
use Rattle.std.{proofs.lemmas.{Bool.{le-ltb, lt-ltb}, List.Sorted.{IsPartitionPoint-from_clause, IsPartitionedBy-leb}}, specs.Prelude.{ℕ, nat_le}}
use Rattle.std.specs.Prelude.{nat_lt, ◌-◌, slice_index_or}
use Rattle.mg_rules.proofs.sorted.run_of.Goals as goal

pub returns-then-place-eq0 : goal.returns-then-place-eq0
returns-then-place-eq0 c =
    let spans = c.args.spans.now in
    let n = c.args.number in
    let place = c.partition_point-place.result in
    let point =
    IsPartitionPoint-from_clause (λ (span : ℕ × ℕ). nat_le span.0 n) spans place c.partition_point-place.ensures.partitioned
    (IsPartitionedBy-leb (λ (span : ℕ × ℕ). span.0) spans n (begins_rise spans c.requires.no_empty_span c.requires.apart)) (λ a r q k. search rules) in
    let none = c.if-place-eq0.true in
    sym (none_before spans c.requires.no_empty_span c.requires.apart n place c.partition_point-place.ensures.bound point (omega arith)) ∙ ap (nat_lt 0) none

pub returns-then-number-run : goal.returns-then-number-run
returns-then-number-run c =
    let spans = c.args.spans.now in
    let n = c.args.number in
    let place = c.partition_point-place.result in
    let point =
    IsPartitionPoint-from_clause (λ (span : ℕ × ℕ). nat_le span.0 n) spans place c.partition_point-place.ensures.partitioned
    (IsPartitionedBy-leb (λ (span : ℕ × ℕ). span.0) spans n (begins_rise spans c.requires.no_empty_span c.requires.apart)) (λ a r q k. search rules) in
    let some = c.if-place-eq0.false in
    let bound = c.partition_point-place.ensures.bound in (
      sym (last_decides spans c.requires.no_empty_span c.requires.apart n place bound point (0, 0) (omega arith)) ∙ lt-ltb n (slice_index_or spans (place - 1) (0, 0)).1 c.if-number-run.true,
      within-there spans (place - 1) (0, 0) (omega arith),
    )

pub returns-else-number-run : goal.returns-else-number-run
returns-else-number-run c =
    let spans = c.args.spans.now in
    let n = c.args.number in
    let place = c.partition_point-place.result in
    let point =
    IsPartitionPoint-from_clause (λ (span : ℕ × ℕ). nat_le span.0 n) spans place c.partition_point-place.ensures.partitioned
    (IsPartitionedBy-leb (λ (span : ℕ × ℕ). span.0) spans n (begins_rise spans c.requires.no_empty_span c.requires.apart)) (λ a r q k. search rules) in
    let some = c.if-place-eq0.false in
    sym (last_decides spans c.requires.no_empty_span c.requires.apart n place c.partition_point-place.ensures.bound point (0, 0) (omega arith)) ∙ le-ltb n (slice_index_or spans (place - 1) (0, 0)).1 c.if-number-run.false
