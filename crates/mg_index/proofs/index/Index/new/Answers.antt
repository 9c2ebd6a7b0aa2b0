use Rattle.{mg_index.proofs.Bound.new-places, std.{proofs.Common.{◌≡◌, ◌≤◌, [], replicate, rules}, specs.Vec.vec_capacity}}
use Rattle.mg_index.proofs.index.Index.new.Goals as goal

pub invariant_of-result : goal.invariant_of-result
invariant_of-result c =
    let numbers : c.in_ok-numbers.numbers.items ≡ replicate c.args.places 0 = search rules in
    let pairs : c.in_ok-pairs.pairs.items ≡ [] = search rules in
    let room : c.args.places ≤ vec_capacity c.in_ok-pairs.pairs = search rules in
    rw (numbers, pairs) (new-places c.args.places (vec_capacity c.in_ok-pairs.pairs) c.requires room)
