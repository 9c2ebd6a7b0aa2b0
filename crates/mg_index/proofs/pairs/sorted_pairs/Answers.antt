use Rattle.{mg_index.proofs.Listed.sorted-table, std.proofs.Common.{◌≤◌, ℕ, length, rules, subst, sym}}
use Rattle.std.{proofs.lemmas.List.Sorted.IsNonDecreasingBy-from_sort_by_key, specs.Vec.vec_capacity}
use Rattle.mg_index.proofs.pairs.sorted_pairs.Goals as goal

pub returns : goal.returns
returns c =
    let numbers = c.args.numbers.now in
    let pairs = c.list_pairs.new.pairs.items in
    let sorted = c.sort_unstable_by_key.new.self.items in
    let space = vec_capacity c.sort_unstable_by_key.new.self in
    let order = IsNonDecreasingBy-from_sort_by_key (λ (pair : ℕ × ℕ). pair.0) sorted c.sort_unstable_by_key.ensures.sorted (λ a r q k. search rules) in
    let P = λ (n : ℕ). length numbers ≤ n in
    sorted-table numbers pairs sorted space c.list_pairs.ensures.exact c.list_pairs.ensures.places c.list_pairs.ensures.numbers c.sort_unstable_by_key.ensures.permutation order (subst P (sym c.sort_unstable_by_key.ensures.capacity) c.list_pairs.ensures.has_capacity)
