use Rattle.{mg_index.{proofs.Bound.{has-room, put-places}, specs.Pairs.IsIndexed}, std.proofs.Common.{◌≡◌, ◌==◌, ◌≤◌, ◌<◌, ◌∙◌, ℕ, List, ap, arith}}
use Rattle.std.{proofs.Common.{length, insert, if◌then◌else◌, slice_set, is_ok, subst, slice_index, sym, false, true, rules}, specs.List.AllWithin}
use Rattle.std.specs.{List.list_any, Vec.{vec_capacity, vec_len}}
use Rattle.mg_index.proofs.index.Index.put.Goals as goal

pub invariant_of-self : goal.invariant_of-self
invariant_of-self c =
    let numbers = c.self.inside.numbers.items in
    let pairs = c.self.inside.pairs.items in
    let place = c.args.place in
    let number = c.args.number in
    let low = c.self.inside.low in
    let i = c.count_below-at.result in
    let is : numbers ≡ c.args.self.now = c.self.view_is in
    let value = c.deref.ensures.value in
    let under : place < length numbers = omega (arith, ap length is, c.requires.place) in
    let free : slice_index numbers place ≡ 0 = ap (λ (xs : List ℕ). slice_index xs place) is ∙ c.requires.free in
    let none : list_any (λ entry. entry == number) numbers ≡ false = ap (list_any (λ entry. entry == number)) is ∙ c.requires.unbound in
    let before : AllWithin (λ (pair : ℕ × ℕ). pair.0 < number) pairs 0 i = let P = λ (xs : List (ℕ × ℕ)). AllWithin (λ (pair : ℕ × ℕ). pair.0 < number) xs 0 i in subst P value c.count_below-at.ensures.below in
    let behind : AllWithin (λ (pair : ℕ × ℕ). number ≤ pair.0) pairs i (length pairs) =
    let P = λ (xs : List (ℕ × ℕ)). AllWithin (λ (pair : ℕ × ℕ). number ≤ pair.0) xs i (length xs) in subst P value c.count_below-at.ensures.above in
    let within : i ≤ length pairs = omega (arith, ap length value, c.count_below-at.ensures.within) in
    let room : vec_len c.self.inside.pairs < vec_capacity c.self.inside.pairs = omega (arith, c.self.inside.pairs.ok.0, has-room numbers pairs (vec_capacity c.self.inside.pairs) low place c.self.invariant under free) in
    let done : is_ok c.insert.result ≡ true = search (rules, c.insert.ensures.succeeds room) in
    let items : c.insert.new.self.items ≡ insert pairs i (number, place) = c.insert.ensures.items ∙ ap (λ t. if t then insert pairs i (number, place) else pairs) done in
    let P = λ (xs : List (ℕ × ℕ)). IsIndexed (slice_set numbers place number) xs (vec_capacity c.insert.new.self) low in
    subst P (sym items)
    (put-places numbers pairs (vec_capacity c.self.inside.pairs) (vec_capacity c.insert.new.self) low place number i c.self.invariant c.insert.ensures.capacity within before behind under c.requires.number free none)
