use Rattle.mg_index.{proofs.{Lists.all_over, Released.{length-freed, part_bound, released, released-places}}, specs.Pairs.{IsPart, freed}}
use Rattle.{mg_index.specs.Words.unless_within, std.proofs.Common.{◌≡◌, ◌≤◌, ◌<◌, ◌∙◌, ◌++◌, ℕ, All, List, ap, arith, drop, get_or, length, map}}
use Rattle.std.{proofs.Common.{subst, sym, take}, specs.{List.{between, remove_range}, Vec.vec_capacity}}
use Rattle.mg_index.proofs.index.Index.release_range.Goals as goal

pub free_places-self-inside-requires : goal.free_places-self-inside-requires
free_places-self-inside-requires c =
    let numbers = c.self.inside.numbers.items in
    let pairs = c.self.inside.pairs.items in
    let from = c.part_of-from.result.0 in
    let to = c.part_of-from.result.1 in
    let part : IsPart pairs c.args.first c.args.count from to = let P = λ (xs : List (ℕ × ℕ)). IsPart xs c.args.first c.args.count from to in subst P c.deref.ensures.value c.part_of-from.ensures in
    let bound = part_bound numbers pairs c.self.invariant.ascends c.self.invariant.exact c.args.first c.args.count from to part in
    let P = λ (xs : List (ℕ × ℕ)). (k : ℕ) → (d : ℕ × ℕ) → k < length (between from to xs) → (get_or (between from to xs) k d).1 < length c.deref_mut.result.now in
    subst P (sym c.deref-2.ensures.value) (λ k d under. let b = (bound k d under).1 in omega (arith, ap length c.deref_mut.ensures.value))

pub invariant_of-self : goal.invariant_of-self
invariant_of-self c =
    let numbers = c.self.inside.numbers.items in
    let pairs = c.self.inside.pairs.items in
    let first = c.args.first in
    let count = c.args.count in
    let from = c.part_of-from.result.0 in
    let to = c.part_of-from.result.1 in
    let space = vec_capacity c.self.inside.pairs in
    let new_low = c.free_places-self-inside.result in
    let part : IsPart pairs first count from to = let P = λ (xs : List (ℕ × ℕ)). IsPart xs first count from to in subst P c.deref.ensures.value c.part_of-from.ensures in
    let new : c.free_places-self-inside.new.numbers ≡ freed numbers (between from to pairs) =
    c.free_places-self-inside.ensures.freed ∙ ap (λ (xs : List ℕ). freed xs (between from to c.deref-2.result.now)) c.deref_mut.ensures.value ∙ ap (λ (ps : List (ℕ × ℕ)). freed numbers (between from to ps)) c.deref-2.ensures.value in
    let long : length numbers ≡ c.self.inside.numbers.len = sym (ap length c.deref_mut.ensures.value) ∙ c.deref_mut.ensures.len in
    let all : take c.self.inside.numbers.len (c.free_places-self-inside.new.numbers ++ drop (length c.free_places-self-inside.new.numbers) numbers) ≡ map (unless_within first count) numbers =
    all_over c.self.inside.numbers.len c.free_places-self-inside.new.numbers numbers (ap length new ∙ length-freed numbers (between from to pairs) ∙ long) long
    ∙ new
    ∙ released numbers pairs c.self.invariant.ascends c.self.invariant.exact first count from to part in
    let lowest : All (λ (pair : ℕ × ℕ). new_low ≤ pair.1) (between from to pairs) =
    let P = λ (xs : List (ℕ × ℕ)). All (λ (pair : ℕ × ℕ). new_low ≤ pair.1) (between from to xs) in subst P c.deref-2.ensures.value c.free_places-self-inside.ensures.lowest in
    let kept : c.drop.new.self.0.items ≡ remove_range pairs from to = c.drop.ensures.items ∙ c.drain.ensures.kept in
    let room : vec_capacity c.drop.new.self.0 ≡ space = c.drop.ensures.capacity ∙ c.drain.ensures.capacity in
    rw (all, kept, room)
    (released-places numbers pairs c.self.invariant.ascends c.self.invariant.exact first count from to part space c.self.inside.low new_low c.self.invariant c.free_places-self-inside.ensures.low lowest)

pub returns : goal.returns
returns c =
    let numbers = c.self.inside.numbers.items in
    let pairs = c.self.inside.pairs.items in
    let from = c.part_of-from.result.0 in
    let to = c.part_of-from.result.1 in
    let part : IsPart pairs c.args.first c.args.count from to = let P = λ (xs : List (ℕ × ℕ)). IsPart xs c.args.first c.args.count from to in subst P c.deref.ensures.value c.part_of-from.ensures in
    let new : c.free_places-self-inside.new.numbers ≡ freed numbers (between from to pairs) =
    c.free_places-self-inside.ensures.freed ∙ ap (λ (xs : List ℕ). freed xs (between from to c.deref-2.result.now)) c.deref_mut.ensures.value ∙ ap (λ (ps : List (ℕ × ℕ)). freed numbers (between from to ps)) c.deref-2.ensures.value in
    let long : length numbers ≡ c.self.inside.numbers.len = sym (ap length c.deref_mut.ensures.value) ∙ c.deref_mut.ensures.len in
    all_over c.self.inside.numbers.len c.free_places-self-inside.new.numbers numbers (ap length new ∙ length-freed numbers (between from to pairs) ∙ long) long
    ∙ new
    ∙ released numbers pairs c.self.invariant.ascends c.self.invariant.exact c.args.first c.args.count from to part
    ∙ ap (map (unless_within c.args.first c.args.count)) c.self.view_is
