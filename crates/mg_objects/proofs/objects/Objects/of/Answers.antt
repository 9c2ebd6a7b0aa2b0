use Rattle.{mg_index.specs.Words.numbers_in, mg_model.specs.{State.ObjectRow, Tests.all_distinct}, mg_objects.proofs.Keys.{made-distinct, made-held}}
use Rattle.mg_objects.{proofs.{Keys.made-keys, Lists.{none_of, some_of}, Rows.at}, specs.Held.{AreApart, AreBases, objects_in}}
use Rattle.std.proofs.{Common.{◌∙◌, List, ℕ, ap, subst, sym}, lemmas.Bool.false≢true}
use Rattle.mg_objects.proofs.objects.Objects.of.Goals as goal

pub are_apart-requires-clause-listed : goal.are_apart-requires-clause-listed
are_apart-requires-clause-listed c =
    let same = some_of (all_distinct (numbers_in c.in_ok-numbers.numbers.items)) c.in-Some.bases c.in_ok-numbers.numbers.items (sym c.in-Some.is ∙ c.in_ok-bases.ensures) in
    let P : List ℕ → Type 0 = AreBases (at c.args.table.items) in
    let bases = subst P (sym same) (rw c.deref.ensures.value at c.in_ok-numbers.ensures.bases) in
    rw c.deref-in-Some.ensures.value
    (made-keys c.args.table.items c.in-Some.bases c.requires.at_most_4096_rows bases (rw c.deref.ensures.value at c.in_ok-numbers.ensures.ranges) c.pairs.result.now c.pairs.ensures.ascending c.pairs.ensures.exact)

pub invariant_of-result : goal.invariant_of-result
invariant_of-result c =
    let same = some_of (all_distinct (numbers_in c.in_ok-numbers.numbers.items)) c.in-Some.bases c.in_ok-numbers.numbers.items (sym c.in-Some.is ∙ c.in_ok-bases.ensures) in
    let P : List ℕ → Type 0 = AreBases (at c.args.table.items) in
    let bases = subst P (sym same) (rw c.deref.ensures.value at c.in_ok-numbers.ensures.bases) in
    made-held c.args.table.items c.in-Some.bases c.requires.at_most_4096_rows bases (rw c.deref.ensures.value at c.in_ok-numbers.ensures.ranges) _ c.requires.has_capacity
    (rw c.deref-in-Some.ensures.value at (c.are_apart.ensures.apart c.if-are_apart.true))

pub returns-else-are_apart : goal.returns-else-are_apart
returns-else-are_apart c = λ apart.
    let P : List (ℕ × ObjectRow) → Type 0 = AreApart in
    c.are_apart.ensures.meet c.if-are_apart.false (subst P (sym (ap objects_in c.deref-in-Some.ensures.value)) apart)

pub returns-in-None : goal.returns-in-None
returns-in-None c = λ apart.
    let twice = none_of (all_distinct (numbers_in c.in_ok-numbers.numbers.items)) c.in_ok-numbers.numbers.items (sym c.in-None.is ∙ c.in_ok-bases.ensures) in
    false≢true (sym twice ∙ made-distinct c.args.table.items c.in_ok-numbers.numbers.items c.requires.at_most_4096_rows (rw c.deref.ensures.value at c.in_ok-numbers.ensures.bases) (rw c.deref.ensures.value at c.in_ok-numbers.ensures.ranges) apart)
