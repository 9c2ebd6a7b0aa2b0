use Rattle.{mg_index.proofs.Bound.{lowest-from, none-free}, std.proofs.Common.{◌≡◌, ◌+◌, ◌==◌, ◌∙◌, ap, arith, position, sym, true, false, drop}}
use Rattle.std.{proofs.{Common.{Some, None}, lemmas.List.{take_rest, Quantifiers.position-Some}}, specs.List.list_any}
use Rattle.mg_index.proofs.index.Index.lowest_free.Goals as goal

pub unreachable-requires : goal.unreachable-requires
unreachable-requires c =
    let numbers = c.self.inside.numbers.items in
    let low = c.self.inside.low in
    let rest = take_rest c.deref.result.now low ∙ ap (drop low) c.deref.ensures.value in
    let found : position (λ entry. entry == 0) (drop low numbers) ≡ None = ap (position (λ entry. entry == 0)) (sym rest) ∙ sym c.first_free.ensures ∙ c.in-None.is in
    let none = ap (list_any (λ entry. entry == 0)) (sym c.self.view_is) ∙ none-free numbers low c.self.invariant.none_free found in
    let bad : true ≡ false = sym c.requires ∙ none in
    cc

pub returns-clause-lowest : goal.returns-clause-lowest
returns-clause-lowest c =
    let numbers = c.self.inside.numbers.items in
    let low = c.self.inside.low in
    let rest = take_rest c.deref.result.now low ∙ ap (drop low) c.deref.ensures.value in
    let found : position (λ entry. entry == 0) (drop low numbers) ≡ Some c.in-Some.at =
    ap (position (λ entry. entry == 0)) (sym rest) ∙ sym c.first_free.ensures ∙ c.in-Some.is in
    ap (position (λ entry. entry == 0)) (sym c.self.view_is) ∙ lowest-from numbers low c.in-Some.at c.self.invariant.none_free found

pub returns-clause-below_65536 : goal.returns-clause-below_65536
returns-clause-below_65536 c =
    let numbers = c.self.inside.numbers.items in
    let low = c.self.inside.low in
    let rest = take_rest c.deref.result.now low ∙ ap (drop low) c.deref.ensures.value in
    let found : position (λ entry. entry == 0) (drop low numbers) ≡ Some c.in-Some.at =
    ap (position (λ entry. entry == 0)) (sym rest) ∙ sym c.first_free.ensures ∙ c.in-Some.is in
    let at = position-Some (λ entry. entry == 0) numbers (low + c.in-Some.at) 0 (lowest-from numbers low c.in-Some.at c.self.invariant.none_free found) in
    omega (arith, at.0, c.self.invariant.few)
