use Rattle.{mg_journal.{proofs.Hints.{hint-within, hinted-at, unhinted}, specs.Hinted.hint_of}, std.proofs.Common.{rules, ◌≡◌, ◌==◌, ◌-◌, ◌<◌, ◌∙◌}}
use Rattle.std.proofs.{Common.{List, None, Some, ap, arith, length, position, slice_index_or, subst, sym, ℕ}, lemmas.List.get_or_default}
use Rattle.mg_journal.proofs.home_list.Homes.place_of.Goals as goal

pub returns-then-hint-eq0 : goal.returns-then-hint-eq0
returns-then-hint-eq0 c =
    let homes = c.self.inside.homes.items in
    let hints = c.self.inside.hints.items in
    let block = c.args.block in
    let none : slice_index_or hints c.row_of.result 0 ≡ 0 = search rules in
    let hint : hint_of hints block ≡ 0 = ap (λ row. slice_index_or hints row 0) (sym c.row_of.ensures.row) ∙ none in
    sym (subst (λ (hs : List ℕ). position (λ home. home == block) hs ≡ None) c.self.view_is (unhinted homes hints c.self.invariant.1 block hint))

pub returns-then-index-block : goal.returns-then-index-block
returns-then-index-block c =
    let homes = c.self.inside.homes.items in
    let hints = c.self.inside.hints.items in
    let block = c.args.block in
    let place = c.index.result.now - 1 in
    let within = hint-within homes hints c.self.invariant.1 block c.row_of.result c.index.result.now c.row_of.ensures.below_256 c.index.ensures in
    let below : place < length homes = omega (arith, c.if-hint-eq0.false) in
    let here : slice_index_or homes place 0 ≡ block = sym (get_or_default homes place c.index-2.result.now 0 below) ∙ sym c.index-2.ensures ∙ c.if-index-block.true in
    sym (subst (λ (hs : List ℕ). position (λ home. home == block) hs ≡ Some place) c.self.view_is (hinted-at homes hints c.self.invariant.1 block place below here))
