use Rattle.{mg_journal.{proofs.Hints.hinted_none, specs.Hinted.AreHinted}, std.proofs.Common.{◌≡◌, [], List, arith, replicate, rules, subst, sym, ℕ}}
use Rattle.mg_journal.proofs.home_list.Homes.new.Goals as goal

pub invariant_of-result : goal.invariant_of-result
invariant_of-result c =
    let none : c.in_ok-homes.homes.items ≡ [] = search rules in
    let hints : c.in_ok-hints.hints.items ≡ replicate 256 0 = search rules in (
      omega (arith, c.in_ok-homes.ensures.capacity),
      subst (λ (hs : List ℕ). AreHinted hs c.in_ok-hints.hints.items) (sym none) (subst (λ (hs : List ℕ). AreHinted [] hs) (sym hints) (hinted_none 256 (omega arith))),
    )
