use Rattle.{mg_journal.{proofs.Hints.hinted_added, specs.Hinted.AreHinted}, mg_model.specs.Layout.body_limit, std.proofs.Common.{rules, ◌≡◌, ◌==◌}}
use Rattle.std.proofs.Common.{◌+◌, ◌<◌, None, List, arith, length, position, slice_set, subst, sym, ℕ}
use Rattle.mg_journal.proofs.home_list.Homes.push.Goals as goal

pub invariant_of-self : goal.invariant_of-self
invariant_of-self c =
    let homes = c.self.inside.homes.items in
    let hints = c.self.inside.hints.items in
    let block = c.args.block in
    let few = subst (λ (hs : List ℕ). length hs < body_limit) (sym c.self.view_is) c.requires.fewer_than_160 in
    let new = subst (λ (hs : List ℕ). position (λ home. home == block) hs ≡ None) (sym c.self.view_is) c.requires.new in
    let count : c.len.result ≡ length homes + 1 = search rules in (
      omega (arith, c.self.invariant.0, c.push_reserved.ensures.capacity),
      subst (λ (hs : List ℕ). AreHinted hs (slice_set hints c.row_of.result c.len.result)) (sym c.push_reserved.ensures.items)
          (hinted_added homes hints c.self.invariant.1 block new c.row_of.result c.len.result c.row_of.ensures.row count few),
    )
