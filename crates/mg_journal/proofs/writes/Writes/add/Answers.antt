use Rattle.mg_journal.proofs.{Pairs.{held_added, index_held, long_held, pairs_added, pairs_count, pairs_position}, Waits.none_waits}
use Rattle.{mg_journal.specs.Staged.{AreHeld, paired, waiting}, mg_model.specs.{Bytes.number_at, Layout.body_limit}, std.proofs.Common.{◌≡◌, ◌*◌}}
use Rattle.std.proofs.Common.{◌+◌, ◌++◌, ◌<◌, ◌∙◌, ◌∷◌, [], List, None, ap, arith, length, subst, sym, ℕ}
use Rattle.mg_journal.proofs.writes.Writes.add.Goals as goal

pub add_home-requires : goal.add_home-requires
add_home-requires c = grind (arith, pairs_count)

pub push-requires-clause-fewer_than_160 : goal.push-requires-clause-fewer_than_160
push-requires-clause-fewer_than_160 c = grind (arith, pairs_count)

pub push-requires-clause-new : goal.push-requires-clause-new
push-requires-clause-new c =
    let homes = c.self.inside.homes in
    let blocks = c.self.inside.blocks.items in
    let block = c.args.block in
    let none = subst (λ (ws : List (ℕ × List ℕ)). waiting ws block ≡ None) (sym c.self.view_is) c.requires.new in
    sym (pairs_position homes blocks 1 block) ∙ none_waits (paired homes blocks 1) block none

pub push_reserved-requires : goal.push_reserved-requires
push_reserved-requires c = grind (arith, pairs_count, long_held)

pub invariant_of-self : goal.invariant_of-self
invariant_of-self c =
    let homes = c.self.inside.homes in
    let blocks = c.self.inside.blocks.items in
    let home = c.args.block in
    let index = c.add_home.new.index in
    let x = c.args.from.now in
    let n = pairs_count homes blocks 1 in
    let few = subst (λ (ws : List (ℕ × List ℕ)). length ws < body_limit) (sym c.self.view_is) c.requires.fewer_than_160 in
    let new = subst (λ (ws : List (ℕ × List ℕ)). waiting ws home ≡ None) (sym c.self.view_is) c.requires.new in
    let count : c.len.result ≡ length homes = c.len.ensures.count in
    let was = c.index_mut.ensures.value ∙ index_held homes blocks c.self.invariant.1 c.index_mut.result.now in
    let held =
    held_added homes blocks c.self.invariant.1 home index x (omega arith) new
    (subst (λ k. number_at index 0 ≡ k + 1) count c.add_home.ensures.count)
    (subst (λ k. number_at index (8 + 8 * k) ≡ home) count c.add_home.ensures.home)
    (λ j below. c.add_home.ensures.others j (omega arith) ∙ ap (λ (b : List ℕ). number_at b (8 + 8 * j)) was) in (
      omega (arith, c.self.invariant.0, c.push_reserved.ensures.capacity),
      subst (λ (hs : List ℕ). AreHeld hs c.push_reserved.new.self.items) (sym c.push.ensures.added)
          (subst (λ (bs : List (List ℕ)). AreHeld (homes ++ home ∷ []) bs) (sym c.push_reserved.ensures.items) held),
    )

pub returns : goal.returns
returns c = grind (arith, pairs_added)
