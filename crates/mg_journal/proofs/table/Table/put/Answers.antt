use Rattle.mg_journal.proofs.Tables.{insert-all, insert-ascends, insert-puts, set-puts}
use Rattle.mg_journal.{proofs.table.Table.put.Goals.{else-at-len-via-then-at-len+else-index-place, else-at-len-via-else-at-len}, specs.Newest.Ascends}
use Rattle.{mg_journal.specs.Places.IsPlace, std.proofs.Common.{rules, ◌≡◌, ◌≢◌, ◌≤◌, ◌<◌, ◌∙◌, ℕ, All, List, ap, arith, get_or, if◌then◌else◌}}
use Rattle.std.{proofs.{Common.{insert, is_ok, length, sym, subst, true}, lemmas.List.{get_or_default, Elements.All-set}}, specs.List.AllWithin}
use Rattle.std.specs.Vec.{vec_capacity, vec_len}
use Rattle.mg_journal.proofs.table.Table.put.Goals as goal

pub invariant_of-self-else-at-len : goal.invariant_of-self-else-at-len
invariant_of-self-else-at-len c =
    let table = c.self.inside.places.items in
    let at = c.count_below-at.result in
    let place = c.args.place in
    let value = c.deref.ensures.value in
    let below : AllWithin (λ (p : ℕ × ℕ). p.0 < place.0) table 0 at = let P = λ (xs : List (ℕ × ℕ)). AllWithin (λ (p : ℕ × ℕ). p.0 < place.0) xs 0 at in subst P value c.count_below-at.ensures.below in
    let above : AllWithin (λ (p : ℕ × ℕ). place.0 ≤ p.0) table at (length table) =
    let P = λ (xs : List (ℕ × ℕ)). AllWithin (λ (p : ℕ × ℕ). place.0 ≤ p.0) xs at (length xs) in subst P value c.count_below-at.ensures.above in
    let within : at ≤ length table = omega (arith, ap length value, c.count_below-at.ensures.within) in
    let other : (d : ℕ × ℕ) → at < length table → (get_or table at d).0 ≢ place.0 =
    λ d under is.
    elim c.else-at-len.branch [
      | else-at-len-via-then-at-len+else-index-place w ↦ w.if-index-place.false (ap (λ (p : ℕ × ℕ). p.0) (w.index.ensures ∙ get_or_default table at w.index.result.now d under) ∙ is)
      | else-at-len-via-else-at-len w ↦ absurd (omega (arith, c.self.inside.places.ok.0))
    ] in
    let small : length table < 1280 = omega (arith, ap length c.self.view_is, c.requires.fits_in_table) in
    let room : vec_len c.self.inside.places < vec_capacity c.self.inside.places = omega (arith, c.self.inside.places.ok.0, c.self.invariant.0) in
    let done : is_ok c.insert.result ≡ true = search (rules, c.insert.ensures.succeeds room) in
    let items : c.insert.new.self.items ≡ insert table at place = c.insert.ensures.items ∙ ap (λ t. if t then insert table at place else table) done in
    (omega (arith, c.insert.ensures.capacity, c.self.invariant.0), subst Ascends (sym items) (insert-ascends place table at within below c.self.invariant.1 above other))

pub returns-then-index-place-clause-puts : goal.returns-then-index-place-clause-puts
returns-then-index-place-clause-puts c = grind (arith, get_or_default, set-puts)

pub returns-else-at-len-clause-puts : goal.returns-else-at-len-clause-puts
returns-else-at-len-clause-puts c = grind (arith, insert-puts)

pub returns-then-index-place-clause-fit : goal.returns-then-index-place-clause-fit
returns-then-index-place-clause-fit c total all is = All-set (IsPlace total) c.self.inside.places.items c.count_below-at.result c.args.place is (subst (All (IsPlace total)) (sym c.self.view_is) all)

pub returns-else-at-len-clause-fit : goal.returns-else-at-len-clause-fit
returns-else-at-len-clause-fit c total all is =
    subst (All (IsPlace total)) (sym c.insert.ensures.items) (insert-all (IsPlace total) c.args.place c.self.inside.places.items c.count_below-at.result (is_ok c.insert.result) is (subst (All (IsPlace total)) (sym c.self.view_is) all))
