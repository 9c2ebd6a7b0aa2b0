use Rattle.mg_journal.proofs.{Tables.{found-at, found-none}, table.Table.body_of.Goals.else-at-len-via-then-at-len+else-index-block}
use Rattle.{mg_journal.{proofs.table.Table.body_of.Goals.else-at-len-via-else-at-len, specs.Newest.is_for}, std.proofs.Common.{◌≢◌, ◌≤◌, ◌<◌, ◌∙◌, ℕ}}
use Rattle.std.{proofs.{Common.{List, ap, arith, find, get_or, length, option_map, sym, subst}, lemmas.List.get_or_default}, specs.List.AllWithin}
use Rattle.mg_journal.proofs.table.Table.body_of.Goals as goal

pub returns-then-index-block : goal.returns-then-index-block
returns-then-index-block c = grind (arith, get_or_default, found-at)

pub returns-else-at-len : goal.returns-else-at-len
returns-else-at-len c =
    let table = c.self.inside.places.items in
    let at = c.count_below-at.result in
    let block = c.args.block in
    let value = c.deref.ensures.value in
    let below : AllWithin (λ (p : ℕ × ℕ). p.0 < block) table 0 at = let P = λ (xs : List (ℕ × ℕ)). AllWithin (λ (p : ℕ × ℕ). p.0 < block) xs 0 at in subst P value c.count_below-at.ensures.below in
    let above : AllWithin (λ (p : ℕ × ℕ). block ≤ p.0) table at (length table) =
    let P = λ (xs : List (ℕ × ℕ)). AllWithin (λ (p : ℕ × ℕ). block ≤ p.0) xs at (length xs) in subst P value c.count_below-at.ensures.above in
    let other : (d : ℕ × ℕ) → at < length table → (get_or table at d).0 ≢ block =
    λ d under is.
    elim c.else-at-len.branch [
      | else-at-len-via-then-at-len+else-index-block w ↦ w.if-index-block.false (ap (λ (p : ℕ × ℕ). p.0) (w.index.ensures ∙ get_or_default table at w.index.result.now d under) ∙ is)
      | else-at-len-via-else-at-len w ↦ absurd (omega (arith, c.self.inside.places.ok.0))
    ] in
    sym (ap (λ (xs : List (ℕ × ℕ)). option_map (λ (p : ℕ × ℕ). p.1) (find (is_for block) xs)) (sym c.self.view_is)
    ∙ ap (option_map (λ (p : ℕ × ℕ). p.1)) (found-none block table at c.self.invariant.1 below above other))
