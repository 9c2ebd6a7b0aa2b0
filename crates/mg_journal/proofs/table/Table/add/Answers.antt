use Rattle.mg_journal.{proofs.Tables.{last-more, lies_fit, lying_more}, specs.{Newest.{HasLast, Puts, lying}, Places.IsPlace, Staged.home_at}}
use Rattle.std.proofs.Common.{◌≡◌, ◌<◌, ◌+◌, ◌++◌, ◌∙◌, ◌∷◌, [], ap, arith, append_assoc, length, subst, sym, take}
use Rattle.mg_journal.proofs.table.Table.add.Goals as goal

pub loop-k-preserved : goal.loop-k-preserved
loop-k-preserved c =
    let writes = c.args.writes.now in
    let first = c.args.first in
    let k = c.loop-k.k in
    let inv = c.loop-k.invariant in
    let below : k < length writes = omega (arith, c.loop-k-test.true, c.len-k-end.ensures.count) in
    record {
      newest = λ places last.
          let so_far = places ++ lying first (take k writes) in
          let is : so_far ++ (home_at writes k, first + k) ∷ [] ≡ places ++ lying first (take (k + 1) writes) =
          append_assoc places (lying first (take k writes)) ((home_at writes k, first + k) ∷ []) ∙ ap (λ p. places ++ p) (sym (lying_more first writes k below)) in
          subst (λ p. HasLast p c.put.new.self) is (last-more so_far c.loop-k.self c.put.new.self (home_at writes k, first + k) (inv.newest places last)
          (subst (λ home. Puts c.loop-k.self (home, first + k) c.put.new.self) c.home.ensures.home c.put.ensures.puts));
      fit = λ total fit all. c.put.ensures.fit total (inv.fit total fit all) (subst (λ home. IsPlace total (home, first + k)) (sym c.home.ensures.home) (lies_fit total first writes k fit below (omega (arith, c.requires.within))));
      few = omega (arith, c.put.ensures.at_most_one_more, inv.few);
    }
