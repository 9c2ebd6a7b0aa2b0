use Rattle.{mg_journal.specs.Staged.{bytes_of, waiting}, mg_pages.proofs.KeptWrites.{AreKeptUpTo, goes-somewhere, kept-begun, kept-less, kept-more}}
use Rattle.mg_pages.proofs.{KeptWrites.kept-through, kept.keep_others.Goals.{then-first-block+then-is_none, else-first-block}}
use Rattle.mg_pages.proofs.kept.keep_others.Goals.{else-first-block-via-then-first-block+else-is_none, else-first-block-via-else-first-block}
use Rattle.{mg_pages.specs.Kept.KeepsThis, std.proofs.Common.{◌≤◌, ◌<◌, ◌+◌, ◌∙◌, arith, drop, length, subst, sym, ap}}
use Rattle.mg_pages.proofs.kept.keep_others.Goals as goal

pub loop-k-init : goal.loop-k-init
loop-k-init c r are = kept-begun c.args.first r c.args.last.now c.args.writes.now c.args.cache.now are

pub loop-k-preserved : goal.loop-k-preserved
loop-k-preserved c r are =
    let first = c.args.first in
    let last = c.args.last.now in
    let writes = c.args.writes.now in
    let k = c.loop-k.k in
    let old = c.loop-k.cache in
    let so_far = c.loop-k.invariant r are in
    let below : k < length last = omega (arith, c.loop-k-test.true, c.len-k-end.ensures.count) in
    let is = c.home-block.ensures.home in
    elim c.if-first-block.branch [
      | then-first-block+then-is_none w ↦
          subst (λ kept. AreKeptUpTo (drop (k + 1) last) writes first r kept) (sym w.cache-is)
          (kept-more first r last writes k below c.args.cache.now old w.renew.new.self c.len-k-end.ensures.once are (subst (λ block. first ≤ block) is w.if-first-block.true)
          (subst (λ block. KeepsThis block (bytes_of last k) old w.renew.new.self) is (subst (λ bytes. KeepsThis c.home-block.result bytes old w.renew.new.self) w.body.ensures.body w.renew.ensures)) so_far)
      | else-first-block w ↦
          subst (λ kept. AreKeptUpTo (drop (k + 1) last) writes first r kept) (sym w.cache-is)
          (kept-less first r last writes k below old
          (λ i low free same.
          elim w.else-first-block.branch [
            | else-first-block-via-then-first-block+else-is_none w' ↦ goes-somewhere w'.get.result (λ b. b.now) (waiting writes c.home-block.result) w'.if-is_none.ensures w'.get.ensures (ap (waiting writes) (is ∙ sym same) ∙ free)
            | else-first-block-via-else-first-block w' ↦ omega (arith, low, same, is, w'.if-first-block.false)
          ]) so_far)
    ]

pub returns : goal.returns
returns c r are =
    kept-through c.args.first r c.args.last.now c.args.writes.now c.loop-k.k c.loop-k.cache (omega (arith, c.loop-k-test.false, c.len-k-end.ensures.count)) (c.loop-k.invariant r are)
