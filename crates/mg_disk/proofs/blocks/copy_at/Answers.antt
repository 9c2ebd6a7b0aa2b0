use Rattle.{mg_disk.specs.{Disk.SameBut, PlaceLemmas.{copied_shorter, nothing_differs}}, std.proofs.Common.{rules, ◌+◌, sym, ap, ◌∙◌, subst, drop}}
use Rattle.std.proofs.{Common.{arith, add-one, Contains, slice_index_or, ◌∷◌, []}, Math.Seq.drop-cons, lemmas.List.{get_or_default, drop_all}}
use Rattle.std.proofs.lemmas.List.Elements.{Contains-get_or}
use Rattle.mg_disk.proofs.blocks.copy_at.Goals as goal

pub index-requires : goal.index-requires
index-requires c = c.requires.in_range _ (Contains-get_or c.args.places.now c.loop-i.i-index 0 (omega arith))

pub index_mut-requires : goal.index_mut-requires
index_mut-requires c =
    let k = c.requires.in_range _ (Contains-get_or c.args.places.now c.loop-i.i-index 0 (omega arith)) in
    let a = c.args.from.now.ok.0 in
    let b = c.args.to.now.ok.0 in
    let n = c.requires.differ.count in
    let m = c.loop-i.invariant.0 in
    omega arith

pub loop-i-preserved : goal.loop-i-preserved
loop-i-preserved c =
    let places = c.args.places.now in
    let n = c.loop-i.i-index in
    let k = c.requires.in_range _ (Contains-get_or places n 0 (omega arith)) in
    let a = c.args.from.now.ok.0 in
    let b = c.loop-i.to.ok.0 in
    let f = c.args.to.now.ok.0 in
    let same = c.requires.differ.count in
    let m = c.loop-i.invariant.0 in (
      m,
      c.loop-i.invariant.1,
      copied_shorter (drop (n + 1) places) (slice_index_or places n 0) _ c.loop-i.to.items c.args.from.now.items
          (c.index.ensures ∙ get_or_default c.args.from.now.items (slice_index_or places n 0) _ [] (omega arith))
          (omega arith)
          (subst (λ ps. SameBut (Contains ps) c.loop-i.to.items c.args.from.now.items) (drop-cons places n 0 (omega arith) ∙ ap (λ j. slice_index_or places n 0 ∷ drop j places) (sym (add-one n))) c.loop-i.invariant.2),
    )

pub returns-clause-same : goal.returns-clause-same
returns-clause-same c = search (rules, nothing_differs, drop_all)
