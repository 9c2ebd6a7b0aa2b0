use Rattle.{mg_disk.specs.{BlockBytes.IsBytes, Blocks.{IsGated, gates_block}, PlaceLemmas.gated_longer}, std.proofs.Common.{◌<◌, refl, sym, subst}}
use Rattle.std.proofs.{Common.{take, arith, slice_index_or, slice_set}, lemmas.List.{take_all, take_more, Elements.{Contains-get_or, All-set}}}
use Rattle.std.proofs.lemmas.List.Elements.{All-replicate}
use Rattle.mg_disk.proofs.blocks.put_gates.Goals as goal

pub index_mut-requires : goal.index_mut-requires
index_mut-requires c =
    let k = c.requires _ (Contains-get_or c.args.places.now c.loop-i.i-index 0 (omega arith)) in
    let m = c.loop-i.invariant.0 in
    omega arith

pub loop-i-preserved : goal.loop-i-preserved
loop-i-preserved c =
    let places = c.args.places.now in
    let n = c.loop-i.i-index in
    let k = c.requires _ (Contains-get_or places n 0 (omega arith)) in
    let b = c.loop-i.content.ok.0 in
    let m = c.loop-i.invariant.0 in (
      m,
      subst (λ ps. IsGated ps c.args.content.now.items (slice_set c.loop-i.content.items (slice_index_or places n 0) gates_block)) (sym (take_more places n 0 (omega arith)))
          (gated_longer (take n places) c.args.content.now.items c.loop-i.content.items (slice_index_or places n 0) gates_block refl (omega arith) c.loop-i.invariant.1),
      λ are. All-set IsBytes c.loop-i.content.items (slice_index_or places n 0) gates_block (All-replicate (λ byte. byte < 256) 4096 0xA5 (omega arith)) (c.loop-i.invariant.2 are),
    )

pub returns-clause-gates : goal.returns-clause-gates
returns-clause-gates c = subst (λ ps. IsGated ps c.args.content.now.items c.loop-i.content.items) (take_all c.loop-i.i-index c.args.places.now c.loop-i-test.false) c.loop-i.invariant.1
