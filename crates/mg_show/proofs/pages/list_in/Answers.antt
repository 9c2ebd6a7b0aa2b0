use Rattle.{mg_model.specs.declared.slots.Slot.Slot, mg_show.{proofs.Listing.block-entries-more, specs.Marking.named_by}, std.proofs.Common.List}
use Rattle.std.proofs.{Common.{length, length-append, ◌<◌, ◌*◌, ◌∷◌, ◌++◌, [], ap, arith, refl, ◌∙◌}, lemmas.List.map-append}
use Rattle.mg_show.proofs.pages.list_in.Goals as goal

pub loop-k-preserved : goal.loop-k-preserved
loop-k-preserved c =
    let block = c.args.block.now in
    let k = c.loop-k.k in
    let base = c.number_at-base.result in
    let password = c.number_at-password.result in
    let few : k < 255 = let e = c.entries-k-end.ensures in let t = c.loop-k-test.true in omega arith in
    record {
      list = ap named_by c.add.ensures
          ∙ map-append (λ (slot : Slot). (slot.base, slot.password)) c.loop-k.list (record { base = base; password = password } ∷ [])
          ∙ ap (λ entries. entries ++ (base, password) ∷ []) c.loop-k.invariant.list
          ∙ block-entries-more block k (16 * k) base password few refl c.number_at-base.ensures c.number_at-password.ensures;
      long = ap (λ (slots : List Slot). length slots) c.add.ensures
          ∙ length-append c.loop-k.list (record { base = base; password = password } ∷ [])
          ∙ (let m = c.loop-k.invariant.long in omega arith);
    }
