use Rattle.{mg_journal.specs.Held.Store, mg_model.specs.{Bytes.are_zeros, RowLemmas.are_zeros-replicate}, mg_pages.proofs.Made.made-pages}
use Rattle.{mg_pages.{proofs.Made.made-sound, specs.Meaning.table_in}, std.proofs.Common.{◌-◌, ◌∙◌, ap, length, refl, rules}}
use Rattle.std.proofs.lemmas.List.{length-replicate}
use Rattle.mg_pages.proofs.pages.Pages.new.Goals as goal

pub invariant_of-result : goal.invariant_of-result
invariant_of-result c =
    let e = c.in_ok-blocks.ensures in
    let frames = c.args.geometry.total - c.args.geometry.first_frame in
    record {
      sound = made-sound c.in_ok-blocks.blocks.store c.args.geometry.total frames c.in_ok-frames.frames c.in_ok-blocks.blocks.writes c.requires.frames
          (ap (λ (s : Store). s.total) e.store ∙ c.requires.total) (ap length c.in_ok-frames.ensures ∙ length-replicate frames 0) (search rules) e.none;
    }

pub returns-clause-made : goal.returns-clause-made
returns-clause-made c =
    let e = c.in_ok-blocks.ensures in
    let frames = c.args.geometry.total - c.args.geometry.first_frame in
    made-pages _ c.args.store frames e.store e.none e.bare refl (ap length c.in_ok-frames.ensures ∙ length-replicate frames 0)

pub returns-clause-unbound : goal.returns-clause-unbound
unfolding table_in
returns-clause-unbound c = ap are_zeros c.in_ok-frames.ensures ∙ are_zeros-replicate (c.args.geometry.total - c.args.geometry.first_frame)
