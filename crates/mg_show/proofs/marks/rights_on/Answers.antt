use Rattle.{mg_model.specs.Access.holds, mg_show.proofs.{Letters.none-has, Listing.held}, std.proofs.Common.{[], None, Some, ◌||◌, refl, ◌∙◌}}
use Rattle.mg_show.proofs.marks.rights_on.Goals as goal

pub returns-in-Some : goal.returns-in-Some
returns-in-Some c = λ right.
    let row = c.in-Some.row.now in
    c.with_rights.ensures right
    ∙ (λ k. none-has 0 refl right k || holds (c.period.ensures k) row c.args.password right)
    ∙ held c.args.shown.now [] c.args.base c.args.password right (Some row) c.in-Some.ensures

pub returns-in-None : goal.returns-in-None
returns-in-None c = λ right. none-has 0 refl right ∙ held c.args.shown.now [] c.args.base c.args.password right None c.in-None.ensures
