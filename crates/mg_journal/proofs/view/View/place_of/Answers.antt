use Rattle.{mg_journal.{proofs.Tables.found-below, specs.Looked.Placed}, std.proofs.Common.{◌<◌, ◌∙◌, sym, ap, arith, ◌≡◌}}
use Rattle.mg_journal.proofs.view.View.place_of.Goals as goal

pub returns-in-Some-clause-below : goal.returns-in-Some-clause-below
returns-in-Some-clause-below c =
    let total : c.args.self.now.total ≡ c.self.inside.total = sym (ap (λ (v : Placed). v.total) c.self.view_is) in
    let inside : c.in-Some.body < c.self.inside.total = found-below c.self.inside.total c.self.inside.table c.args.i c.in-Some.body c.self.invariant (sym c.body_of.ensures ∙ c.in-Some.is) in
    omega arith
