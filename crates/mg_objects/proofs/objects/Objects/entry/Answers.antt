use Rattle.{mg_objects.proofs.{Keys.{base_not, found, place_has, zero_not}, Rows.within-table}, std.proofs.Common.{◌≡◌, ◌∙◌, None, Some, arith, sym}}
use Rattle.std.proofs.lemmas.List.{get_or_default}
use Rattle.mg_objects.proofs.objects.Objects.entry.Goals as goal

pub returns-then-base-eq0 : goal.returns-then-base-eq0
returns-then-base-eq0 c = rw (c.if-base-eq0.true) (sym (zero_not c.self.inside.rows.items _ c.self.inside.bases c.self.invariant c.args.self.now c.self.view_is))

pub index-requires : goal.index-requires
index-requires c =
    let rows = c.self.inside.rows.items in
    let row = place_has rows _ c.self.inside.bases c.self.invariant c.args.self.now c.self.view_is c.args.base c.in-Some.place c.if-base-eq0.false (sym c.in-Some.ensures) in
    omega (arith, within-table rows c.in-Some.place row.0 row.1, c.self.inside.rows.ok.0)

pub unreachable-requires : goal.unreachable-requires
unreachable-requires c =
    let rows = c.self.inside.rows.items in
    let row = place_has rows _ c.self.inside.bases c.self.invariant c.args.self.now c.self.view_is c.args.base c.in-Some.place c.if-base-eq0.false (sym c.in-Some.ensures) in
    let e : None ≡ Some row.0 = sym c.in-None-index.is ∙ c.index.ensures ∙ get_or_default rows c.in-Some.place c.index.result.now None (within-table rows c.in-Some.place row.0 row.1) ∙ row.1 in
    cc

pub returns-in-Some-index : goal.returns-in-Some-index
returns-in-Some-index c =
    let rows = c.self.inside.rows.items in
    let row = place_has rows _ c.self.inside.bases c.self.invariant c.args.self.now c.self.view_is c.args.base c.in-Some.place c.if-base-eq0.false (sym c.in-Some.ensures) in
    let e : Some c.in-Some-index.row ≡ Some row.0 = sym c.in-Some-index.is ∙ c.index.ensures ∙ get_or_default rows c.in-Some.place c.index.result.now None (within-table rows c.in-Some.place row.0 row.1) ∙ row.1 in
    let same : c.in-Some-index.row ≡ row.0 = cc in
    rw same (sym (found rows _ c.self.inside.bases c.self.invariant c.args.self.now c.self.view_is c.args.base c.in-Some.place row.0 row.1 row.2))

pub returns-in-None : goal.returns-in-None
returns-in-None c = sym (base_not c.self.inside.rows.items _ c.self.inside.bases c.self.invariant c.args.self.now c.self.view_is c.args.base (sym c.in-None.ensures))
