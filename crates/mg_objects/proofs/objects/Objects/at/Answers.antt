use Rattle.{mg_objects.proofs.Keys.in_place, std.proofs.{Common.{◌∙◌, None, arith, sym}, lemmas.List.{get_or_default, get_or_past}}}
use Rattle.mg_objects.proofs.objects.Objects.at.Goals as goal

pub returns-then-place-len : goal.returns-then-place-len
returns-then-place-len c =
    let len = c.len.ensures in
    let rows = c.self.inside.rows.items in
    sym (in_place rows _ c.self.inside.bases c.self.invariant c.args.self.now c.self.view_is c.args.place ∙ get_or_past rows c.args.place None (omega (arith, c.self.inside.rows.ok.0)))

pub returns : goal.returns
returns c =
    let len = c.len.ensures in
    let rows = c.self.inside.rows.items in
    c.as_ref.ensures.value ∙ c.index.ensures ∙ get_or_default rows c.args.place c.index.result.now None (omega (arith, c.self.inside.rows.ok.0))
    ∙ sym (in_place rows _ c.self.inside.bases c.self.invariant c.args.self.now c.self.view_is c.args.place)
