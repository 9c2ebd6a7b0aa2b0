use Rattle.{mg_model.specs.{Access.covers, State.ObjectRow}, mg_objects.proofs.Apart.covers-only, std.proofs.Common.{Some, ap, arith, sym, ◌∙◌}}
use Rattle.mg_objects.proofs.objects.Objects.covering_near.Goals as goal

pub returns-then-covers : goal.returns-then-covers
returns-then-covers c =
    let row = c.nth_ref-last.ensures (0, c.nth_ref-last.result.now) in
    let within = c.len.ensures.count in
    let below = c.if-near-len.true in
    rw (covers-only c.args.self.now c.args.address c.len.ensures.rows c.len.ensures.apart c.args.near.now (0, c.nth_ref-last.result.now) (omega arith)
    (ap (λ (r : ObjectRow). covers r c.args.address) (sym row) ∙ sym c.covers.ensures ∙ c.if-covers.true)) (ap Some row)
