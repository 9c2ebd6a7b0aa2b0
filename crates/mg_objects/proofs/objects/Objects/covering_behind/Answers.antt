use Rattle.{mg_model.specs.{Access.covers, State.ObjectRow}, mg_objects.proofs.Apart.{covers-none, covers-only}, std.proofs.Common.{◌-◌, Some, ap}}
use Rattle.std.proofs.Common.{arith, refl, sym, ◌∙◌}
use Rattle.mg_objects.proofs.objects.Objects.covering_behind.Goals as goal

pub returns-then-count-eq0 : goal.returns-then-count-eq0
returns-then-count-eq0 c =
    let none = c.if-count-eq0.true in
    rw (covers-none c.args.self.now c.args.address c.keep_rules.ensures.rows c.keep_rules.ensures.apart c.args.count c.requires.within c.requires.below c.requires.above (λ d some. absurd (omega arith))) refl

pub returns-then-covers : goal.returns-then-covers
returns-then-covers c =
    let row = c.nth_ref-row.ensures (0, c.nth_ref-row.result.now) in
    let within = c.requires.within in
    let some = c.if-count-eq0.false in
    rw (covers-only c.args.self.now c.args.address c.keep_rules.ensures.rows c.keep_rules.ensures.apart (c.args.count - 1) (0, c.nth_ref-row.result.now) (omega arith)
    (ap (λ (r : ObjectRow). covers r c.args.address) (sym row) ∙ sym c.covers.ensures ∙ c.if-covers.true)) (ap Some row)

pub returns-else-covers : goal.returns-else-covers
returns-else-covers c =
    rw (covers-none c.args.self.now c.args.address c.keep_rules.ensures.rows c.keep_rules.ensures.apart c.args.count c.requires.within c.requires.below c.requires.above
    (λ d some. ap (λ (r : ObjectRow). covers r c.args.address) (sym (c.nth_ref-row.ensures d)) ∙ sym c.covers.ensures ∙ c.if-covers.false)) refl
