use Rattle.mg_rules.{proofs.{StateFits.objects-fit-table, soundness.objects_fit.Goals.{then-are_apart, else-are_apart}}, specs.Spans.apart_from}
use Rattle.{mg_rules.specs.Tables.{is_paid, pages_in}, std.{proofs.Common.{rules, ◌≡◌, ◌&&◌, ap, sym, ◌∙◌}, specs.{List.list_all, Prelude.nat_le}}}
use Rattle.std.specs.Prelude.{sum_by}
use Rattle.mg_rules.proofs.soundness.objects_fit.Goals as goal

pub returns-then-are_paid-clause-fit : goal.returns-then-are_paid-clause-fit
returns-then-are_paid-clause-fit c replayed table =
    let objects = c.args.objects.now in
    let spans = c.args.spans.now in
    let both : c.if-are_apart.value ≡ (apart_from 0 spans && list_all (is_paid c.args.accounts) objects) = elim c.if-are_apart.branch [ then-are_apart w ↦ search rules | else-are_apart w ↦ search rules ] in
    let few = nat_le (sum_by pages_in objects) c.args.frames in
    objects-fit-table replayed c.args.frames table spans objects c.requires.spans c.args.accounts ∙ ap (λ t. t && few) (sym both ∙ c.if-are_paid.true) ∙ sym c.are_few.ensures

pub returns-else-are_paid-clause-fit : goal.returns-else-are_paid-clause-fit
returns-else-are_paid-clause-fit c replayed table =
    let objects = c.args.objects.now in
    let spans = c.args.spans.now in
    let both : c.if-are_apart.value ≡ (apart_from 0 spans && list_all (is_paid c.args.accounts) objects) = elim c.if-are_apart.branch [ then-are_apart w ↦ search rules | else-are_apart w ↦ search rules ] in
    let few = nat_le (sum_by pages_in objects) c.args.frames in
    objects-fit-table replayed c.args.frames table spans objects c.requires.spans c.args.accounts ∙ ap (λ t. t && few) (sym both ∙ c.if-are_paid.false) ∙ sym c.if-are_paid.false
