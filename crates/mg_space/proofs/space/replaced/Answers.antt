use Rattle.{mg_model.specs.State.ObjectRow, mg_space.proofs.Paid.none-found, std.proofs.Common.{◌≡◌, ◌==◌, ◌∙◌, ℕ, ap, false, sym, true}}
use Rattle.std.specs.List.{list_any}
use Rattle.mg_space.proofs.space.replaced.Goals as goal

pub unreachable-requires : goal.unreachable-requires
unreachable-requires c =
    let base = c.base-base.ensures.value in
    let none = none-found (λ (o : ℕ × ObjectRow). o.1.base == c.base-base.result) c.args.objects.now c.in-None.ensures in
    let bad : true ≡ false = sym c.requires ∙ ap (λ b. list_any (λ (o : ℕ × ObjectRow). o.1.base == b) c.args.objects.now) (sym base) ∙ none in
    cc
