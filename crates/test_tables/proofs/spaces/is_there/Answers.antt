use Rattle.{mg_model.specs.State.ObjectRow, std.{proofs.Common.{sym, ap, ◌∙◌}, specs.{Option.option_copied, Prelude.{◌==◌, ℕ}}}}
use Rattle.test_tables.proofs.Found.{told_any}
use Rattle.test_tables.proofs.spaces.is_there.Goals as goal

pub returns-in-Some : goal.returns-in-Some
returns-in-Some c _ =
    told_any (λ (o : ℕ × ObjectRow). o.1) (λ (o : ℕ × ObjectRow). o.1.base == c.args.base) c.args.space.now c.in-Some.field-0.now
    (sym (ap option_copied c.in-Some.is) ∙ c.get.ensures)
