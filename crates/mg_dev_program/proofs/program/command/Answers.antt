use Rattle.std.proofs.Common.{refl, sym, ◌∙◌}
use Rattle.mg_dev_program.proofs.program.command.Goals as goal

pub returns-then-is_mirror : goal.returns-then-is_mirror
returns-then-is_mirror g c =
    let yes = sym c.is_mirror.ensures ∙ c.if-is_mirror.true in
    record { mirror = λ is. (c.over_mirror.result.1, c.over_mirror.ensures); devices = λ no. absurd (let clash = sym yes ∙ no in cc) }

pub returns-else-is_mirror : goal.returns-else-is_mirror
returns-else-is_mirror g c =
    let no = sym c.is_mirror.ensures ∙ c.if-is_mirror.false in
    record { mirror = λ yes. absurd (let clash = sym yes ∙ no in cc); devices = λ is. (c.on_devices-status.ensures, refl) }
