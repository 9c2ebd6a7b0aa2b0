use Rattle.std.proofs.Common.{refl, sym, ◌∙◌}
use Rattle.mungi.proofs.program.command.Goals as goal

pub returns-then-is_migrate : goal.returns-then-is_migrate
returns-then-is_migrate g c =
    let yes = sym c.is_migrate.ensures ∙ c.if-is_migrate.true in
    record { migrate = λ is. (c.top_migrate.ensures.migrate yes, refl); other = λ no. absurd (let clash = sym yes ∙ no in cc) }

pub returns-else-is_migrate : goal.returns-else-is_migrate
returns-else-is_migrate g c =
    let no = sym c.is_migrate.ensures ∙ c.if-is_migrate.false in
    record { migrate = λ yes. absurd (let clash = sym yes ∙ no in cc); other = λ is. (c.ran.ensures, refl) }
