use Rattle.std.proofs.Common.{◌≡◌, ◌+◌, ◌-◌, ◌++◌, drop, take, ap, ◌∙◌, arith}
use Rattle.mg_migrate.proofs.rows.add_part.Goals as goal

pub returns-clause-value : goal.returns-clause-value
returns-clause-value c =
    let e : c.args.at + c.args.count - c.args.at ≡ c.args.count = omega arith in
    c.add.ensures.value ∙ ap (λ k. c.args.filling.now ++ take k (drop c.args.at c.args.bytes.now)) e
