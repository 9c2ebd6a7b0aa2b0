use Rattle.{mg_migrate.specs.Spelling1.{lift_read, object1_read}, std.proofs.Common.{◌≡◌, ◌*◌, ◌+◌, ◌-◌, drop, take, ap, ◌∙◌, arith}}
use Rattle.mg_migrate.proofs.rows.object1_in.Goals as goal

pub returns : goal.returns
returns c =
    let at = 512 * c.args.k in
    let e : at + 512 - at ≡ 512 = omega arith in
    c.read_row.ensures ∙ ap (λ k. lift_read (object1_read (take k (drop at c.args.block.now)))) e
