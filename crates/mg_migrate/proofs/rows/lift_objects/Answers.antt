use Rattle.{mg_migrate.proofs.LiftedBlocks.four-rows, std.proofs.Common.{◌≡◌, ◌++◌, length, ap, ◌∙◌, arith}}
use Rattle.mg_migrate.proofs.rows.lift_objects.Goals as goal

pub returns : goal.returns
returns c =
    let l1 = c.add.ensures.long in
    let l2 = c.add-2.ensures.long in
    let l3 = c.add-3.ensures.long in
    let l4 = c.add-4.ensures.long in
    let r1 = c.lifted_row.ensures.long in
    let r2 = c.lifted_row-2.ensures.long in
    let r3 = c.lifted_row-3.ensures.long in
    let r4 = c.lifted_row-4.ensures.long in
    let l0 : length c.new-filling.result ≡ 0 = ap length c.new-filling.ensures in
    let long : length c.add-4.new.self ≡ 4096 = omega arith in
    four-rows c.args.old.now c.args.half c.first_row-first.result c.whole.result c.add.new.self c.add-2.new.self c.add-3.new.self c.add-4.new.self c.first_row-first.ensures
    (c.add.ensures.value ∙ ap (λ v. v ++ c.lifted_row.result) c.new-filling.ensures ∙ c.lifted_row.ensures.value)
    (c.add-2.ensures.value ∙ ap (λ v. c.add.new.self ++ v) c.lifted_row-2.ensures.value)
    (c.add-3.ensures.value ∙ ap (λ v. c.add-2.new.self ++ v) c.lifted_row-3.ensures.value)
    (c.add-4.ensures.value ∙ ap (λ v. c.add-3.new.self ++ v) c.lifted_row-4.ensures.value)
    long c.whole.ensures
