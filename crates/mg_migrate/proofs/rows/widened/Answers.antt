use Rattle.{mg_migrate.{proofs.MovedParts.{filled-up, parts}, specs.Widened.untils}, mg_model.specs.Bytes.bytes_at, std.proofs.Common.{◌≡◌, ◌++◌}}
use Rattle.std.proofs.Common.{length, replicate, ap, ◌∙◌, arith}
use Rattle.mg_migrate.proofs.rows.widened.Goals as goal

pub returns-clause-value : goal.returns-clause-value
returns-clause-value c =
    let b = c.args.bytes.now in
    let l1 = c.add_part.ensures.long in
    let l2 = c.add_part-2.ensures.long in
    let l3 = c.skip.ensures.long in
    let l4 = c.add_part-3.ensures.long in
    let l5 = c.skip-2.ensures.long in
    let l6 = c.add_part-4.ensures.long in
    let l7 = c.add_untils.ensures.long in
    let l0 : length c.new-filling.result ≡ 0 = ap length c.new-filling.ensures in
    let long : length c.add_untils.new.filling ≡ 752 = omega arith in
    filled-up c.whole.result c.add_untils.new.filling c.whole.ensures long
    ∙ parts c.add_part.new.filling c.add_part-2.new.filling c.skip.new.self c.add_part-3.new.filling c.skip-2.new.self c.add_part-4.new.filling c.add_untils.new.filling
    (bytes_at b 0 80) (bytes_at b 80 128) (bytes_at b 208 16) (bytes_at b 224 128) (untils c.number_at.result) (replicate 128 0) (replicate 16 0) (replicate 272 0)
    (c.add_part.ensures.value ∙ ap (λ v. v ++ bytes_at b 0 80) c.new-filling.ensures)
    c.add_part-2.ensures.value c.skip.ensures.value c.add_part-3.ensures.value c.skip-2.ensures.value c.add_part-4.ensures.value c.add_untils.ensures.value
    ∙ ap (λ n. bytes_at b 0 80 ++ ((bytes_at b 80 128 ++ replicate 128 0) ++ ((bytes_at b 208 16 ++ replicate 16 0) ++ (bytes_at b 224 128 ++ (untils n ++ replicate 272 0))))) c.number_at.ensures
