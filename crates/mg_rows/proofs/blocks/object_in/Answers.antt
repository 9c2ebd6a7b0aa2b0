use Rattle.{mg_model.specs.Spelling.object_read, std.proofs.Common.{◌≡◌, ◌*◌, ◌+◌, ◌-◌, drop, take, ap, ◌∙◌, arith}}
use Rattle.mg_rows.proofs.blocks.object_in.Goals as goal

pub returns : goal.returns
returns c =
    let at = 1024 * c.args.j in
    let e : at + 1024 - at ≡ 1024 = omega arith in
    c.read_object.ensures ∙ ap (λ k. object_read (take k (drop at c.args.block.now))) e
