use Rattle.{mg_model.specs.Spelling.account_read, std.proofs.Common.{◌≡◌, ◌*◌, ◌+◌, ◌-◌, drop, take, ap, ◌∙◌, arith}}
use Rattle.mg_rows.proofs.blocks.account_in.Goals as goal

pub returns : goal.returns
returns c =
    let at = 64 * c.args.j in
    let e : at + 64 - at ≡ 64 = omega arith in
    c.read_account.ensures ∙ ap (λ k. account_read (take k (drop at c.args.block.now))) e
