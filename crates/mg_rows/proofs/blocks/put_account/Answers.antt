use Rattle.{mg_model.specs.Spelling.account_read, mg_rows.proofs.BlockParts.{beside, there}, std.proofs.Common.{rules, ◌≡◌, ◌+◌, ◌-◌, ◌*◌, length}}
use Rattle.std.proofs.{Common.{ap, ◌∙◌, ⊎_elim, inl, inr, arith}, lemmas.Bool.cases_lt}
use Rattle.mg_rows.proofs.blocks.put_account.Goals as goal

pub returns-clause-here : goal.returns-clause-here
returns-clause-here c =
    let at = 64 * c.args.j in
    let long : length c.write_account.new.out ≡ 64 = search rules in
    let room : length c.args.block.now ≡ 4096 = search rules in
    ap account_read (there c.args.block.now c.write_account.new.out at (at + 64 - at) 64 long (let r = c.requires in omega arith)) ∙ c.write_account.ensures.read_back

pub returns-clause-others : goal.returns-clause-others
returns-clause-others c k low other =
    let at = 64 * c.args.j in
    let long : length c.write_account.new.out ≡ 64 = search rules in
    let room : length c.args.block.now ≡ 4096 = search rules in
    ap account_read (beside c.args.block.now c.write_account.new.out at (at + 64 - at) 64 (64 * k) (omega arith) long (let r = c.requires in omega arith)
    (⊎_elim (λ below. inl (omega arith)) (λ above. inr (omega arith)) (cases_lt k c.args.j)))
