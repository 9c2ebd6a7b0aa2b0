use Rattle.{mg_model.specs.Spelling.object_read, mg_rows.proofs.BlockParts.{beside, there}, std.proofs.Common.{rules, ◌≡◌, ◌+◌, ◌-◌, ◌*◌, length, ap}}
use Rattle.std.proofs.{Common.{◌∙◌, ⊎_elim, inl, inr, arith}, lemmas.Bool.cases_lt}
use Rattle.mg_rows.proofs.blocks.put_object.Goals as goal

pub returns-clause-here : goal.returns-clause-here
returns-clause-here c =
    let at = 1024 * c.args.j in
    let long : length c.write_object.new.out ≡ 1024 = search rules in
    let room : length c.args.block.now ≡ 4096 = search rules in
    ap object_read (there c.args.block.now c.write_object.new.out at (at + 1024 - at) 1024 long (let r = c.requires in omega arith)) ∙ c.write_object.ensures.read_back

pub returns-clause-others : goal.returns-clause-others
returns-clause-others c k low other =
    let at = 1024 * c.args.j in
    let long : length c.write_object.new.out ≡ 1024 = search rules in
    let room : length c.args.block.now ≡ 4096 = search rules in
    ap object_read (beside c.args.block.now c.write_object.new.out at (at + 1024 - at) 1024 (1024 * k) (omega arith) long (let r = c.requires in omega arith)
    (⊎_elim (λ below. inl (omega arith)) (λ above. inr (omega arith)) (cases_lt k c.args.j)))
