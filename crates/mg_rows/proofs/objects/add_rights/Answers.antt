use Rattle.{mg_model.specs.declared.slots.Pw.Pw, mg_rows.proofs.ObjectRows.padded, std.proofs.Common.{◌≡◌, ◌++◌, List, map, ap, ◌∙◌}}
use Rattle.std.proofs.lemmas.List.{take_all, length-map}
use Rattle.mg_rows.proofs.objects.add_rights.Goals as goal

pub returns-clause-value : goal.returns-clause-value
returns-clause-value c =
    let part = map (λ (pw : Pw). pw.rights) c.args.passwords.now in
    let mid : c.loop-pw.filling ≡ c.args.filling.now ++ part = c.loop-pw.invariant.value ∙ ap (λ (v : List Pw). c.args.filling.now ++ map (λ (pw : Pw). pw.rights) v) (take_all c.loop-pw.pw-index c.args.passwords.now c.loop-pw-test.false) in
    padded c.skip.new.self c.loop-pw.filling c.args.filling.now part 32 _ mid (length-map c.args.passwords.now (λ (pw : Pw). pw.rights)) c.skip.ensures.value
