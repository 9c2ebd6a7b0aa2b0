use Rattle.{mg_model.specs.{Bytes.words_bytes, declared.slots.Pw.Pw}, mg_rows.proofs.ObjectRows.{length-words, padded}, std.proofs.Common.{◌≡◌, ◌++◌}}
use Rattle.std.proofs.{Common.{List, map, ap, ◌∙◌}, lemmas.List.take_all}
use Rattle.mg_rows.proofs.objects.add_untils.Goals as goal

pub returns-clause-value : goal.returns-clause-value
returns-clause-value c =
    let part = words_bytes (map (λ (pw : Pw). pw.until) c.args.passwords.now) in
    let mid : c.loop-pw.filling ≡ c.args.filling.now ++ part = c.loop-pw.invariant.value ∙ ap (λ (v : List Pw). c.args.filling.now ++ words_bytes (map (λ (pw : Pw). pw.until) v)) (take_all c.loop-pw.pw-index c.args.passwords.now c.loop-pw-test.false) in
    padded c.skip.new.self c.loop-pw.filling c.args.filling.now part 256 _ mid (length-words (λ (pw : Pw). pw.until) c.args.passwords.now) c.skip.ensures.value
