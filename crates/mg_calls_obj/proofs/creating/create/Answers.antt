use Rattle.{mg_calls_obj.proofs.NewObject.{create-is, created}, mg_volume.specs.{Meaning.now_of, RunLemmas.{call_made, call_refused}}}
use Rattle.std.{proofs.Common.{refl, sym, ◌∙◌, rules}, specs.Prelude.{◌*◌, Some, None}}
use Rattle.mg_calls_obj.proofs.creating.create.Goals as goal

pub returns-in-Some : goal.returns-in-Some
returns-in-Some c =
    call_refused _ _ _ _ (λ image spelled formed.
    create-is c.args.volume.now image c.args.pages c.args.account c.args.password (Some c.in-Some.word) (sym c.in-Some.is ∙ c.refusal.ensures.word))

pub returns-in-None : goal.returns-in-None
returns-in-None c =
    call_made _ _ _ _ _ (λ no. no) tt (λ image spelled formed.
    let v = c.args.volume.now in
    create-is v image c.args.pages c.args.account c.args.password None (sym c.in-None.is ∙ c.refusal.ensures.word)
    ∙ created (now_of v image) (now_of c.next_password-fresh.new.self image) (now_of c.insert.new.self image) c.args.pages c.args.account (4096 * c.first-base.result) c.first-base.result c.next_password-fresh.result c.first_row.result refl
    (c.first-base.ensures.lowest image) (c.next_password-fresh.ensures.drawn image) c.first_row.ensures (c.next_password-fresh.ensures.now image) (c.insert.ensures.now image)) (search rules)
