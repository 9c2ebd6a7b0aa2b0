use Rattle.{mg_calls_obj.proofs.Rows.found_passes, mg_model.specs.State.ObjectRow, mg_volume.specs.Meaning.objects_in, std.proofs.Common.{sym, subst}}
use Rattle.std.{proofs.{Common.◌∙◌, lemmas.Bool.eqb-true}, specs.Prelude.{◌≡◌, ◌==◌, find, Some}}
use Rattle.mg_calls_obj.proofs.based.object_at.Goals as goal

pub returns-clause-base : goal.returns-clause-base
returns-clause-base c =
    let object : ObjectRow = c.in-Some.object in
    eqb-true object.base c.args.base (found_passes (λ (row : ObjectRow). row.base == c.args.base) (objects_in c.args.volume.now) object (sym c.object.ensures ∙ c.in-Some.is))

pub returns-clause-own : goal.returns-clause-own
returns-clause-own c =
    let object : ObjectRow = c.in-Some.object in
    subst (λ b. find (λ (row : ObjectRow). row.base == b) (objects_in c.args.volume.now) ≡ Some object) (sym (returns-clause-base c)) (sym c.object.ensures ∙ c.in-Some.is)
