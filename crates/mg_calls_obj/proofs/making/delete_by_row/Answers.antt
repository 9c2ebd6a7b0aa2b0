use Rattle.{mg_calls_obj.proofs.{DropsBacked.gone_keeps, Rows.based_there}, mg_model.specs.State.ObjectRow, mg_volume.specs.Meaning.now_of}
use Rattle.{mg_volume.specs.Meaning.objects_in, std.{proofs.Common.{ap, ◌∙◌}, specs.{List.list_any, Prelude.◌==◌}}}
use Rattle.mg_calls_obj.proofs.making.delete_by_row.Goals as goal

pub remove-requires-clause-there : goal.remove-requires-clause-there
remove-requires-clause-there c =
    let rows = objects_in c.args.volume.now in
    ap (λ b. list_any (λ (r : ObjectRow). r.base == b) rows) c.base-base.ensures.value ∙ based_there rows c.args.object c.requires.held

pub returns-clause-others : goal.returns-clause-others
returns-clause-others c = λ image.
    let object : ObjectRow = c.args.object in
    gone_keeps c.objects_end_their_own_seats.ensures.gone (now_of c.args.volume.now image) (now_of c.remove.new.self image) c.base-base.result object.base c.base-base.ensures.value (c.remove.ensures.now image)
