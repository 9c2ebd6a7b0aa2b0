use Rattle.{mg_calls_obj.proofs.DropsBacked.others_stay, mg_model.specs.State.ObjectRow}
use Rattle.mg_calls_obj.proofs.based.pwdel.Goals as goal

pub returns-clause-backed : goal.returns-clause-backed
returns-clause-backed c =
    let object : ObjectRow = c.object_at-object.result in
    others_stay object.base c.args.volume.now c.pwdel_by_row.new.volume c.args.cache.now c.pwdel_by_row.new.cache c.pwdel_by_row.result c.pwdel_by_row.ensures.others c.pwdel_by_row.ensures.does.refused c.pwdel_by_row.ensures.seats
