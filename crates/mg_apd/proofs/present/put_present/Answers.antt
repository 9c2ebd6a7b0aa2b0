use Rattle.{mg_apd.proofs.Last.last_put, mg_model.specs.State.ThreadRow, std.proofs.Common.{ap, ◌∙◌}}
use Rattle.mg_apd.proofs.present.put_present.Goals as goal

pub returns : goal.returns
returns c =
    let row : ThreadRow = c.args.row.now in
    c.set_last.ensures.row ∙ ap (λ frames. record row { frames = frames }) (last_put row.frames c.args.last c.set_last.ensures.some_frame c.requires)
