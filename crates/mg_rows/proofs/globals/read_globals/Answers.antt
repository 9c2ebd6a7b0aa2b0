use Rattle.{mg_model.specs.Spelling.globals_fields, mg_rows.proofs.Reading.globals-none, std.proofs.Common.{◌≡◌, sym}}
use Rattle.mg_rows.proofs.globals.read_globals.Goals as goal

pub returns-else-eq : goal.returns-else-eq
returns-else-eq c =
    let bytes = c.args.block.now in
    let same : c.new-globals.result ≡ globals_fields bytes = cc in
    let spelled = c.spelling.ensures.spelled in
    sym (globals-none bytes c.new-globals.result same (cc))
