use Rattle.{mg_model.specs.{Bytes.padded_to, Spelling.{globals_bytes, globals_read}}, mg_rows.proofs.Reading.globals-back, std.proofs.Common.◌≡◌}
use Rattle.std.proofs.Common.{ap, ◌∙◌}
use Rattle.mg_rows.proofs.globals.spelling.Goals as goal

pub returns : goal.returns
returns c =
    let is : c.whole.result ≡ globals_bytes c.args.globals.now =
    c.whole.ensures
    ∙ ap (padded_to 4096) c.add_words.ensures.value
    ∙ rw (c.new-filling.ensures, c.draws.ensures.value, c.period.ensures, c.cursor.ensures, c.births.ensures) in
    record { spelled = is; read_back = ap globals_read is ∙ globals-back c.args.globals.now c.draws.ensures.kept }
