use Rattle.{mg_model.specs.Spelling.{thread_bytes, thread_read}, mg_rows.proofs.ThreadRows.{thread-back, thread-spelled}, std.proofs.Common.{◌≡◌, ap}}
use Rattle.std.proofs.Common.{◌∙◌}
use Rattle.mg_rows.proofs.threads.spelling.Goals as goal

pub returns : goal.returns
returns c =
    let is : c.whole.result ≡ thread_bytes c.args.row.now =
    thread-spelled c.args.row.now c.whole.result c.add_head.new.filling c.add_words.new.self c.add_frames.new.filling c.regs.result c.frames.result.now
    c.whole.ensures c.add_head.ensures.spelled c.add_words.ensures.value c.add_frames.ensures.value c.regs.ensures c.frames.ensures in
    record { spelled = is; read_back = ap thread_read is ∙ thread-back c.args.row.now c.add_head.ensures.kept }
