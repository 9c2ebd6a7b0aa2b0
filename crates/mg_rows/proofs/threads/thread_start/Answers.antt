use Rattle.{mg_model.specs.{Bytes.padded_to, Spelling.{thread_bytes, thread_read}}, mg_rows.proofs.{Padded.padded_twice, ThreadRows.thread-back}}
use Rattle.{mg_rows.proofs.ThreadRows.thread-spelled, std.proofs.Common.{◌≡◌, ap, refl, ◌∙◌, arith, rules}}
use Rattle.mg_rows.proofs.threads.thread_start.Goals as goal

pub returns : goal.returns
returns c =
    let bytes = c.add_frames.new.filling in
    let is : padded_to 4096 c.whole.result ≡ thread_bytes c.args.row.now =
    ap (padded_to 4096) c.whole.ensures
    ∙ padded_twice 704 4096 bytes (search rules) (omega arith)
    ∙ thread-spelled c.args.row.now (padded_to 4096 bytes) c.add_head.new.filling c.add_words.new.self bytes c.regs.result c.frames.result.now
    refl c.add_head.ensures.spelled c.add_words.ensures.value c.add_frames.ensures.value c.regs.ensures c.frames.ensures in
    record { spelled = is; read_back = ap thread_read is ∙ thread-back c.args.row.now c.add_head.ensures.kept }
