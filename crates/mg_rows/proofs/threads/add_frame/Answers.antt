use Rattle.mg_rows.proofs.ThreadRows.{frame-filled}
use Rattle.mg_rows.proofs.threads.add_frame.Goals as goal

pub returns-clause-value : goal.returns-clause-value
returns-clause-value g c =
    frame-filled c.args.frame.now c.back.result c.slots-slots.result.now c.args.filling.now c.add_words.new.self c.add_slots.new.filling c.skip.new.self
    c.back.ensures.value c.slots-slots.ensures c.add_words.ensures.value c.add_slots.ensures.value c.skip.ensures.value
