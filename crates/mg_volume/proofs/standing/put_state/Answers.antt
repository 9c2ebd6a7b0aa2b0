use Rattle.{mg_model.specs.Spelling.thread_bytes, mg_rows.specs.ThreadParts.with_word, mg_volume.proofs.Respelled.goes_on, std.proofs.Common.◌∙◌}
use Rattle.std.proofs.Common.{ap}
use Rattle.mg_volume.proofs.standing.put_state.Goals as goal

pub returns : goal.returns
returns c p first row is told =
    goes_on c.args.block 32 c.state_number.result first row (record row { state = c.args.new }) p c.args.pages.now c.put-staged.new.self
    (ap (λ n. with_word 32 n (thread_bytes row)) c.state_number.ensures ∙ c.threads_change_by_words.ensures.state row c.args.new) c.put-staged.ensures.put told
