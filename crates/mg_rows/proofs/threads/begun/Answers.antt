use Rattle.{mg_model.specs.{Abbreviations.is_call_frame, Bytes.number_at, Spelling.frame_at, State.CallFrame}, mg_rows.proofs.ThreadReads.Are}
use Rattle.mg_rows.proofs.ThreadReads.{begins-all, begins-back, begins-creator, begins-frame, begins-pc, none-if, none-is, row-begun, some-are}
use Rattle.mg_rows.proofs.{ThreadReads.some-if, threads.begun.Goals.then-creator-birth-via-then-creator-birth}
use Rattle.mg_rows.{proofs.threads.begun.Goals.then-creator-birth-via-else-creator-birth+then-pc-ne0, specs.ThreadParts.{begins, with_frames}}
use Rattle.std.proofs.Common.{◌≡◌, ◌%◌, ◌==◌, sym, ap, ◌∙◌, arith}
use Rattle.mg_rows.proofs.threads.begun.Goals as goal

pub returns-then-creator-birth : goal.returns-then-creator-birth
returns-then-creator-birth c =
    let bytes = c.args.block.now in
    let birth : c.number_at-birth.result ≡ number_at bytes 8 = c.number_at-birth.ensures in
    let creator : c.number_at-creator.result ≡ number_at bytes 16 = c.number_at-creator.ensures in
    none-if (begins bytes) (with_frames bytes 1)
    (elim c.then-creator-birth.branch [
      | then-creator-birth-via-then-creator-birth w ↦ let high = w.if-creator-birth.true in begins-creator bytes (omega arith)
      | then-creator-birth-via-else-creator-birth+then-pc-ne0 w ↦ begins-pc bytes (λ e. w.if-pc-ne0.true (ap (λ n. n % 8) c.number_at-pc.ensures ∙ e))
    ])

pub returns-then-not-is_bottom : goal.returns-then-not-is_bottom
returns-then-not-is_bottom c =
    let bytes = c.args.block.now in
    let are : Are (is_call_frame (frame_at bytes 128)) c.in-Some.first (frame_at bytes 128) = some-are (is_call_frame (frame_at bytes 128)) c.in-Some.first (frame_at bytes 128) c.in-Some.ensures in
    none-if (begins bytes) (with_frames bytes 1)
    (begins-back bytes (ap (λ (f : CallFrame). f.back == 0) (sym are.same) ∙ sym c.is_bottom.ensures ∙ c.if-not-is_bottom.true))

pub returns-else-not-is_bottom : goal.returns-else-not-is_bottom
returns-else-not-is_bottom c =
    let bytes = c.args.block.now in
    let are : Are (is_call_frame (frame_at bytes 128)) c.in-Some.first (frame_at bytes 128) = some-are (is_call_frame (frame_at bytes 128)) c.in-Some.first (frame_at bytes 128) c.in-Some.ensures in
    let birth : c.number_at-birth.result ≡ number_at bytes 8 = c.number_at-birth.ensures in
    let creator : c.number_at-creator.result ≡ number_at bytes 16 = c.number_at-creator.ensures in
    let low = c.if-creator-birth.false in
    some-if (begins bytes) c.set_registers.new.row (with_frames bytes 1)
    (begins-all bytes (omega arith) (ap (λ n. n % 8) (sym c.number_at-pc.ensures) ∙ c.if-pc-ne0.false) are.kept
    (ap (λ (f : CallFrame). f.back == 0) (sym are.same) ∙ sym c.is_bottom.ensures ∙ c.if-not-is_bottom.false))
    (row-begun bytes c.set_registers.new.row c.set_state.new.self c.in-Some.first c.number_at-birth.result c.number_at-creator.result c.number_at-pc.result c.state_numbered.result
    c.set_registers.ensures (rw c.new-row.ensures at c.set_state.ensures) c.number_at-birth.ensures c.number_at-creator.ensures c.number_at-pc.ensures
    (rw c.number_at.ensures at c.state_numbered.ensures) are.same)

pub returns-in-None : goal.returns-in-None
returns-in-None c =
    let bytes = c.args.block.now in
    none-if (begins bytes) (with_frames bytes 1) (begins-frame bytes (none-is (is_call_frame (frame_at bytes 128)) (frame_at bytes 128) c.in-None.ensures))
