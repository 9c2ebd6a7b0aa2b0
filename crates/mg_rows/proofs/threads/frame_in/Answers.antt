use Rattle.{mg_model.specs.{Abbreviations.is_call_frame, Bytes.number_at, Spelling.frame_at}, mg_rows.proofs.ThreadReads.{frame-kept, frame-same}}
use Rattle.{mg_rows.proofs.ThreadReads.some-if, std.proofs.Common.{◌≡◌, ◌≤◌, ◌+◌, ◌%◌, sym, ap, ◌∙◌, arith}}
use Rattle.mg_rows.proofs.threads.frame_in.Goals as goal

pub returns : goal.returns
returns c =
    let bytes = c.args.block.now in
    let at = c.args.at in
    let back : c.number_at-back.result ≡ number_at bytes at = c.number_at-back.ensures in
    let count : c.number_at-count.result ≡ number_at bytes (at + 8) = c.number_at-count.ensures in
    let aligned : number_at bytes at % 8 ≡ 0 = ap (λ n. n % 8) (sym back) ∙ c.if-back-ne0.false in
    let few : c.number_at-count.result ≤ 8 = omega arith in
    some-if (is_call_frame (frame_at bytes at)) c.add_slots_of.new.frame (frame_at bytes at)
    (frame-kept bytes at aligned (omega arith))
    (frame-same bytes c.add_slots_of.new.frame at c.number_at-back.result c.number_at-count.result back count few (rw c.new-frame.ensures at c.add_slots_of.ensures))
