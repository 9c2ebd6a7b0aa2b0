use Rattle.mg_model.specs.{Abbreviations.{frames_at, is_call_frame}, Bytes.number_at, Spelling.thread_fields, Tests.is_thread_row}
use Rattle.mg_rows.proofs.ThreadReads.{begins-first, count-broken, fields-found, none-if, none-is, rule-of, some-are}
use Rattle.mg_rows.proofs.threads.fields.Goals.{then-count-lt1-via-then-count-lt1, then-count-lt1-via-else-count-lt1+then-count-gt-MOST_FRAMES}
use Rattle.{mg_rows.specs.ThreadParts.{begins, with_frames}, std.proofs.{Common.{◌≡◌, min, nat_le, ◌∙◌, arith}, lemmas.Bool.{and_left, and_right}}}
use Rattle.std.{proofs.lemmas.Bool.lt-leb, specs.List.list_all}
use Rattle.mg_rows.proofs.threads.fields.Goals as goal

pub returns-then-count-lt1 : goal.returns-then-count-lt1
returns-then-count-lt1 c =
    let bytes = c.args.block.now in
    let n = c.number_at-count.result in
    let m = min n 17 in
    none-if (is_thread_row (thread_fields bytes)) (thread_fields bytes)
    (count-broken bytes n c.number_at-count.ensures
    (elim c.then-count-lt1.branch [
      | then-count-lt1-via-then-count-lt1 w ↦ let none = w.if-count-lt1.true in and_left (nat_le 1 m) (nat_le m 16) (lt-leb 1 m (omega arith))
      | then-count-lt1-via-else-count-lt1+then-count-gt-MOST_FRAMES w ↦ let many = w.if-count-gt-MOST_FRAMES.true in and_right (nat_le 1 m) (nat_le m 16) (lt-leb m 16 (omega arith))
    ]))

pub with_frames-requires-clause-begun : goal.with_frames-requires-clause-begun
with_frames-requires-clause-begun c = (some-are (begins c.args.block.now) c.in-Some.row (with_frames c.args.block.now 1) c.in-Some.ensures).same

pub with_frames-requires-clause-first : goal.with_frames-requires-clause-first
with_frames-requires-clause-first c = begins-first c.args.block.now (some-are (begins c.args.block.now) c.in-Some.row (with_frames c.args.block.now 1) c.in-Some.ensures).kept

pub returns-in-Some : goal.returns-in-Some
returns-in-Some c =
    let bytes = c.args.block.now in
    let count : c.number_at-count.result ≡ number_at bytes 40 = c.number_at-count.ensures in
    fields-found bytes c.number_at-count.result c.with_frames.result count (omega arith) (omega arith) (some-are (begins bytes) c.in-Some.row (with_frames bytes 1) c.in-Some.ensures).kept c.with_frames.ensures

pub returns-in-None : goal.returns-in-None
returns-in-None c =
    let bytes = c.args.block.now in
    let n = c.number_at-count.result in
    let count : n ≡ number_at bytes 40 = c.number_at-count.ensures in
    none-if (is_thread_row (thread_fields bytes)) (thread_fields bytes)
    (rule-of bytes n count (omega arith) (omega arith)
    ∙ and_left (begins bytes) (list_all is_call_frame (frames_at bytes 128 n)) (none-is (begins bytes) (with_frames bytes 1) c.in-None.ensures))
