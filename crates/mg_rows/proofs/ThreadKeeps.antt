-- What a thread's row keeps, as the test that computes.
use Rattle.mg_model.specs.{Abbreviations.{first_back, is_call_frame}, Ranges.{IsCallFrame, IsThreadRow}, State.{CallFrame, ThreadRow}}
use Rattle.{mg_model.specs.Tests.is_thread_row, std.proofs.Common.{arith, ◌≡◌, nat_le, nat_lt, ◌==◌, ◌%◌, true, [], ◌∷◌, List, All, length, refl}}
use Rattle.std.{proofs.lemmas.{Bool.{and_from, eq-eqb, le-leb, lt-ltb}, List.Elements.{All-head, All-tail}}, specs.List.list_all}

pub frame-keeps : (frame : CallFrame) → IsCallFrame frame → is_call_frame frame ≡ true
frame-keeps frame is = and_from (frame.back % 8 == 0) (nat_le (length frame.slots) 8) (eq-eqb (frame.back % 8) 0 is.aligned) (le-leb (length frame.slots) 8 is.few)

frames-keep : (frames : List CallFrame) → All IsCallFrame frames → list_all is_call_frame frames ≡ true
frames-keep [] all = refl
frames-keep (frame ∷ frames) all =
    grind (arith, (frames-keep frames (All-tail IsCallFrame frame frames all)), and_from, frame-keeps, All-head, All-tail)

-- a row that keeps what `Ranges` says passes the test
pub thread-keeps : (row : ThreadRow) → IsThreadRow row → is_thread_row row ≡ true
thread-keeps row is =
    let creator : nat_lt row.creator row.birth ≡ true = lt-ltb row.creator row.birth is.creator in
    let aligned : (row.pc % 8 == 0) ≡ true = eq-eqb (row.pc % 8) 0 is.aligned in
    let some : nat_le 1 (length row.frames) ≡ true = le-leb 1 (length row.frames) is.some_frame in
    let few : nat_le (length row.frames) 16 ≡ true = le-leb (length row.frames) 16 is.few_frames in
    let bottom : (first_back row.frames == 0) ≡ true = eq-eqb (first_back row.frames) 0 is.bottom in
    and_from _ _ (and_from _ _ (and_from _ _ (and_from _ _ creator aligned) (and_from _ _ some few)) (frames-keep row.frames is.frames)) bottom
