use Rattle.{mg_model.specs.{Abbreviations.{frames_at, is_call_frame}, Spelling.frame_at, State.ThreadRow}, mg_rows.proofs.ThreadReads.Are}
use Rattle.mg_rows.proofs.ThreadReads.{frames-broken, frames-kept, length-frames_at, none-if, none-is, some-are, some-if, thread-more}
use Rattle.{mg_rows.specs.ThreadParts.with_frames, std.proofs.{Common.{◌≡◌, ◌+◌, ◌*◌, true, length, refl, sym, ap, ◌∙◌, arith}, lemmas.Bool.and_from}}
use Rattle.std.specs.List.{list_all}
use Rattle.mg_rows.proofs.threads.with_frames.Goals as goal

pub loop-place-init : goal.loop-place-init
loop-place-init c = record { row = c.requires.begun; kept = and_from (is_call_frame (frame_at c.args.block.now 128)) true c.requires.first refl }

pub push_frame-requires : goal.push_frame-requires
push_frame-requires c =
    let long : length c.loop-place.row.frames ≡ c.loop-place.place = ap (λ (row : ThreadRow). length row.frames) c.loop-place.invariant.row ∙ length-frames_at c.args.block.now 128 c.loop-place.place in
    let few = c.requires.count_at_most_16 in
    omega arith

pub returns-in-None : goal.returns-in-None
returns-in-None c =
    let bytes = c.args.block.now in
    let o = 128 + 144 * c.loop-place.place in
    none-if (list_all is_call_frame (frames_at bytes 128 c.args.count)) (with_frames bytes c.args.count)
    (frames-broken bytes 128 c.args.count c.loop-place.place o c.loop-place-test.true refl (none-is (is_call_frame (frame_at bytes o)) (frame_at bytes o) c.in-None.ensures))

pub loop-place-preserved : goal.loop-place-preserved
loop-place-preserved c =
    let bytes = c.args.block.now in
    let o = 128 + 144 * c.loop-place.place in
    let are : Are (is_call_frame (frame_at bytes o)) c.in-Some.frame (frame_at bytes o) = some-are (is_call_frame (frame_at bytes o)) c.in-Some.frame (frame_at bytes o) c.in-Some.ensures in
    record {
      row = thread-more bytes c.loop-place.row c.push_frame.new.self c.in-Some.frame c.loop-place.place o refl c.loop-place.invariant.row are.same c.push_frame.ensures;
      kept = frames-kept bytes c.loop-place.place o refl c.loop-place.invariant.kept are.kept;
    }

pub returns : goal.returns
returns c =
    let bytes = c.args.block.now in
    let some = c.requires.count_at_least_1 in
    let end = c.loop-place.auto.place-end in
    let is : c.loop-place.place ≡ c.args.count = omega arith in
    some-if (list_all is_call_frame (frames_at bytes 128 c.args.count)) c.loop-place.row (with_frames bytes c.args.count)
    (ap (λ n. list_all is_call_frame (frames_at bytes 128 n)) (sym is) ∙ c.loop-place.invariant.kept)
    (c.loop-place.invariant.row ∙ ap (with_frames bytes) is)
