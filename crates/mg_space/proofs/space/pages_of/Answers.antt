use Rattle.{mg_model.specs.{Abbreviations.no_row, State.ObjectRow}, mg_space.proofs.Spans.{sum-more, sum-part}, std.proofs.Common.{◌+◌, ◌<◌, ℕ}}
use Rattle.std.proofs.Common.{arith, length}
use Rattle.mg_space.proofs.space.pages_of.Goals as goal

pub overflow_add-used : goal.overflow_add-used
overflow_add-used c =
    let objects = c.args.objects.now in
    let i = c.loop-i.i in
    let d : ℕ × ObjectRow = (0, no_row) in
    let e = c.len-i-end.ensures.count in
    let under : i < length objects = omega (arith, c.loop-i-test.true) in
    let more = sum-more objects i d c.nth_ref.result.now under (c.nth_ref.ensures d) in
    let part = sum-part objects (i + 1) (omega arith) (omega (arith, c.len-i-end.ensures.at_most_4096)) c.len-i-end.ensures.rows in
    omega (arith, c.loop-i.invariant, c.pages-used.ensures)

pub loop-i-preserved : goal.loop-i-preserved
loop-i-preserved c =
    let objects = c.args.objects.now in
    let i = c.loop-i.i in
    let d : ℕ × ObjectRow = (0, no_row) in
    let e = c.len-i-end.ensures.count in
    let under : i < length objects = omega (arith, c.loop-i-test.true) in
    let more = sum-more objects i d c.nth_ref.result.now under (c.nth_ref.ensures d) in
    omega (arith, c.loop-i.invariant, c.pages-used.ensures)
