use Rattle.mg_model.specs.{Access.{holds, last_slots}, Rights.has_right, State.ThreadRow, declared.rights.Right.TheVariants.R}
use Rattle.{mg_show.{proofs.Drawing.all-given, specs.Marking.{given, named_by}}, std.proofs.Common.{◌||◌, List, ℕ, ◌≤◌, arith, flat_map, length, ◌∙◌}}
use Rattle.std.{proofs.lemmas.List.take_all, specs.Prelude.slice_index_or}
use Rattle.mg_show.proofs.marks.mark_opened.Goals as goal

abbrev named : ℕ × ThreadRow → List (ℕ × ℕ)
named t = named_by (last_slots t.1.frames)

pub returns-clause-opened : goal.returns-clause-opened
returns-clause-opened c i below d =
    let shown = c.args.shown.now in
    let row = (slice_index_or shown.objects i d).1 in
    let end : length shown.threads.items ≤ c.loop-i.i = let past = c.loop-i-test.false in omega arith in
    let given = λ (threads : List (ℕ × ThreadRow)). given (holds shown.counters.period) (flat_map named threads) row R in
    c.loop-i.invariant.are i below d R
    ∙ (λ k. has_right (c.clear.ensures.zeros i k) R || given (take_all c.loop-i.i shown.threads.items end k))
    ∙ all-given shown.counters.period row shown.threads.items
