use Rattle.{mg_window.{proofs.Summed.one_more, specs.Devices.sum_at}, std.proofs.{Common.{◌∙◌, ap, sym, ◌%◌, ◌^◌}, Math.Nat.zero-mod}}
use Rattle.std.proofs.lemmas.List.{take_all}
use Rattle.mg_window.proofs.tape.added.Goals as goal

pub loop-entry-init : goal.loop-entry-init
loop-entry-init c = sym (zero-mod (2 ^ 64))

pub loop-entry-preserved : goal.loop-entry-preserved
loop-entry-preserved c =
    one_more c.args.tape.now c.args.off c.loop-entry.entry-index c.loop-entry.sum c.value_at-sum.result c.loop-entry-test.true c.loop-entry.invariant c.value_at-sum.ensures

pub returns : goal.returns
returns c =
    c.loop-entry.invariant
    ∙ ap (λ tape. sum_at tape c.args.off % 2 ^ 64) (take_all c.loop-entry.entry-index c.args.tape.now c.loop-entry-test.false)
