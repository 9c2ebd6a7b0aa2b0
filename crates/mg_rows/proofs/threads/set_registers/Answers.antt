use Rattle.{mg_rows.proofs.ThreadReads.{row-more, row-registers}, std.proofs.Common.arith}
use Rattle.mg_rows.proofs.threads.set_registers.Goals as goal

pub loop-place-preserved : goal.loop-place-preserved
loop-place-preserved c =
    let eight = c.requires in
    row-more c.args.block.now c.args.row.now c.loop-place.row c.set_register.new.self c.loop-place.place c.number_at.result (omega arith) c.number_at.ensures c.loop-place.invariant c.set_register.ensures

pub returns : goal.returns
returns c = row-registers c.args.block.now c.args.row.now c.loop-place.row c.loop-place.place (omega arith) c.requires c.loop-place.invariant
