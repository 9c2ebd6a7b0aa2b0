use Rattle.mg_vcache.proofs.{Dropped.{RowDropped, row_done, row_more, row_skipped}, dropping.drop_in_row.Goals.{then-marks-row, else-marks-row}}
use Rattle.{mg_vcache.specs.EndedSeats.ended_of, std.proofs.Common.{subst, sym, arith, ◌+◌}}
use Rattle.mg_vcache.proofs.dropping.drop_in_row.Goals as goal

pub loop-group-preserved : goal.loop-group-preserved
loop-group-preserved c =
    let ended = ended_of c.args.ended in
    let old = c.args.seats.now in
    let group = c.loop-group.group in
    elim c.if-marks-row.branch [
      | then-marks-row w ↦ subst (λ s. RowDropped (group + 1) ended old s c.if-marks-row.marks) (sym w.seats-is)
          (subst (RowDropped (group + 1) ended old w.drop_in_group.new.seats) (sym w.marks-is)
          (row_more group c.args.row ended old c.loop-group.seats w.drop_in_group.new.seats c.loop-group.marks w.drop_in_group.result c.loop-group.invariant (omega arith) c.requires.row w.drop_in_group.ensures.dropped w.drop_in_group.ensures.seats w.drop_in_group.ensures.left))
      | else-marks-row w ↦ subst (λ s. RowDropped (group + 1) ended old s c.if-marks-row.marks) (sym w.seats-is)
          (subst (RowDropped (group + 1) ended old c.loop-group.seats) (sym w.marks-is)
          (row_skipped group c.args.row ended old c.loop-group.seats c.loop-group.marks c.loop-group.invariant c.requires.in_row w.if-marks-row.false))
    ]

pub returns-clause-dropped : goal.returns-clause-dropped
returns-clause-dropped c = row_done (ended_of c.args.ended) c.args.seats.now c.loop-group.seats c.loop-group.marks c.requires.seats (subst (λ n. RowDropped n (ended_of c.args.ended) c.args.seats.now c.loop-group.seats c.loop-group.marks) (omega arith) c.loop-group.invariant)
