use Rattle.{mg_disk.specs.{Runs.still_seen, Stops.WritesNothing}, mg_journal.{proofs.AfterReads.{after_reads, of_reads}, specs.Recovery.MayCloseOne}}
use Rattle.std.proofs.Common.{refl, inl}
use Rattle.mg_journal.proofs.recovering.close_gate.Goals as goal

pub returns-then-is_opened-clause-any_moment : goal.returns-then-is_opened-clause-any_moment
returns-then-is_opened-clause-any_moment g c pending =
    let reads : WritesNothing g.D.Disk c.args.disk.now c.read.new.self = record { same = c.read.ensures.seen; stops = c.read.ensures.stops } in
    after_reads g.D.Disk c.args.disk.now c.read.new.self (MayCloseOne c.args.segment) (λ a. inl refl) reads pending c.close_open-then-is_opened.new.disk
    (c.close_open-then-is_opened.ensures.any_moment (still_seen g.D.Disk c.args.disk.now c.read.new.self pending c.read.ensures.seen c.read.ensures.stops))

pub returns-else-is_opened-clause-any_moment : goal.returns-else-is_opened-clause-any_moment
returns-else-is_opened-clause-any_moment g c pending =
    of_reads g.D.Disk c.args.disk.now c.read.new.self (MayCloseOne c.args.segment) (λ a. inl refl) (record { same = c.read.ensures.seen; stops = c.read.ensures.stops }) pending

pub returns-in_err-read-clause-any_moment : goal.returns-in_err-read-clause-any_moment
returns-in_err-read-clause-any_moment g c pending =
    of_reads g.D.Disk c.args.disk.now c.read.new.self (MayCloseOne c.args.segment) (λ a. inl refl) (record { same = c.read.ensures.seen; stops = c.read.ensures.stops }) pending

pub returns-else-is_opened-clause-settled : goal.returns-else-is_opened-clause-settled
returns-else-is_opened-clause-settled g c pending = still_seen g.D.Disk c.args.disk.now c.read.new.self pending c.read.ensures.seen c.read.ensures.stops
