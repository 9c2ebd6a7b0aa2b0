use Rattle.mg_disk.specs.{Disk.{TornAt, only_place}, Runs.{leaves_quiet, torn_once}, Stops.MightHaveLeft}
use Rattle.mg_disk.proofs.syncing.write_firmly.Goals as goal

pub returns-in_err-write-clause-from_any : goal.returns-in_err-write-clause-from_any
returns-in_err-write-clause-from_any g c = torn_once g.D.Disk c.args.disk.now c.write.new.self (only_place c.args.i) c.write.ensures.stops

pub returns-clause-from_any : goal.returns-clause-from_any
returns-clause-from_any g c =
    let old = c.args.disk.now in
    leaves_quiet g.D.Disk old c.write.new.self c.sync.new.self (TornAt (only_place c.args.i) (MightHaveLeft g.D.Disk old))
    (torn_once g.D.Disk old c.write.new.self (only_place c.args.i) c.write.ensures.stops) c.sync.ensures.stops
