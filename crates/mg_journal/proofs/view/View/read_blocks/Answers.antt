use Rattle.{mg_journal.proofs.ReadTogether.newest_more, std.proofs.Common.{◌<◌, ◌∙◌, sym, arith, length}}
use Rattle.mg_journal.proofs.view.View.read_blocks.Goals as goal

pub loop-k-preserved : goal.loop-k-preserved
loop-k-preserved g c =
    let inside : c.loop-k.k < length c.loop-k.out = omega (arith, c.loop-k-test.true, c.loop-k.auto.out) in
    newest_more g.D.Disk c.args.self.now.total c.args.first c.loop-k.out c.loop-k.k (length c.args.out.now) c.args.disk.now c.loop-k.disk c.read_newer.new.disk c.read_newer.new.block _ c.loop-k.invariant inside c.in_ok-read_newer.ensures.block c.in_ok-read_newer.ensures.reads

pub returns : goal.returns
returns g c =
    let inv = c.loop-k.invariant in
    record {
      read = λ image told r is k below. inv.newest image told r is k (omega (arith, below, c.loop-k-test.false, c.loop-k.auto.out));
      count = inv.same_count;
      reads = record { writes = inv.writes; calls = record { count = inv.goes_on; blocks = inv.room; cause = tt } };
    }

pub read_newer-requires : goal.read_newer-requires
read_newer-requires g c =
    let inv = c.loop-k.invariant in
    let inside : c.loop-k.k < length c.loop-k.out = omega (arith, c.loop-k-test.true, c.loop-k.auto.out) in
    record {
      place = omega (arith, inside, inv.same_count, c.requires.place);
      within_disk = omega (arith, inv.room, c.requires.within_disk);
      fits = λ image told. c.requires.fits image (sym inv.writes.same ∙ told);
      home = λ image told. sym (inv.homes image (sym inv.writes.same ∙ told) c.loop-k.k (omega arith) inside);
    }
