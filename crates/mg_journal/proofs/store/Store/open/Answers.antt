use Rattle.{mg_disk.specs.Runs.left_still, mg_journal.proofs.OpenSteps.{contents_kept, contents_still, looked_then, same_error}}
use Rattle.{mg_journal.specs.{Contents.SameContents, Standing.IsOpened}, std.proofs.Common.{◌∙◌, arith, subst, sym}}
use Rattle.mg_journal.proofs.store.Store.open.Goals as goal

pub returns-in-Err-clause-any_moment : goal.returns-in-Err-clause-any_moment
returns-in-Err-clause-any_moment g c image told = left_still g.D.Disk _ _ (SameContents c.args.total image) (g.met.D.Disk.now_has_been c.args.disk.now) c.look.ensures.reads.writes.stops

pub returns-in-Err-clause-contents : goal.returns-in-Err-clause-contents
returns-in-Err-clause-contents g c = contents_still c.args.total _ _ c.look.ensures.reads.writes.same

pub returns-in-Err-clause-damaged : goal.returns-in-Err-clause-damaged
returns-in-Err-clause-damaged g c is = c.look.ensures.damaged (c.in-Err.is ∙ same_error _ _ is)

pub recover-requires : goal.recover-requires
recover-requires g c = record {
  looks = record {
    journal = omega (arith, c.requires.journal, c.in-Ok.ensures.total);
    room = omega (arith, c.requires.within_disk, c.in-Ok.ensures.total, c.look.ensures.reads.calls.blocks);
    fits = λ image told. c.in-Ok.ensures.fits image (sym c.look.ensures.reads.writes.same ∙ told);
  };
}

pub returns-in-Ok-recover-clause-any_moment : goal.returns-in-Ok-recover-clause-any_moment
returns-in-Ok-recover-clause-any_moment g c image told =
    looked_then g.D.Disk _ _ _ _ _ image (g.met.D.Disk.now_has_been c.args.disk.now) c.look.ensures.reads.writes.stops c.in-Ok.ensures.total (c.recover.ensures.any_moment image (c.look.ensures.reads.writes.same ∙ told))

pub returns-in-Ok-recover-clause-contents : goal.returns-in-Ok-recover-clause-contents
returns-in-Ok-recover-clause-contents g c = contents_kept _ _ c.in-Ok.ensures.total _ _ _ c.look.ensures.reads.writes.same c.recover.ensures.contents

pub returns-in-Ok-recover-clause-opened : goal.returns-in-Ok-recover-clause-opened
returns-in-Ok-recover-clause-opened g c = subst (λ n. IsOpened g.D.Disk n c.in-Ok-recover.store c.recover.new.disk) c.in-Ok.ensures.total c.in-Ok-recover.ensures.opened

pub returns-in-Err-recover-clause-any_moment : goal.returns-in-Err-recover-clause-any_moment
returns-in-Err-recover-clause-any_moment g c image told =
    looked_then g.D.Disk _ _ _ _ _ image (g.met.D.Disk.now_has_been c.args.disk.now) c.look.ensures.reads.writes.stops c.in-Ok.ensures.total (c.recover.ensures.any_moment image (c.look.ensures.reads.writes.same ∙ told))

pub returns-in-Err-recover-clause-contents : goal.returns-in-Err-recover-clause-contents
returns-in-Err-recover-clause-contents g c = contents_kept _ _ c.in-Ok.ensures.total _ _ _ c.look.ensures.reads.writes.same c.recover.ensures.contents
