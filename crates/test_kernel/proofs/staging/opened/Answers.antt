use Rattle.test_kernel.proofs.FreshOpened.{fresh_seen}
use Rattle.test_kernel.proofs.staging.opened.Goals as goal

pub returns-in-Ok : goal.returns-in-Ok
returns-in-Ok c = fresh_seen c.args.params.now c.in-Ok.volume _ _ c.requires.made c.in-Ok.ensures.opened.opens c.requires.frames c.in-Ok.ensures.opened.staged
