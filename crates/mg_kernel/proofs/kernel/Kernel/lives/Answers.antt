use Rattle.{mg_kernel.{proofs.{Counted.held-gone, Turned.{row-thread, unmapped}}, specs.Meaning.now_of}, std.proofs.Common.sym}
use Rattle.mg_kernel.proofs.kernel.Kernel.lives.Goals as goal

pub returns-in-Some : goal.returns-in-Some
unfolding now_of
returns-in-Some c image = sym (row-thread c.args.self.now.volume c.args.thread _ c.in-Some.ensures.found image)

pub returns-in-None : goal.returns-in-None
unfolding now_of
returns-in-None c image = sym (held-gone c.args.self.now.volume image c.args.thread (unmapped _ c.in-None.ensures.found))
