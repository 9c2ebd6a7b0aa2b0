use Rattle.mg_kernel.specs.{Meaning.now_of, SteppingLemmas.{commits, stepped_same}}
use Rattle.mg_kernel.proofs.machine.KernelMachine.commit.Goals as goal

pub returns-in-Ok-clause-done : goal.returns-in-Ok-clause-done
returns-in-Ok-clause-done g c = λ image seen. commits (now_of c.args.self.now image) c.commit.new.self (g.D.Disk.seen c.commit.new.disk) (c.in-Ok.ensures.saves.done image seen)

pub returns-in-Ok-clause-stepped : goal.returns-in-Ok-clause-stepped
returns-in-Ok-clause-stepped g c = stepped_same c.args.self.now c.commit.new.self c.in-Ok.ensures.seats

pub returns-in-Err-clause-stepped : goal.returns-in-Err-clause-stepped
returns-in-Err-clause-stepped g c = stepped_same c.args.self.now c.commit.new.self c.in-Err.ensures.seats
