use Rattle.mg_kernel.specs.{Meaning.now_of, SteppingLemmas.{answers_line, stepped_line, stopped_line}}
use Rattle.mg_kernel.proofs.machine.KernelMachine.step.Goals as goal

pub returns-in-Ok-clause-answers : goal.returns-in-Ok-clause-answers
returns-in-Ok-clause-answers g c = λ image seen. answers_line (now_of c.args.self.now image) (now_of c.step.new.self image) c.args.line.now c.in-Ok.reply (c.in-Ok.ensures.answers.answers image seen)

pub returns-in-Ok-clause-traces : goal.returns-in-Ok-clause-traces
returns-in-Ok-clause-traces g c = λ image seen.
    stepped_line (record { stays = c.warm_keys_are_kept.ensures.stays; limit = c.warm_keys_are_kept.ensures.limit; events = c.costs_add_up.ensures.events; costs = c.costs_add_up.ensures.line }) c.args.self.now c.step.new.self image c.args.line.now c.args.steps.now c.step.new.steps (c.in-Ok.ensures.costs.keeps image seen)

pub returns-in-Err-clause-traces : goal.returns-in-Err-clause-traces
returns-in-Err-clause-traces g c = λ image seen.
    stopped_line (record { stays = c.warm_keys_are_kept.ensures.stays; limit = c.warm_keys_are_kept.ensures.limit; events = c.costs_add_up.ensures.events; costs = c.costs_add_up.ensures.line }) c.args.self.now c.step.new.self image c.args.line.now c.args.steps.now c.step.new.steps (c.in-Err.ensures.costs.limit image seen)
