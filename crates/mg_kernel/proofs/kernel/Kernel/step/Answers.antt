use Rattle.{mg_kernel.{proofs.Standing.{backed-of, sound-of, stands-formed, step-formed}, specs.Meaning.{is_live, words_in}}, std.proofs.Common.sym}
use Rattle.std.proofs.Common.{◌∙◌}
use Rattle.mg_kernel.proofs.kernel.Kernel.step.Goals as goal

pub answer-requires-clause-sound : goal.answer-requires-clause-sound
answer-requires-clause-sound g c = sound-of g.D.Disk c.args.self.now c.args.disk.now c.requires.stands

pub answer-requires-clause-backed : goal.answer-requires-clause-backed
answer-requires-clause-backed g c = backed-of g.D.Disk c.args.self.now c.args.disk.now c.requires.stands

pub returns-clause-serves : goal.returns-clause-serves
unfolding is_live words_in
returns-clause-serves g c =
    let was = sound-of g.D.Disk c.args.self.now c.args.disk.now c.requires.stands in record {
      stands = stands-formed g.D.Disk (record { volume = c.answer.new.volume; cache = c.answer.new.cache }) c.answer.new.disk c.answer.ensures.serves.stands
          (step-formed g.D.Disk c.args.self.now.volume c.answer.new.volume c.args.disk.now c.answer.new.disk c.args.line.now c.answer.result c.steps_keep_states_well_formed.ensures.kept c.keeps_ranges.ensures c.answer.ensures.serves.writes
          was.formed c.answer.ensures.answers c.answer.ensures.failed)
          (λ image told. c.answer.ensures.backed image (sym c.answer.ensures.serves.writes.same ∙ told));
      writes = c.answer.ensures.serves.writes;
      live = c.answer.ensures.serves.live;
      counted = c.answer.ensures.serves.counted;
    }
