use Rattle.{mg_kernel.{proofs.Standing.{backed-of, sound-of, stands-formed}, specs.Meaning.{is_live, words_in}}, std.proofs.Common.{rules, sym, ◌∙◌}}
use Rattle.mg_kernel.proofs.kernel.Kernel.probe.Goals as goal

pub validate-requires-clause-sound : goal.validate-requires-clause-sound
validate-requires-clause-sound g c = sound-of g.D.Disk c.args.self.now c.args.disk.now c.requires.stands

pub validate-requires-clause-backed : goal.validate-requires-clause-backed
validate-requires-clause-backed g c = backed-of g.D.Disk c.args.self.now c.args.disk.now c.requires.stands

pub returns-clause-serves : goal.returns-clause-serves
unfolding is_live words_in
returns-clause-serves g c =
    let after = c.validate.ensures.finds.reads.sound (sound-of g.D.Disk c.args.self.now c.args.disk.now c.requires.stands) in record {
      stands = stands-formed g.D.Disk (record { volume = c.validate.new.volume; cache = c.validate.new.cache }) c.validate.new.disk after.stands after.formed (λ image told. c.validate.ensures.finds.backed image (sym c.validate.ensures.finds.reads.writes.same ∙ told));
      writes = c.validate.ensures.finds.reads.writes;
      live = search rules;
      counted = c.validate.ensures.finds.reads.counted;
    }
