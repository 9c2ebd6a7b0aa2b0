use Rattle.{mg_model.specs.Ranges.IsWord, std.proofs.{Common.rules, lemmas.List.Elements.All-from_get_or}}
use Rattle.mg_model.proofs.thread_rows.ThrRow.set_regs.Goals as goal

pub invariant_of-self : goal.invariant_of-self
invariant_of-self c =
    let old = c.self.invariant in
    record {
      birth = old.birth;
      creator = old.creator;
      pc = old.pc;
      aligned = old.aligned;
      eight = search rules;
      registers = All-from_get_or (λ x. IsWord x) c.args.regs 0 (λ i below. search rules);
      some_frame = old.some_frame;
      few_frames = old.few_frames;
      frames = old.frames;
      bottom = old.bottom;
    }
