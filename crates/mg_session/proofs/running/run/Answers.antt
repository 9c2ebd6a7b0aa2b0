use Rattle.mg_commands.specs.{Headline.{IsCounted, IsWithinCost}, OpeningLemmas.{fault_tells, lines_opened, lines_unopened, no_volume, none_spent}}
use Rattle.mg_commands.specs.OpeningLemmas.{opened_then, traced_cost, traced_counts, unopened, unopened_counted, untouched}
use Rattle.{mg_disk.specs.Stops.WritesNothing, mg_kernel.specs.Meaning.now_of, mg_layout.specs.MayFormat.IsNoState, mg_model.specs.Print.replies_text}
use Rattle.{mg_model.specs.Step.after, mg_session.proofs.Opened.opens_as, std.{proofs.Common.{ap, refl, subst}, specs.Prelude.Err}}
use Rattle.mg_session.proofs.running.run.Goals as goal

pub returns-in-Ok-clause-keeps : goal.returns-in-Ok-clause-keeps
returns-in-Ok-clause-keeps g c = record {
  lines = lines_opened g.D.Disk g.S.Source g.K.Sink replies_text after c.args.batch _ (λ image. now_of c.in-Ok.kernel image) c.in-Ok.kernel c.run.new.machine c.run.result c.args.disk.now c.open.new.disk c.run.new.disk c.args.source.now c.run.new.source c.args.sink.now c.run.new.sink c.args.steps.now c.run.new.steps
      (λ image seen. opens_as c.in-Ok.kernel _ _ (c.in-Ok.ensures.opens image seen)) c.in-Ok.ensures.any_moment c.in-Ok.ensures.calls.count (λ image. refl) (λ image. refl) (λ s. refl) c.run.ensures.serves;
  costs = record {
    cost = opened_then (λ image. now_of c.in-Ok.kernel image) (g.D.Disk.seen c.args.disk.now) (g.D.Disk.seen c.open.new.disk) (λ s. IsWithinCost s c.run.result (g.S.Source.left c.args.source.now) (g.S.Source.left c.run.new.source) c.args.steps.now c.run.new.steps)
        (λ image seen. opens_as c.in-Ok.kernel _ _ (c.in-Ok.ensures.opens image seen))
        (λ image seen. traced_cost _ c.costs_add_up.ensures.prefix c.args.batch c.run.result c.in-Ok.kernel c.run.new.machine image (now_of c.in-Ok.kernel image) (g.S.Source.left c.args.source.now) (g.S.Source.left c.run.new.source) (g.K.Sink.taken c.args.sink.now) (g.K.Sink.taken c.run.new.sink) c.args.steps.now c.run.new.steps
        (λ ls st. st.spent) (λ ls st. st) (c.run.ensures.serves.traces image seen));
    counts = opened_then (λ image. now_of c.in-Ok.kernel image) (g.D.Disk.seen c.args.disk.now) (g.D.Disk.seen c.open.new.disk) (λ s. IsCounted s c.run.result (g.S.Source.left c.args.source.now) (g.K.Sink.taken c.args.sink.now) (g.K.Sink.taken c.run.new.sink) c.args.steps.now c.run.new.steps)
        (λ image seen. opens_as c.in-Ok.kernel _ _ (c.in-Ok.ensures.opens image seen))
        (λ image seen. traced_counts _ c.args.batch c.run.result c.in-Ok.kernel c.run.new.machine image (now_of c.in-Ok.kernel image) (g.S.Source.left c.args.source.now) (g.S.Source.left c.run.new.source) (g.K.Sink.taken c.args.sink.now) (g.K.Sink.taken c.run.new.sink) c.args.steps.now c.run.new.steps
        (λ ls st. st.counts) (c.run.ensures.serves.traces image seen));
    none_steps = λ h. absurd (no_volume c.run.result c.run.ensures.serves.which h);
    untouched_steps = λ image seen no_state. absurd (subst IsNoState (c.in-Ok.ensures.opens image seen).is no_state);
  };
}

pub returns-in-Err-clause-keeps : goal.returns-in-Err-clause-keeps
returns-in-Err-clause-keeps g c = record {
  lines = lines_unopened g.D.Disk g.S.Source g.K.Sink replies_text after c.args.batch c.in-Err.fault c.put_fault.result c.args.disk.now c.open.new.disk c.args.source.now c.args.sink.now c.put_fault.new.sink c.args.steps.now
      (fault_tells c.in-Err.fault (g.D.Disk.seen c.args.disk.now) (λ h. (c.in-Err.ensures.not h).is) (λ h. (c.in-Err.ensures.old h).is) (λ h. (c.in-Err.ensures.damaged h).is)) c.put_fault.ensures.ends
      (untouched c.in-Err.fault (WritesNothing g.D.Disk c.args.disk.now c.open.new.disk) (λ h. (c.in-Err.ensures.not h).untouched) (λ h. (c.in-Err.ensures.old h).untouched) (λ h. (c.in-Err.ensures.damaged h).untouched))
      c.in-Err.ensures.untouched c.put_fault.ensures.quiet c.put_fault.ensures.put c.put_fault.ensures.prefix c.put_fault.ensures.sink (λ is. c.in-Err.ensures.calls.cause (ap (λ fault. Err fault) is)) c.in-Err.ensures.any_moment (λ s. refl) (λ s. refl);
  costs = record {
    cost = unopened c.in-Err.fault (g.D.Disk.seen c.args.disk.now) (λ s. IsWithinCost s c.put_fault.result (g.S.Source.left c.args.source.now) (g.S.Source.left c.args.source.now) c.args.steps.now c.args.steps.now)
        (fault_tells c.in-Err.fault (g.D.Disk.seen c.args.disk.now) (λ h. (c.in-Err.ensures.not h).is) (λ h. (c.in-Err.ensures.old h).is) (λ h. (c.in-Err.ensures.damaged h).is))
        (λ quiet image is s spelled. none_spent s c.put_fault.result (g.S.Source.left c.args.source.now) c.args.steps.now);
    counts = unopened_counted c.in-Err.fault (g.D.Disk.seen c.args.disk.now) c.put_fault.result (g.S.Source.left c.args.source.now) (g.K.Sink.taken c.args.sink.now) (g.K.Sink.taken c.put_fault.new.sink) c.args.steps.now
        (fault_tells c.in-Err.fault (g.D.Disk.seen c.args.disk.now) (λ h. (c.in-Err.ensures.not h).is) (λ h. (c.in-Err.ensures.old h).is) (λ h. (c.in-Err.ensures.damaged h).is)) c.put_fault.ensures.ends
        (λ quiet. ap (λ sink. g.K.Sink.taken sink) (c.put_fault.ensures.quiet quiet));
    none_steps = λ h. refl;
    untouched_steps = λ image seen no_state. refl;
  };
}
