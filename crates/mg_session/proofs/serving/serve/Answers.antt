use Rattle.{mg_commands.specs.OpeningLemmas.{traced_cost, traced_counts}, mg_kernel.specs.Meaning.now_of, mg_session.proofs.Results.on_ok_at}
use Rattle.mg_session.proofs.serving.serve.Goals as goal

pub returns-clause-serves : goal.returns-clause-serves
returns-clause-serves g c = λ image seen. record {
  answers = c.serve.ensures.serves.answers image seen;
  kept = on_ok_at c.serve.result (λ done. c.serve.ensures.serves.kept done image seen);
  holds = c.serve.ensures.serves.holds image seen;
  holds_exactly = c.serve.ensures.serves.holds_exactly image seen;
  cost = traced_cost _ c.costs_add_up.ensures.prefix c.args.batch _ c.args.kernel.now c.serve.new.machine image (now_of c.args.kernel.now image) (g.S.Source.left c.args.source.now) (g.S.Source.left c.serve.new.source) (g.K.Sink.taken c.args.sink.now) (g.K.Sink.taken c.serve.new.sink) c.args.steps.now c.serve.new.steps
      (λ ls st. st.spent) (λ ls st. st) (c.serve.ensures.serves.traces image seen);
  counts = traced_counts _ c.args.batch _ c.args.kernel.now c.serve.new.machine image (now_of c.args.kernel.now image) (g.S.Source.left c.args.source.now) (g.S.Source.left c.serve.new.source) (g.K.Sink.taken c.args.sink.now) (g.K.Sink.taken c.serve.new.sink) c.args.steps.now c.serve.new.steps
      (λ ls st. st.counts) (c.serve.ensures.serves.traces image seen);
}
