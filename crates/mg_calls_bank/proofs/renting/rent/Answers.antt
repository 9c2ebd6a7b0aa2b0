use Rattle.{mg_calls_bank.proofs.RentRow.{few-owed, rent-done, rent-last, rented-now, same-counters}, mg_model.specs.BankCalls.rent}
use Rattle.mg_model.specs.{Limits.period_limit, State.Counters, declared.replies.{Refusal.Refusal, Reply.TheVariants.No}}
use Rattle.mg_volume.specs.{Calls.{Answers, CallStages}, Held.VolumeHeld, Meaning.{accounts_in, counters_in, now_of}, RunLemmas.call_made}
use Rattle.{mg_volume.specs.{RunLemmas.{call_refused, stages_then}, StateLemmas.now_counters}, std.proofs.Common.{ap, subst, sym, ◌∙◌, ⊎_elim, arith}}
use Rattle.std.{proofs.lemmas.Bool.{cases_lt, eqb-false}, specs.Prelude.{◌==◌, ◌+◌, ◌<◌}}
use Rattle.mg_calls_bank.proofs.renting.rent.Goals as goal

pub begin-requires-clause-period : goal.begin-requires-clause-period
begin-requires-clause-period c =
    let most = c.period-next.ensures.at_most_period_limit in
    let other = eqb-false c.period-next.result period_limit (ap (λ p. p == period_limit) c.period-next.ensures.period ∙ c.in-Ok.ensures.refusal) in
    ⊎_elim (λ (below : c.period-next.result < period_limit). omega arith) (λ above. absurd (other (omega arith))) (cases_lt c.period-next.result period_limit)

pub begin-requires-clause-fewer_than_160_staged : goal.begin-requires-clause-fewer_than_160_staged
begin-requires-clause-fewer_than_160_staged c = let few = c.requires.at_most_143_staged in let more = c.in-Ok.ensures.changes.stages.staged in omega arith

pub returns-in-Ok : goal.returns-in-Ok
returns-in-Ok c =
    call_made _ _ _ _ _ (λ no. no) tt (λ image spelled formed.
    let v = c.args.volume.now in
    let mid = c.collect_rent.new.self in
    let few = few-owed v image formed in
    let early = ap (λ p. p == period_limit) c.period-next.ensures.period ∙ c.in-Ok.ensures.refusal in
    let now = rented-now (now_of v image) (now_of mid image) (now_of c.begin.new.volume image) (counters_in v) (counters_in mid) (accounts_in mid) (c.period-next.result + 1) (c.in-Ok.ensures.changes.now image) (c.in-Ok.ensures.collects few image).accounts_are
    (same-counters v mid c.in-Ok.ensures.changes.now) (ap (λ p. p + 1) c.period-next.ensures.period) (c.begin.ensures.now image) in
    rent-done (now_of v image) (now_of c.begin.new.volume image) (counters_in v) c.period-next.result c.in-Ok.rate c.in-Ok.paid (sym (now_counters v image)) c.period-next.ensures.period early
    (c.in-Ok.ensures.rate image) (c.in-Ok.ensures.collects few image).paid now) (stages_then 16 1 _ _ _ c.in-Ok.ensures.changes.stages c.begin.ensures.stages)

pub returns-in-Err : goal.returns-in-Err
returns-in-Err c =
    let v = c.args.volume.now in
    let refusal = c.in-Err.ensures.refusal in
    let last = ap (λ p. p == period_limit) c.period-next.ensures.period ∙ refusal.1 in
    let P : VolumeHeld → Type 0 = λ w. CallStages (Answers (λ state. rent state)) 17 v w (No c.in-Err.word) in
    subst P (sym c.in-Err.ensures.stays)
    (call_refused _ _ _ _ (λ image spelled formed.
    rent-last (now_of v image) c.period-next.result (c.period-next.ensures.period ∙ ap (λ (k : Counters). k.period) (sym (now_counters v image))) last
    ∙ ap (λ (w : Refusal). (now_of v image, No w)) (sym refusal.0)))
