use Rattle.{mg_io.specs.Known.AppendsPrefix, mg_serve.proofs.SessionSteps.{Broken-commit, Broken-put, Session-closes}, std.proofs.Common.{List, ℕ}}
use Rattle.std.{proofs.Common.subst, specs.Io.KnownBytes.Appends}
use Rattle.mg_serve.proofs.batches.close.Goals as goal

pub returns-in-Err-clause-halts : goal.returns-in-Err-clause-halts
returns-in-Err-clause-halts g c =
    λ n batch room entry ls a. Broken-commit g.M.Machine g.D.Disk batch entry ls c.args.machine.now c.commit.new.self c.args.disk.now c.commit.new.disk c.args.owed.now c.args.owed.now (g.K.Sink.taken c.args.sink.now) n room a
    c.in-Err.ensures.any_moment c.in-Err.ensures.stepped c.keep_rules.ensures.settled c.in-Err.ensures.live

pub returns-in-Ok-put-clause-closes : goal.returns-in-Ok-put-clause-closes
returns-in-Ok-put-clause-closes g c =
    λ n entry ls a. Session-closes g.M.Machine g.D.Disk entry ls c.args.machine.now c.commit.new.self c.args.disk.now c.commit.new.disk c.args.owed.now c.clear.new.self (g.K.Sink.taken c.args.sink.now) (g.K.Sink.taken c.put_all-put.new.sink) n a
    c.in-Ok.ensures.any_moment c.in-Ok.ensures.done c.in-Ok.ensures.stepped
    (subst (λ (v : List ℕ). Appends (g.K.Sink.taken c.args.sink.now) (g.K.Sink.taken c.put_all-put.new.sink) v) c.text.ensures c.in-Ok-put.ensures.ok) c.clear.ensures

pub returns-in-Err-put-clause-halts : goal.returns-in-Err-put-clause-halts
returns-in-Err-put-clause-halts g c =
    λ n batch room entry ls a. Broken-put g.M.Machine g.D.Disk batch entry ls c.args.machine.now c.commit.new.self c.args.disk.now c.commit.new.disk c.args.owed.now c.args.owed.now (g.K.Sink.taken c.args.sink.now) (g.K.Sink.taken c.put_all-put.new.sink) n room a
    c.in-Ok.ensures.any_moment c.in-Ok.ensures.done c.in-Ok.ensures.stepped c.in-Ok.ensures.rests.settled
    (subst (λ (v : List ℕ). AppendsPrefix (g.K.Sink.taken c.args.sink.now) (g.K.Sink.taken c.put_all-put.new.sink) v) c.text.ensures c.in-Err-put.ensures.err)
