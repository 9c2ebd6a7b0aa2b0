use Rattle.{mg_faults.specs.Faults.{count_none, count_then}, mg_model.specs.Lines.lines, mg_serve.proofs.IncomingSteps.{counts_none, counts_then}}
use Rattle.mg_serve.proofs.{IncomingSteps.{keeps_then, on_end}, ReadingSteps.{Finishes-last, Reading-more, Reading-none, Stops-bytes, Stops-last}}
use Rattle.mg_serve.proofs.{ReadingSteps.{Stops-source, Stops-too_long}, Results.{if_err_both, on_ok_both}, SessionSteps.Broken-source}
use Rattle.mg_serve.{proofs.SessionSteps.{Broken-too_long, Session-begins}, specs.{Incoming.Goes, Machines.{Halts, IsInside}, Readings.Stops}}
use Rattle.{mg_serve.specs.{Serving.{Broken, Session}, Waiting.Waiting}, std.proofs.Common.{◌≡◌, ◌+◌, ◌-◌, ap, arith, subst, take, ℕ}}
use Rattle.mg_serve.proofs.reading.serve_lines.Goals as goal

pub pieces-init : goal.pieces-init
pieces-init g c = record {
  reading = Reading-none (Session g.M.Machine g.D.Disk) (record { machine = c.args.machine.now; disk = c.args.disk.now; taken = g.K.Sink.taken c.args.sink.now; steps = c.args.steps.now }) (g.S.Source.left c.args.source.now) (record { machine = c.args.machine.now; disk = c.args.disk.now; owed = c.clear.new.self; taken = g.K.Sink.taken c.args.sink.now; steps = c.args.steps.now }) c.new-part.result c.new-part.ensures
      (Session-begins g.M.Machine g.D.Disk c.args.machine.now c.args.disk.now (g.K.Sink.taken c.args.sink.now) c.args.steps.now c.clear.new.self c.keep_rules.ensures.settled (g.met.D.Disk.now_has_been c.args.disk.now) (c.keep_rules.ensures.spelled c.requires.ready.none_staged) c.keep_rules.ensures.none c.keep_rules.ensures.begins c.clear.ensures);
  within = omega arith;
  size = omega arith;
  serving = record {
    live = c.requires.ready.live;
    stands = c.requires.ready.stands;
    staged = omega (arith, c.requires.ready.none_staged);
    open_batch = let some = c.requires.ready.at_least_1 in omega (arith, ap (λ (v : Waiting). v.count) c.clear.ensures);
    small = c.requires.ready.small;
  };
  counts = counts_none g.M.Machine g.D.Disk g.K.Sink c.args.machine.now c.args.disk.now c.args.sink.now c.args.steps.now;
  source_count = count_none _ _;
}

pub returns-in-Err-clause-stops : goal.returns-in-Err-clause-stops
returns-in-Err-clause-stops g c =
    Stops-source (Session g.M.Machine g.D.Disk) (Broken g.M.Machine g.D.Disk c.args.batch) (record { machine = c.args.machine.now; disk = c.args.disk.now; taken = g.K.Sink.taken c.args.sink.now; steps = c.args.steps.now }) (g.S.Source.left c.args.source.now) (g.S.Source.left c.pieces.source) (g.S.Source.left c.take.new.self) c.pieces.total c.args.limit c.args.batch (c.args.limit + 4096) (record { machine = c.pieces.machine; disk = c.pieces.disk; owed = c.pieces.owed; taken = g.K.Sink.taken c.pieces.sink; steps = c.pieces.steps }) c.pieces.part
    c.pieces.invariant.reading c.pieces.invariant.within (omega arith) c.in-Err.ensures.bytes
    (λ ls a. Broken-source g.M.Machine g.D.Disk c.args.batch (record { machine = c.args.machine.now; disk = c.args.disk.now; taken = g.K.Sink.taken c.args.sink.now; steps = c.args.steps.now }) ls (record { machine = c.pieces.machine; disk = c.pieces.disk; owed = c.pieces.owed; taken = g.K.Sink.taken c.pieces.sink; steps = c.pieces.steps }) c.keep_rules-in-Err.ensures.settled c.pieces.invariant.serving.open_batch a)

pub returns-then-count-eq0-clause-finishes : goal.returns-then-count-eq0-clause-finishes
returns-then-count-eq0-clause-finishes g c =
    let size = c.pieces.invariant.size in
    on_ok_both c.finish.result
    (λ steps empty. Finishes-last (Session g.M.Machine g.D.Disk) (record { machine = c.args.machine.now; disk = c.args.disk.now; taken = g.K.Sink.taken c.args.sink.now; steps = c.args.steps.now }) (g.S.Source.left c.args.source.now) (g.S.Source.left c.pieces.source) (g.S.Source.left c.take.new.self) c.pieces.total c.args.limit c.in-Ok.count (record { machine = c.pieces.machine; disk = c.pieces.disk; owed = c.pieces.owed; taken = g.K.Sink.taken c.pieces.sink; steps = c.pieces.steps }) (record { machine = c.finish.new.machine; disk = c.finish.new.disk; owed = c.finish.new.owed; taken = g.K.Sink.taken c.finish.new.sink; steps = c.finish.new.steps }) c.pieces.part c.take.new.into
    c.pieces.invariant.reading c.pieces.invariant.within c.in-Ok.ensures.bytes.0 c.if-count-eq0.true (c.in-Ok.ensures.bytes.1 c.if-count-eq0.true (omega arith)) steps empty)
    c.finish.ensures.steps c.finish.ensures.empty

pub returns-then-count-eq0-clause-stops : goal.returns-then-count-eq0-clause-stops
returns-then-count-eq0-clause-stops g c =
    let size = c.pieces.invariant.size in
    if_err_both c.finish.result IsInside
    (λ e. Halts (Session g.M.Machine g.D.Disk) (Broken g.M.Machine g.D.Disk c.args.batch) e (record { machine = c.pieces.machine; disk = c.pieces.disk; owed = c.pieces.owed; taken = g.K.Sink.taken c.pieces.sink; steps = c.pieces.steps }) (lines c.pieces.part) (record { machine = c.finish.new.machine; disk = c.finish.new.disk; owed = c.finish.new.owed; taken = g.K.Sink.taken c.finish.new.sink; steps = c.finish.new.steps }))
    (λ e. Stops (Broken g.M.Machine g.D.Disk c.args.batch) e (record { machine = c.args.machine.now; disk = c.args.disk.now; taken = g.K.Sink.taken c.args.sink.now; steps = c.args.steps.now }) (g.S.Source.left c.args.source.now) c.args.limit c.args.batch (c.args.limit + 4096) (record { machine = c.finish.new.machine; disk = c.finish.new.disk; owed = c.finish.new.owed; taken = g.K.Sink.taken c.finish.new.sink; steps = c.finish.new.steps }) (g.S.Source.left c.take.new.self))
    (λ e inside halts. Stops-last (Session g.M.Machine g.D.Disk) (Broken g.M.Machine g.D.Disk c.args.batch) e (record { machine = c.args.machine.now; disk = c.args.disk.now; taken = g.K.Sink.taken c.args.sink.now; steps = c.args.steps.now }) (g.S.Source.left c.args.source.now) (g.S.Source.left c.pieces.source) (g.S.Source.left c.take.new.self) c.pieces.total c.args.limit c.args.batch (c.args.limit + 4096) c.in-Ok.count (record { machine = c.pieces.machine; disk = c.pieces.disk; owed = c.pieces.owed; taken = g.K.Sink.taken c.pieces.sink; steps = c.pieces.steps }) (record { machine = c.finish.new.machine; disk = c.finish.new.disk; owed = c.finish.new.owed; taken = g.K.Sink.taken c.finish.new.sink; steps = c.finish.new.steps }) c.pieces.part c.take.new.into
    c.pieces.invariant.reading c.pieces.invariant.within (omega arith) c.in-Ok.ensures.bytes.0 c.if-count-eq0.true (c.in-Ok.ensures.bytes.1 c.if-count-eq0.true (omega arith)) inside halts)
    c.finish.ensures.only c.finish.ensures.halts

pub returns-in-Err-take_bytes-clause-stops : goal.returns-in-Err-take_bytes-clause-stops
returns-in-Err-take_bytes-clause-stops g c =
    let size = c.pieces.invariant.size in
    Stops-bytes (Session g.M.Machine g.D.Disk) (Broken g.M.Machine g.D.Disk c.args.batch) c.in-Err-take_bytes.ended (record { machine = c.args.machine.now; disk = c.args.disk.now; taken = g.K.Sink.taken c.args.sink.now; steps = c.args.steps.now }) (g.S.Source.left c.args.source.now) (g.S.Source.left c.pieces.source) (g.S.Source.left c.take.new.self) c.pieces.total c.args.limit c.args.batch (c.args.limit + 4096) c.in-Ok.count c.min-within.result (record { machine = c.pieces.machine; disk = c.pieces.disk; owed = c.pieces.owed; taken = g.K.Sink.taken c.pieces.sink; steps = c.pieces.steps }) (record { machine = c.take_bytes.new.machine; disk = c.take_bytes.new.disk; owed = c.take_bytes.new.owed; taken = g.K.Sink.taken c.take_bytes.new.sink; steps = c.take_bytes.new.steps }) c.pieces.part c.take.new.into
    c.pieces.invariant.reading c.pieces.invariant.within (omega arith) c.in-Ok.ensures.bytes.0 c.in-Ok.ensures.bound.0 (omega arith) c.in-Err-take_bytes.ensures.only c.in-Err-take_bytes.ensures.breaks

pub returns-then-count-room-clause-stops : goal.returns-then-count-room-clause-stops
returns-then-count-room-clause-stops g c =
    let size = c.pieces.invariant.size in
    let at_limit : c.min-within.result ≡ c.args.limit - c.pieces.total = omega arith in
    Stops-too_long (Session g.M.Machine g.D.Disk) (Broken g.M.Machine g.D.Disk c.args.batch) (record { machine = c.args.machine.now; disk = c.args.disk.now; taken = g.K.Sink.taken c.args.sink.now; steps = c.args.steps.now }) (g.S.Source.left c.args.source.now) (g.S.Source.left c.pieces.source) (g.S.Source.left c.take.new.self) c.pieces.total c.args.limit c.args.batch (c.args.limit + 4096) c.in-Ok.count (record { machine = c.pieces.machine; disk = c.pieces.disk; owed = c.pieces.owed; taken = g.K.Sink.taken c.pieces.sink; steps = c.pieces.steps }) (record { machine = c.take_bytes.new.machine; disk = c.take_bytes.new.disk; owed = c.take_bytes.new.owed; taken = g.K.Sink.taken c.take_bytes.new.sink; steps = c.take_bytes.new.steps }) c.pieces.part c.take_bytes.new.part c.take.new.into
    c.pieces.invariant.reading c.pieces.invariant.within (omega arith) c.in-Ok.ensures.bytes.0 c.in-Ok.ensures.bound.0 c.if-count-room.true
    (subst (λ (v : ℕ). Goes (Session g.M.Machine g.D.Disk) (record { machine = c.pieces.machine; disk = c.pieces.disk; owed = c.pieces.owed; taken = g.K.Sink.taken c.pieces.sink; steps = c.pieces.steps }) c.pieces.part (take v c.take.new.into) (record { machine = c.take_bytes.new.machine; disk = c.take_bytes.new.disk; owed = c.take_bytes.new.owed; taken = g.K.Sink.taken c.take_bytes.new.sink; steps = c.take_bytes.new.steps }) c.take_bytes.new.part) at_limit c.in-Ok-take_bytes.ensures.goes)
    c.in-Ok-take_bytes.ensures.whole
    (λ ls a. Broken-too_long g.M.Machine g.D.Disk c.args.batch (record { machine = c.args.machine.now; disk = c.args.disk.now; taken = g.K.Sink.taken c.args.sink.now; steps = c.args.steps.now }) ls (record { machine = c.take_bytes.new.machine; disk = c.take_bytes.new.disk; owed = c.take_bytes.new.owed; taken = g.K.Sink.taken c.take_bytes.new.sink; steps = c.take_bytes.new.steps }) c.keep_rules-then-count-room.ensures.settled c.in-Ok-take_bytes.ensures.serving.open_batch a)

pub pieces-preserved : goal.pieces-preserved
pieces-preserved g c =
    let all : c.min-within.result ≡ c.in-Ok.count = omega arith in
    record {
      reading = Reading-more (Session g.M.Machine g.D.Disk) (record { machine = c.args.machine.now; disk = c.args.disk.now; taken = g.K.Sink.taken c.args.sink.now; steps = c.args.steps.now }) (g.S.Source.left c.args.source.now) (g.S.Source.left c.pieces.source) (g.S.Source.left c.take.new.self) c.pieces.total c.in-Ok.count (record { machine = c.pieces.machine; disk = c.pieces.disk; owed = c.pieces.owed; taken = g.K.Sink.taken c.pieces.sink; steps = c.pieces.steps }) (record { machine = c.take_bytes.new.machine; disk = c.take_bytes.new.disk; owed = c.take_bytes.new.owed; taken = g.K.Sink.taken c.take_bytes.new.sink; steps = c.take_bytes.new.steps }) c.pieces.part c.take_bytes.new.part c.take.new.into
          c.pieces.invariant.reading c.in-Ok.ensures.bytes.0 c.in-Ok.ensures.bound.0
          (subst (λ (v : ℕ). Goes (Session g.M.Machine g.D.Disk) (record { machine = c.pieces.machine; disk = c.pieces.disk; owed = c.pieces.owed; taken = g.K.Sink.taken c.pieces.sink; steps = c.pieces.steps }) c.pieces.part (take v c.take.new.into) (record { machine = c.take_bytes.new.machine; disk = c.take_bytes.new.disk; owed = c.take_bytes.new.owed; taken = g.K.Sink.taken c.take_bytes.new.sink; steps = c.take_bytes.new.steps }) c.take_bytes.new.part) all c.in-Ok-take_bytes.ensures.goes)
          c.in-Ok-take_bytes.ensures.whole;
      within = omega arith;
      size = omega arith;
      serving = c.in-Ok-take_bytes.ensures.serving;
      counts = counts_then c.pieces.invariant.counts c.in-Ok-take_bytes.ensures.keeps;
      source_count = count_then _ _ _ _ _ _ c.pieces.invariant.source_count c.in-Ok.ensures.cause.goes_on;
    }

pub returns-then-count-eq0-clause-keeps : goal.returns-then-count-eq0-clause-keeps
returns-then-count-eq0-clause-keeps g c = keeps_then c.pieces.invariant.counts c.finish.ensures.keeps

pub returns-in-Err-take_bytes-clause-keeps : goal.returns-in-Err-take_bytes-clause-keeps
returns-in-Err-take_bytes-clause-keeps g c = keeps_then c.pieces.invariant.counts c.in-Err-take_bytes.ensures.keeps

pub returns-then-count-room-clause-keeps : goal.returns-then-count-room-clause-keeps
returns-then-count-room-clause-keeps g c = keeps_then c.pieces.invariant.counts (on_end c.in-Ok-take_bytes.ensures.keeps)
