use Rattle.{mg_model.specs.State.ThreadRow, mg_show.specs.{StateText.thread_text, Writing.Puts}, std.proofs.Common.{ℕ, ◌+◌, take, flat_map}}
use Rattle.mg_show.proofs.state.put_threads.Given as goal

abbrev pub invariant-loop-t : goal.invariant-loop-t
invariant-loop-t g l = Puts g.K.Sink (flat_map (λ (t : ℕ × ThreadRow). thread_text (record { number = t.0 + 1; row = t.1 })) (take l.t-index l.threads)) l.initial.sink l.sink l.initial.out l.out
