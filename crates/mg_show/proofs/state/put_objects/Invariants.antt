use Rattle.{mg_model.specs.State.ObjectRow, mg_show.specs.{StateText.object_text, Writing.Puts}, std.proofs.Common.{ℕ, take, flat_map}}
use Rattle.mg_show.proofs.state.put_objects.Given as goal

abbrev pub invariant-loop-i : goal.invariant-loop-i
invariant-loop-i g l = Puts g.K.Sink (flat_map (λ (o : ℕ × ObjectRow). object_text o.1) (take l.i l.shown.objects)) l.initial.sink l.sink l.initial.out l.out
