use Rattle.{arrayvec.specs.ArrayVec.array_vec_len, mg_model.specs.Print.spaced, mg_show.specs.StateText.step_text, std.proofs.Common.{◌≡◌, ◌+◌, ◌*◌}}
use Rattle.std.proofs.Common.{◌≤◌, ◌++◌, map, take}
use Rattle.mg_show.proofs.lines.push_steps.Given as goal

abbrev pub invariant-loop-step : goal.invariant-loop-step
invariant-loop-step l = record {
  text : l.out.items ≡ l.fn.out.items ++ spaced (map step_text (take l.step-index l.steps));
  short : array_vec_len l.out ≤ array_vec_len l.fn.out + 42 * l.step-index;
}
