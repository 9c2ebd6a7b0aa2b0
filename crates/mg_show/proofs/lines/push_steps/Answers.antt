use Rattle.{mg_model.specs.Print.spaced, mg_show.{proofs.WordTexts.spaced-more, specs.StateText.step_text}, std.proofs.Common.{◌∷◌, ◌++◌, [], get_or}}
use Rattle.std.proofs.Common.{ap, ◌∙◌, arith}
use Rattle.mg_show.proofs.lines.push_steps.Goals as goal

pub loop-step-preserved : goal.loop-step-preserved
loop-step-preserved c = record {
  text = c.push_step.ensures.text
      ∙ ap (λ v. v ++ spaced (step_text (get_or c.args.steps.now c.loop-step.step-index (0, 0)) ∷ [])) c.loop-step.invariant.text
      ∙ spaced-more step_text c.args.out.now.items c.args.steps.now c.loop-step.step-index (0, 0) (omega arith);
  short = omega arith;
}
