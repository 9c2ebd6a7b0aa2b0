use Rattle.{mg_model.specs.State.ObjectRow, mg_volume.proofs.Found.found_keeps, std.proofs.Common.{◌<◌, ◌==◌, ℕ, All, subst}}
use Rattle.mg_volume.proofs.object_removing.take_object.Goals as goal

pub stage_row-requires-clause-place : goal.stage_row-requires-clause-place
stage_row-requires-clause-place c =
    found_keeps (λ (o : ℕ × ObjectRow). o.0 < 4096) (λ (o : ℕ × ObjectRow). o.1.base == c.args.base) c.args.objects.now c.remove-taken.result (subst (All (λ (o : ℕ × ObjectRow). o.0 < 4096)) c.objects.ensures c.keep_rules.ensures.places) c.remove-taken.ensures.gone
