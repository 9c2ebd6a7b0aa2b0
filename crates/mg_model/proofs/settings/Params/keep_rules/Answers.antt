use Rattle.{mg_model.specs.Settings.{Settings, within_limits}, std.proofs.Common.{rules, ◌<◌, All, IsTrue, ℕ, List, subst}}
use Rattle.std.proofs.lemmas.List.Elements.{All-from_get_or}
use Rattle.mg_model.proofs.settings.Params.keep_rules.Goals as goal

pub returns-clause-rules : goal.returns-clause-rules
returns-clause-rules c = record {
  limits = subst (λ (p : Settings). IsTrue (within_limits p.frames p.credits)) c.self.view_is c.self.invariant;
  tariff = search rules;
  long = search rules;
  seed = subst (λ (seed : List ℕ). All (λ byte. byte < 256) seed) c.seed-seed.ensures (All-from_get_or (λ byte. byte < 256) c.seed-seed.result 0 (λ i below. search rules));
}
