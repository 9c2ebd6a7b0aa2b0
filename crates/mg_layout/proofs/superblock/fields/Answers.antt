use Rattle.mg_model.specs.{Settings.{Settings, within_limits}, Spelling.{are_settings, super_fields}, SuperblockLemmas.settings_same}
use Rattle.{mg_model.specs.Tariff.is_tariff, std.proofs.{Common.{arith, ◌≡◌, ℕ, List, if◌then◌else◌, Some, None, ◌∙◌}, Math.Bool.and-true}}
use Rattle.std.proofs.lemmas.Bool.{and_right, Decides.nat_tests}
use Rattle.mg_layout.proofs.superblock.fields.Goals as goal

-- with a tariff that keeps its rule
some_tariff : (fields : Settings) (frames credits : ℕ) (seed : List ℕ) (tariff : List (ℕ × ℕ)) → frames ≡ fields.frames → seed ≡ fields.seed → credits ≡ fields.credits
    → Some tariff ≡ (if is_tariff fields.tariff then Some fields.tariff else None)
    → (if within_limits frames credits then Some (record { frames = frames; seed = seed; credits = credits; tariff = tariff }) else None) ≡ (if are_settings fields then Some fields else None)
some_tariff fields frames credits seed tariff e1 e2 e3 rule = grind (arith, nat_tests, settings_same, and-true)

no_tariff : (fields : Settings) → None ≡ (if is_tariff fields.tariff then Some fields.tariff else None) → None ≡ (if are_settings fields then Some fields else None)
no_tariff fields rule = grind (arith, nat_tests, and_right)

pub returns-in-Some : goal.returns-in-Some
returns-in-Some c =
    c.new.ensures
    ∙ some_tariff (super_fields c.args.block.now) c.number_at.result c.number_at-in-Some.result c.seed_in.result c.in-Some.tariff c.number_at.ensures c.seed_in.ensures c.number_at-in-Some.ensures c.in-Some.ensures

pub returns-in-None : goal.returns-in-None
returns-in-None c = no_tariff (super_fields c.args.block.now) c.in-None.ensures
