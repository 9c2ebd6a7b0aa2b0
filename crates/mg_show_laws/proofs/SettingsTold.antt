-- The settings and the counters: their lines tell them, whatever stands behind.
use Rattle.{mg_model.specs.{Settings.{Settings, within_limits}, Tariff.is_tariff}, mg_show_laws.proofs.Cutting.{AllHigh, Same, four-apart, line-cut}}
use Rattle.mg_show_laws.proofs.{Cutting.{map-high, map-told, nth}, Names.{codes, IsTrue, decimal, ◌≡◌, ℕ, ◌^◌, ◌<◌, List, [], ◌∷◌, ◌++◌, map, sym}}
use Rattle.mg_show_laws.proofs.Names.{◌∙◌, arith, All, nat_tests, decimal_injective, All-from_recursion, All-nil, IsCounters, Counters, IsSettings}
use Rattle.mg_show_laws.proofs.{Names.{counters_text, line, seed_text, settings_text, step_text}, ValuesTold.{IsStep, decimal-high, seed-high}}
use Rattle.mg_show_laws.proofs.ValuesTold.{seed-told, step-high, step-told}

-- a line of one number
abbrev number_line : List ℕ → ℕ → List ℕ
number_line head n = line head (decimal n ∷ [])

number-told : (head : List ℕ) (m n : ℕ) (r s : List ℕ) → m < 2 ^ 64 → n < 2 ^ 64
    → number_line head m ++ r ≡ number_line head n ++ s → Same m n r s
number-told head m n r s fits fits' e =
    let here = line-cut head (decimal m ∷ []) (decimal n ∷ []) r s (decimal-high m, tt) (decimal-high n, tt) e in
    (decimal_injective m n fits fits' (nth 0 here.0), here.1)

pub within-fits : (frames credits : ℕ) → IsTrue (within_limits frames credits) → (frames < 2 ^ 64) × (credits < 2 ^ 64)
within-fits frames credits limits = (grind (arith, nat_tests), grind (arith, nat_tests))

tariff-steps : (steps : List (ℕ × ℕ)) → IsTrue (is_tariff steps) → All IsStep steps
tariff-steps [] is = All-nil IsStep
tariff-steps (x ∷ []) is = absurd cc
tariff-steps (x ∷ y ∷ []) is = absurd cc
tariff-steps (x ∷ y ∷ z ∷ []) is = absurd cc
tariff-steps ((a, p) ∷ (b, q) ∷ (c, r) ∷ (d, s) ∷ []) is =
    let one : IsStep (a, p) = record { pages = grind (arith, nat_tests); rate = grind (arith, nat_tests) } in
    let two : IsStep (b, q) = record { pages = grind (arith, nat_tests); rate = grind (arith, nat_tests) } in
    let three : IsStep (c, r) = record { pages = grind (arith, nat_tests); rate = grind (arith, nat_tests) } in
    let four : IsStep (d, s) = record { pages = grind (arith, nat_tests); rate = grind (arith, nat_tests) } in
    All-from_recursion IsStep ((a, p) ∷ (b, q) ∷ (c, r) ∷ (d, s) ∷ []) (one, (two, (three, (four, tt))))
tariff-steps (x ∷ y ∷ z ∷ w ∷ v ∷ more) is = absurd cc

abbrev seed_line : Settings → List ℕ
seed_line settings = line (codes "seed") (seed_text settings.seed ∷ [])

abbrev tariff_line : Settings → List ℕ
tariff_line settings = line (codes "tariff") (map step_text settings.tariff)

settings-apart : (x : Settings) (r : List ℕ)
    → settings_text x ++ r
    ≡ number_line (codes "frames") x.frames ++ (seed_line x ++ (number_line (codes "credits") x.credits ++ (tariff_line x ++ r)))
settings-apart x r = grind (arith, four-apart)

tariff-high : (x : Settings) → IsSettings x → AllHigh (map step_text x.tariff)
tariff-high x ok = map-high IsStep step_text step-high x.tariff (tariff-steps x.tariff ok.tariff)

pub settings-told : (x y : Settings) (r s : List ℕ) → IsSettings x → IsSettings y
    → settings_text x ++ r ≡ settings_text y ++ s → Same x y r s
settings-told x y r s ok ok' e =
    let fits = within-fits x.frames x.credits ok.limits in
    let fits' = within-fits y.frames y.credits ok'.limits in
    let apart = sym (settings-apart x r) ∙ e ∙ settings-apart y s in
    let frames = number-told (codes "frames") x.frames y.frames _ _ fits.0 fits'.0 apart in
    let high = seed-high x.seed in
    let high' = seed-high y.seed in
    let seeds = line-cut (codes "seed") (seed_text x.seed ∷ []) (seed_text y.seed ∷ []) _ _ (high, tt) (high', tt) frames.1 in
    let seed = seed-told x.seed y.seed ok.seed ok'.seed (nth 0 seeds.0) in
    let credits = number-told (codes "credits") x.credits y.credits _ _ fits.1 fits'.1 seeds.1 in
    let steps = map step_text x.tariff in
    let steps' = map step_text y.tariff in
    let tariffs = line-cut (codes "tariff") steps steps' r s (tariff-high x ok) (tariff-high y ok') credits.1 in
    let rule = tariff-steps x.tariff ok.tariff in
    let rule' = tariff-steps y.tariff ok'.tariff in
    let tariff = map-told IsStep step_text step-told x.tariff y.tariff rule rule' tariffs.0 in
    (λ i. record { frames = frames.0 i; seed = seed i; credits = credits.0 i; tariff = tariff i }, tariffs.1)

counters-apart : (x : Counters) (r : List ℕ)
    → counters_text x ++ r
    ≡ number_line (codes "draws") x.draws
    ++ (number_line (codes "period") x.period ++ (number_line (codes "cursor") x.cursor ++ (number_line (codes "births") x.births ++ r)))
counters-apart x r = grind (arith, four-apart)

pub counters-told : (x y : Counters) (r s : List ℕ) → IsCounters x → IsCounters y
    → counters_text x ++ r ≡ counters_text y ++ s → Same x y r s
counters-told x y r s ok ok' e =
    let apart = sym (counters-apart x r) ∙ e ∙ counters-apart y s in
    let draws = number-told (codes "draws") x.draws y.draws _ _ (omega (arith, ok.draws)) (omega (arith, ok'.draws)) apart in
    let period = number-told (codes "period") x.period y.period _ _ (omega (arith, ok.period)) (omega (arith, ok'.period)) draws.1 in
    let cursor = number-told (codes "cursor") x.cursor y.cursor _ _ (omega (arith, ok.cursor)) (omega (arith, ok'.cursor)) period.1 in
    let births = number-told (codes "births") x.births y.births r s (omega (arith, ok.births)) (omega (arith, ok'.births)) cursor.1 in
    (λ i. record { draws = draws.0 i; period = period.0 i; cursor = cursor.0 i; births = births.0 i }, births.1)
