-- The tariff of the rent: steps of (pages in use, rate).
use Rattle.std.specs.Prelude.{ℕ, ◌*◌, ◌/◌, ◌==◌, ◌&&◌, nat_le, nat_lt, Bool, false, List, [], ◌∷◌}
use Rattle.mg_model.specs.declared.limits.TheConstants.{STEP_LIMIT as step_limit}

-- four steps, the first from 0, each next one from more pages
abbrev pub is_tariff : List (ℕ × ℕ) → Bool
is_tariff ((a, p) ∷ (b, q) ∷ (c, r) ∷ (d, s) ∷ []) =
    (a == 0 && nat_lt a b && nat_lt b c && nat_lt c d && nat_le d step_limit)
    && (nat_le p step_limit && nat_le q step_limit && nat_le r step_limit && nat_le s step_limit)
is_tariff steps = false

-- the tariff of a volume that is made without one
abbrev pub usual_tariff : ℕ → List (ℕ × ℕ)
usual_tariff frames = (0, 1) ∷ (frames / 4, 2) ∷ (frames / 2, 4) ∷ (3 * frames / 4, 8) ∷ []
