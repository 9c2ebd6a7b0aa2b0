-- What a volume is made with.
use Rattle.std.specs.Prelude.{ℕ, ◌&&◌, nat_le, Bool, List}
use Rattle.mg_model.specs.declared.limits.TheConstants.{CREDIT_LIMIT as credit_limit, LEAST_FRAMES as least_frames}
use Rattle.mg_model.specs.declared.limits.TheConstants.{MOST_FRAMES as most_frames}

pub record Settings : Type 0 where
  pub frames : ℕ
  -- 32 bytes
  pub seed : List ℕ
  pub credits : ℕ
  -- four steps of (pages in use, rate)
  pub tariff : List (ℕ × ℕ)

-- whether frames and credits are within their limits
abbrev pub within_limits : ℕ → ℕ → Bool
within_limits frames credits = nat_le least_frames frames && nat_le frames most_frames && nat_le credits credit_limit
