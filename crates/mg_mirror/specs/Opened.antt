-- What a mirror says of the counts of its sides since opening began.
use Rattle.std.specs.Prelude.{ℕ, ◌<◌, Bool, IsTrue}

-- a count rose from this number, unless it is at its last value
abbrev pub RoseFrom : ℕ → ℕ → Bool → Type 0
RoseFrom from count spent = (IsTrue spent → ⊥) → from < count

-- two counts rose, each from its number
pub record BothRose (left_from left_count : ℕ) (left_spent : Bool) (right_from right_count : ℕ) (right_spent : Bool) : Type 0 where
  pub left : RoseFrom left_from left_count left_spent
  pub right : RoseFrom right_from right_count right_spent
