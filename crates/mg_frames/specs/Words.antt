-- A range of pages.
use Rattle.std.specs.Prelude.{ℕ, ◌+◌, ◌&&◌, Bool, nat_le, nat_lt, if◌then◌else◌}

abbrev pub is_within : ℕ → ℕ → ℕ → Bool
is_within first pages page = nat_le first page && nat_lt page (first + pages)

-- the page, or 0 if it lies in the range
abbrev pub unless_within : ℕ → ℕ → ℕ → ℕ
unless_within first pages page = if is_within first pages page then 0 else page
