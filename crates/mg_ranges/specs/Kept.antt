-- What is known of gaps while ranges are taken and given.
use Rattle.std.specs.{List.AllPairs, Prelude.{◌<◌, ◌≤◌, ◌++◌, ◌∷◌, ℕ, List, sum_by}}
use Rattle.mg_ranges.specs.Gaps.{AreGapsOf, AreTaken}

-- each gap begins after those before it
abbrev pub Ascends : List (ℕ × ℕ) → Type 0
Ascends gaps = AllPairs (λ (a b : ℕ × ℕ). a.0 < b.0) gaps

-- some ranges are taken that leave these gaps
pub record HasTaken (gaps : List (ℕ × ℕ)) : Type 0 where
  pub taken : List (ℕ × ℕ)
  pub leave : AreGapsOf taken gaps

-- and the room for gaps
pub record AreKept (gaps : List (ℕ × ℕ)) (space : ℕ) : Type 0 where
  pub taken : HasTaken gaps
  pub room : 4097 ≤ space

-- they have at most 65,536 pages
pub record HasRoom (gaps : List (ℕ × ℕ)) : Type 0 where
  pub taken : List (ℕ × ℕ)
  pub leave : AreGapsOf taken gaps
  pub few : sum_by (λ (span : ℕ × ℕ). span.1) taken ≤ 65536

-- one range more may be taken between these
pub record CanTake (first pages : ℕ) (gaps : List (ℕ × ℕ)) : Type 0 where
  pub before : List (ℕ × ℕ)
  pub behind : List (ℕ × ℕ)
  pub leave : AreGapsOf (before ++ behind) gaps
  pub more : AreTaken (before ++ (first, pages) ∷ behind)

-- this range is taken between others
pub record CanGive (first pages : ℕ) (gaps : List (ℕ × ℕ)) : Type 0 where
  pub before : List (ℕ × ℕ)
  pub behind : List (ℕ × ℕ)
  pub leave : AreGapsOf (before ++ (first, pages) ∷ behind) gaps
