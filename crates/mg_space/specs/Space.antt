-- Objects with the pages between them.
use Rattle.std.specs.Prelude.{◌≡◌, ◌==◌, ℕ, List, filter, if◌then◌else◌, map, sum_by}
use Rattle.{mg_bank.specs.Bank.pages_at, mg_model.specs.{Objects.page_of, State.{Object, ObjectRow}}}
use Rattle.mg_ranges.specs.Gaps.{AreGapsOf}

-- the pages of objects: of each the first one, and how many
abbrev pub spans_in : List (ℕ × ObjectRow) → List (ℕ × ℕ)
spans_in objects = map (λ (o : ℕ × ObjectRow). (page_of o.1, o.1.pages)) objects

-- objects of a state that have these rows
abbrev pub AreRowsOf : List Object → List (ℕ × ObjectRow) → Type 0
AreRowsOf objects rows = map (λ (object : Object). object.row) objects ≡ map (λ (o : ℕ × ObjectRow). o.1) rows

-- how many pages the objects have for which an account pays, and how many of them one object has
abbrev pub paid_by : ℕ → List (ℕ × ObjectRow) → ℕ
paid_by n objects = sum_by (λ (o : ℕ × ObjectRow). o.1.pages) (filter (λ (o : ℕ × ObjectRow). o.1.account == n) objects)

abbrev pub share : ObjectRow → ℕ → ℕ
share row n = if row.account == n then row.pages else 0

-- the pages that a bank keeps for each account are those of the objects for which it pays
abbrev pub ArePaid : List ℕ → List (ℕ × ObjectRow) → Type 0
ArePaid pages objects = (n : ℕ) → pages_at pages n ≡ paid_by n objects

-- objects, the gaps that they leave, and how many pages they have
pub record IsSpace (objects : List (ℕ × ObjectRow)) (gaps : List (ℕ × ℕ)) (used : ℕ) : Type 0 where
  pub free : AreGapsOf (spans_in objects) gaps
  pub total : used ≡ sum_by (λ (o : ℕ × ObjectRow). o.1.pages) objects
