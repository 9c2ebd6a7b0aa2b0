-- Ranges of pages, each with its first page and its number of pages, and the gaps between them.
use Rattle.std.specs.Prelude.{◌≡◌, ◌+◌, ◌-◌, ◌≤◌, ◌++◌, ℕ, List, [], ◌∷◌, if◌then◌else◌, length, map, nat_lt}
use Rattle.mg_model.specs.{Limits.{first_page, page_end}, Objects.page_of, State.Object}

-- the range from one page to before another, if it has a page
abbrev pub piece : ℕ → ℕ → List (ℕ × ℕ)
piece from to = if nat_lt from to then (from, to - from) ∷ [] else []

-- what ranges leave free from a page on: what lies before the first, between each and the next, and after the last
abbrev pub gaps_from : ℕ → List (ℕ × ℕ) → List (ℕ × ℕ)
gaps_from page [] = piece page page_end
gaps_from page (span ∷ spans) = piece page span.0 ++ gaps_from (span.0 + span.1) spans

abbrev pub gaps_of : List (ℕ × ℕ) → List (ℕ × ℕ)
gaps_of spans = gaps_from first_page spans

-- ranges that lie one after another, from a page on, each with a page at least
abbrev pub LieFrom : ℕ → List (ℕ × ℕ) → Type 0
LieFrom page [] = page ≤ page_end
LieFrom page (span ∷ spans) = (page ≤ span.0) × (1 ≤ span.1) × LieFrom (span.0 + span.1) spans

-- ranges that may be taken at one time, in order
pub record AreTaken (spans : List (ℕ × ℕ)) : Type 0 where
  pub few : length spans ≤ 4096
  pub apart : LieFrom first_page spans

-- the gaps that these ranges leave
pub record AreGapsOf (spans gaps : List (ℕ × ℕ)) : Type 0 where
  pub taken : AreTaken spans
  pub are : gaps ≡ gaps_of spans

-- the pages of objects
abbrev pub spans_of : List Object → List (ℕ × ℕ)
spans_of objects = map (λ (object : Object). (page_of object.row, object.row.pages)) objects
