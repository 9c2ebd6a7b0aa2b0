-- Pairs of words: pair j of a page is its words 2 + 2 * j and 3 + 2 * j.
use Rattle.std.specs.{Option.option_map_or, Prelude.{◌≡◌, ◌≢◌, ◌+◌, ◌-◌, ◌*◌, ◌≤◌, ◌<◌, ℕ, Option, IfSome}}

-- the places of pairs from one on and before another; a page has 255 pairs
pub record ArePlaces (from count : ℕ) : Type 0 where
  pub from_up_to_count : from ≤ count
  pub at_most_255 : count ≤ 255

-- the first pair from place `from` on, and before place `count`, whose first word is this one: its place and its second word
pub record IsNextPair (word : ℕ → ℕ) (from count first : ℕ) (found : Option (ℕ × ℕ)) : Type 0 where
  pub none_before : (j : ℕ) → from ≤ j → j < option_map_or (λ pair. pair.0) found count → word (2 + 2 * j) ≢ first
  pub is : IfSome found (λ pair. (word (2 + 2 * pair.0) ≡ first) × (word (3 + 2 * pair.0) ≡ pair.1))

-- how many words such a search looks at: the first words up to the pair that is found, and its second word
abbrev pub words_looked_at : ℕ → ℕ → Option (ℕ × ℕ) → ℕ
words_looked_at from count found = option_map_or (λ pair. pair.0 - from + 2) found (count - from)
