-- The numbers of a table with their places, as a list of pairs that ascends by number.
use Rattle.std.specs.{List.{AllPairs, AllWithin, Contains, IsDistinct, Sorted.IsNonDecreasingBy}, Prelude.{◌≡◌, ◌≢◌}}
use Rattle.std.specs.Prelude.{◌+◌, ◌<◌, ◌≤◌, ◌==◌, ◌↔◌, ℕ, true, List, length, count_by, fold, slice_index}
use Rattle.std.specs.Prelude.{slice_index_or, slice_set}
use Rattle.{mg_index.specs.Words.numbers_in, mg_model.specs.Tests.all_distinct}

-- a number, and the place that holds it
abbrev pub IsBound : List ℕ → ℕ × ℕ → Type 0
IsBound numbers pair = (pair.0 ≢ 0) × (pair.1 < length numbers) × (slice_index numbers pair.1 ≡ pair.0)

-- each number is above those before it
abbrev pub Ascends : List (ℕ × ℕ) → Type 0
Ascends pairs = AllPairs (λ (a b : ℕ × ℕ). a.0 < b.0) pairs

-- a pair is there exactly if that place holds that number
abbrev pub IsExact : List ℕ → List (ℕ × ℕ) → Type 0
IsExact numbers pairs = (pair : ℕ × ℕ) → Contains pairs pair ↔ IsBound numbers pair

abbrev pub free_count : List ℕ → ℕ
free_count numbers = count_by (λ number. number == 0) numbers

-- no place before this one is free
abbrev pub NoneFree : List ℕ → ℕ → Type 0
NoneFree numbers low = (place : ℕ) → place < low → slice_index numbers place ≢ 0

-- a number is in two pairs, one after another
abbrev pub HasTwice : List (ℕ × ℕ) → Type 0
HasTwice pairs = (k : ℕ) × (k + 1 < length pairs) × ((slice_index_or pairs k (0, 0)).0 ≡ (slice_index_or pairs (k + 1) (0, 0)).0)

-- the pairs of a table, which may have a number more than once, in order, and the room for pairs
pub record IsSortedTable (numbers : List ℕ) (pairs : List (ℕ × ℕ)) (space : ℕ) : Type 0 where
  pub order : IsNonDecreasingBy (λ (pair : ℕ × ℕ). pair.0) pairs
  pub once : IsDistinct (λ (a b : ℕ × ℕ). a.1 == b.1) pairs
  pub exact : IsExact numbers pairs
  pub count : length pairs + free_count numbers ≡ length numbers
  pub room : length numbers ≤ space

-- a table, its pairs, the room for pairs, and a bound below which no place is free
pub record IsIndexed (numbers : List ℕ) (pairs : List (ℕ × ℕ)) (space low : ℕ) : Type 0 where
  pub distinct : all_distinct (numbers_in numbers) ≡ true
  pub few : length numbers ≤ 65536
  pub ascends : Ascends pairs
  pub exact : IsExact numbers pairs
  pub count : length pairs + free_count numbers ≡ length numbers
  pub room : length numbers ≤ space
  pub within : low ≤ length numbers
  pub none_free : NoneFree numbers low

-- the table once the places of these pairs are free
abbrev pub freed : List ℕ → List (ℕ × ℕ) → List ℕ
freed numbers pairs = fold (λ (left : List ℕ) (pair : ℕ × ℕ). slice_set left pair.1 0) numbers pairs

-- the pairs of the numbers in a range are from one place to before another
pub record IsPart (pairs : List (ℕ × ℕ)) (first count from to : ℕ) : Type 0 where
  pub before : AllWithin (λ (pair : ℕ × ℕ). pair.0 < first) pairs 0 from
  pub behind_first : AllWithin (λ (pair : ℕ × ℕ). first ≤ pair.0) pairs from (length pairs)
  pub before_last : AllWithin (λ (pair : ℕ × ℕ). pair.0 < first + count) pairs 0 to
  pub behind : AllWithin (λ (pair : ℕ × ℕ). first + count ≤ pair.0) pairs to (length pairs)
  pub order : from ≤ to
  pub within : to ≤ length pairs
