-- What a search among threads finds, by what is said of each place.
use Rattle.{memchr.specs.Find.IsFirstByte, mg_model.specs.{Ranges.IsThreadRow, State.ThreadRow, Threads.free_number_from, Turn.is_ready}}
use Rattle.{mg_objects.specs.Held.live_from, mg_volume.{proofs.ByNumber.{live-placed, none_held, put_held}, specs.Numbered.{AreListed, IsFreeNumber}}}
use Rattle.{mg_volume.specs.{Numbered.{has_number, is_taken, numbered, threads_of, turn_mark}, RowLists.ArePlaced}, std.proofs.Common.{refl, sym, ap}}
use Rattle.std.proofs.{Common.{◌∙◌, arith}, lemmas.{Bool.{eq-eqb, false_from_ne_true, le-ltb, lt-ltb, ne_eqb, Decides.nat_tests}, List.map-set}}
use Rattle.std.{proofs.lemmas.List.{length-map, Sums.position_or_len_is}, specs.{List.{position, position_or_len}, Option.ForSome, Prelude.◌≡◌}}
use Rattle.std.specs.Prelude.{◌+◌, ◌≤◌, ◌<◌, ◌&&◌, ◌==◌, nat_lt, ℕ, zero, suc, Bool, true, false, not, List, [], ◌∷◌, drop, find, if◌then◌else◌}
use Rattle.std.specs.Prelude.{length, map, option_map, replicate, slice_index, slice_set, Option, Some, None}

-- no number below the first
free-front : (n low high : ℕ) (xs : List (ℕ × ThreadRow)) → ArePlaced low high xs → n ≤ low → free_number_from n (threads_of (numbered xs)) ≡ n
free-front n low high [] placed below = refl
free-front n low high ((i, r) ∷ xs) placed below = let above = placed.0 in grind (arith, nat_tests)

pub free-from : (i : ℕ) (rows : List (Option ThreadRow)) → free_number_from (i + 1) (threads_of (numbered (live_from i rows))) ≡ i + 1 + position_or_len (λ is. not is) (map is_taken rows)
free-from i [] = omega arith
free-from i (None ∷ rows) = free-front (i + 1) (i + 1) (i + 1 + length rows) (live_from (i + 1) rows) (live-placed (i + 1) rows) (omega arith) ∙ omega arith
free-from i (Some r ∷ rows) = grind (arith, (free-from (i + 1) rows), eq-eqb)

-- how many there are: as many as places if each place has one, and else fewer
pub taken-few : (i : ℕ) (rows : List (Option ThreadRow)) → length (numbered (live_from i rows)) ≤ length rows
taken-few i [] = omega arith
taken-few i (None ∷ rows) = let few = taken-few (i + 1) rows in omega arith
taken-few i (Some r ∷ rows) = let few = taken-few (i + 1) rows in omega arith

pub taken-all : (i : ℕ) (rows : List (Option ThreadRow)) → position_or_len (λ is. not is) (map is_taken rows) ≡ length rows → length (numbered (live_from i rows)) ≡ length rows
taken-all i [] all = refl
taken-all i (None ∷ rows) all = absurd (omega arith)
taken-all i (Some r ∷ rows) all = let more = taken-all (i + 1) rows (omega arith) in omega arith

pub taken-not_all : (i : ℕ) (rows : List (Option ThreadRow)) → position_or_len (λ is. not is) (map is_taken rows) < length rows → length (numbered (live_from i rows)) < length rows
taken-not_all i [] some = absurd (omega arith)
taken-not_all i (None ∷ rows) some = let few = taken-few (i + 1) rows in omega arith
taken-not_all i (Some r ∷ rows) some = let more = taken-not_all (i + 1) rows (omega arith) in omega arith

-- and the free number is none of theirs
none-before : (n low high : ℕ) (xs : List (ℕ × ThreadRow)) → ArePlaced low high xs → n ≤ low → has_number n (numbered xs) ≡ false
none-before n low high [] placed below = refl
none-before n low high ((i, r) ∷ xs) placed below = let above = placed.0 in grind (arith, nat_tests, none-before n (i + 1) high xs placed.2 (omega arith))

pub free-none : (i : ℕ) (rows : List (Option ThreadRow)) → has_number (i + 1 + position_or_len (λ is. not is) (map is_taken rows)) (numbered (live_from i rows)) ≡ false
free-none i [] = refl
free-none i (None ∷ rows) = ap (λ n. has_number n (numbered (live_from (i + 1) rows))) (omega arith) ∙ none-before (i + 1) (i + 1) (i + 1 + length rows) (live_from (i + 1) rows) (live-placed (i + 1) rows) (omega arith)
free-none i (Some r ∷ rows) = grind (arith, (free-none (i + 1) rows), ne_eqb)

-- the place that a search finds
pub found_at : (test : Bool → Bool) (xs : List Bool) (i : ℕ) → position test xs ≡ Some i → (position_or_len test xs ≡ i) × (i < length xs)
found_at test xs i is = (grind (arith, nat_tests), grind (arith, nat_tests))

pub found_none : (test : Bool → Bool) (xs : List Bool) → position test xs ≡ None → position_or_len test xs ≡ length xs
found_none test xs is = let f = few xs in grind (arith, nat_tests, is)
  where
    few : (ys : List Bool) → position_or_len test ys ≤ length ys
    few [] = omega arith
    few (y ∷ ys) = let rest = few ys in grind arith

-- and the first byte that passes a test
pub first_byte : (test : ℕ → Bool) (bytes : List ℕ) (found : Option ℕ) → IsFirstByte test bytes found → found ≡ position test bytes
first_byte test bytes None nowhere =
    let p = position_or_len test bytes in
    let past : p ≡ length bytes =
    position_or_len_is test bytes (length bytes) 0 (omega arith) (λ k few. false_from_ne_true (test (slice_index bytes k)) (nowhere k (omega arith) few)) (λ few. absurd (omega arith)) in
    sym (ap (λ b. if b then Some p else None) (le-ltb p (length bytes) (omega arith)))
first_byte test bytes (Some i) (place, here) = grind (arith, position_or_len_is, false_from_ne_true, lt-ltb)

-- the first that is Ready above a number
abbrev pub takes_turn : ℕ → ℕ × ThreadRow → Bool
takes_turn t thread = is_ready thread.1.state && nat_lt t thread.0

number-found : (t : ℕ) (i : ℕ) (r : ThreadRow) (xs : List (ℕ × ThreadRow)) (v : Bool) → takes_turn t (i, r) ≡ v
    → option_map (λ (x : ℕ × ThreadRow). x.0) (find (takes_turn t) ((i, r) ∷ xs)) ≡ (if v then Some i else option_map (λ (x : ℕ × ThreadRow). x.0) (find (takes_turn t) xs))
number-found t i r xs v is = grind arith

-- from places that are all above the number
abbrev from_place : ℕ → List ℕ → Option ℕ
from_place i marks = option_map (λ p. i + p + 1) (position (λ mark. mark == 1) marks)

position-cons : (b : Bool) (marks : List ℕ) → position (λ mark. mark == 1) ((if b then 1 else 0) ∷ marks) ≡ (if b then Some 0 else option_map (λ p. suc p) (position (λ mark. mark == 1) marks))
position-cons true marks = grind (arith, nat_tests)
position-cons false marks = grind (arith, nat_tests)

from-cons : (i : ℕ) (b : Bool) (marks : List ℕ) → from_place i ((if b then 1 else 0) ∷ marks) ≡ (if b then Some (i + 1) else from_place (i + 1) marks)
from-cons i b marks = ap (option_map (λ p. i + p + 1)) (position-cons b marks) ∙ by_first b (position (λ mark. mark == 1) marks)
  where
    by_first : (b : Bool) (o : Option ℕ) → option_map (λ p. i + p + 1) (if b then Some 0 else option_map (λ p. suc p) o) ≡ (if b then Some (i + 1) else option_map (λ p. i + 1 + p + 1) o)
    by_first true o = ap (λ n. Some n) (omega arith)
    by_first false None = refl
    by_first false (Some p) = ap (λ n. Some n) (omega arith)

turn-now : (t i : ℕ) (r : ThreadRow) → t ≤ i → takes_turn t (i + 1, r) ≡ is_ready r.state
turn-now t i r above = grind (arith, nat_tests)

turn-past : (t i : ℕ) (r : ThreadRow) → i < t → takes_turn t (i + 1, r) ≡ false
turn-past t i r past = grind (arith, nat_tests)

above-all : (t i : ℕ) (rows : List (Option ThreadRow)) → t ≤ i → option_map (λ (x : ℕ × ThreadRow). x.0) (find (takes_turn t) (numbered (live_from i rows))) ≡ from_place i (map turn_mark rows)
above-all t i [] above = refl
above-all t i (None ∷ rows) above = above-all t (i + 1) rows (omega arith) ∙ sym (from-cons i false (map turn_mark rows))
above-all t i (Some r ∷ rows) above =
    number-found t (i + 1) r (numbered (live_from (i + 1) rows)) (is_ready r.state) (turn-now t i r above)
    ∙ ap (λ o. if is_ready r.state then Some (i + 1) else o) (above-all t (i + 1) rows (omega arith))
    ∙ sym (from-cons i (is_ready r.state) (map turn_mark rows))

pub ready-above : (t i k : ℕ) (rows : List (Option ThreadRow)) → t ≡ i + k → option_map (λ (x : ℕ × ThreadRow). x.0) (find (takes_turn t) (numbered (live_from i rows))) ≡ from_place t (drop k (map turn_mark rows))
ready-above t i zero rows is = above-all t i rows (omega arith) ∙ ap (λ n. from_place n (map turn_mark rows)) (omega arith)
ready-above t i (suc k) [] is = refl
ready-above t i (suc k) (None ∷ rows) is = ready-above t (i + 1) k rows (omega arith)
ready-above t i (suc k) (Some r ∷ rows) is = grind (arith, (ready-above t (i + 1) k rows (omega arith)))

-- what is said of each place stays what it is
map-none : {Y : Type 0} (f : Option ThreadRow → Y) (n : ℕ) → map f (replicate n None) ≡ replicate n (f None)
map-none f zero = refl
map-none f (suc n) = ap (λ ys. f None ∷ ys) (map-none f n)

pub none_listed : (rows : List (Option ThreadRow)) (taken : List Bool) (ready : List ℕ) → rows ≡ replicate 256 None → taken ≡ replicate 256 false → ready ≡ replicate 256 0 → AreListed rows taken ready
none_listed rows taken ready is is_taken_so is_ready_so = record {
  by_number = none_held rows is;
  taken_are = is_taken_so ∙ sym (map-none is_taken 256) ∙ sym (ap (map is_taken) is);
  ready_are = is_ready_so ∙ sym (map-none turn_mark 256) ∙ sym (ap (map turn_mark) is);
}

pub put_listed : (rows : List (Option ThreadRow)) (taken : List Bool) (ready : List ℕ) (k : ℕ) (new : Option ThreadRow) (some : Bool) (turn : ℕ) → ForSome new IsThreadRow → some ≡ is_taken new → turn ≡ turn_mark new → AreListed rows taken ready
    → AreListed (slice_set rows k new) (slice_set taken k some) (slice_set ready k turn)
put_listed rows taken ready k new some turn good some_is turn_is held = record {
  by_number = put_held rows k new good held.by_number;
  taken_are = ap (λ xs. slice_set xs k some) held.taken_are ∙ ap (λ b. slice_set (map is_taken rows) k b) some_is ∙ sym (map-set is_taken rows k new);
  ready_are = ap (λ xs. slice_set xs k turn) held.ready_are ∙ ap (λ mark. slice_set (map turn_mark rows) k mark) turn_is ∙ sym (map-set turn_mark rows k new);
}

module _ (rows : List (Option ThreadRow)) (taken : List Bool) (ready : List ℕ) (held : AreListed rows taken ready) where
  -- the lowest free number
  pub free_is : (place : ℕ) → position (λ is. not is) taken ≡ Some place → IsFreeNumber (numbered (live_from 0 rows)) (Some (place + 1))
  free_is place found =
      let at = found_at (λ is. not is) (map is_taken rows) place (ap (position (λ is. not is)) (sym held.taken_are) ∙ found) in
      let (is, within) = at in
      let places = length-map rows is_taken in
      let few = taken-not_all 0 rows (omega arith) in
      let long = held.by_number.long in
      let from = free-from 0 rows in
      (omega arith, omega arith, ap (λ n. has_number n (numbered (live_from 0 rows))) (omega arith) ∙ free-none 0 rows)

  pub free_gone : position (λ is. not is) taken ≡ None → IsFreeNumber (numbered (live_from 0 rows)) None
  free_gone none =
      let past = found_none (λ is. not is) (map is_taken rows) (ap (position (λ is. not is)) (sym held.taken_are) ∙ none) in
      let places = length-map rows is_taken in
      let all = taken-all 0 rows (omega arith) in
      let long = held.by_number.long in
      omega arith

  -- the next that is Ready
  pub ready_is : (t : ℕ) (found : Option ℕ) → position (λ mark. mark == 1) (drop t ready) ≡ found → option_map (λ (x : ℕ × ThreadRow). x.0) (find (takes_turn t) (numbered (live_from 0 rows))) ≡ option_map (λ p. t + p + 1) found
  ready_is t found is = grind (arith, ready-above)
