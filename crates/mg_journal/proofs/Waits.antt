-- What waits for a block, by the place of the write to it.
use Rattle.{mg_journal.specs.Staged.{bytes_of, goes_to, home_at, staged, waiting}, std.proofs.Common.{refl, ap, sym, ◌∙◌, arith}}
use Rattle.std.proofs.lemmas.{Bool.{eqb-true, lt-ltb, Decides.nat_tests}, List.{get_or-set_same, set-set, Folds.find_at, Quantifiers.position-Some}}
use Rattle.std.{proofs.lemmas.{List.Sums.position_or_len_is, Option.{none-some, slice_get-get_or, slice_get_cases}}, specs.List.position_or_len}
use Rattle.std.specs.{List.slice_get, Prelude.{◌≡◌, ◌<◌, ℕ, List, [], ◌∷◌, ◌++◌, length, option_map, position, slice_set, Option, Some, None}}
use Rattle.std.specs.Prelude.{MatchOption}

module _ (writes : List (ℕ × List ℕ)) (block : ℕ) where
  abbrev first : ℕ
  first = position_or_len (goes_to block) writes

  by-place : waiting writes block ≡ option_map (λ (write : ℕ × List ℕ). write.1) (slice_get writes first)
  by-place = ap (option_map (λ (write : ℕ × List ℕ). write.1)) (find_at (goes_to block) writes)

  pub waits_none : position (goes_to block) writes ≡ None → waiting writes block ≡ None
  waits_none none = grind (arith, nat_tests, by-place, lt-ltb, slice_get_cases, none-some)

  module _ (place : ℕ) (is : position (goes_to block) writes ≡ Some place) where
    pub place-below : place < length writes
    place-below = (position-Some (goes_to block) writes place (0, []) is).0

    home-there : home_at writes place ≡ block
    home-there = eqb-true (home_at writes place) block (position-Some (goes_to block) writes place (0, []) is).1

    pub waits-there : waiting writes block ≡ Some (bytes_of writes place)
    waits-there = grind (arith, position-Some, position_or_len_is, by-place, slice_get-get_or)

    pub staged-there : (bytes : List ℕ) → slice_set writes place (home_at writes place, bytes) ≡ staged writes block bytes
    staged-there bytes = grind (arith, home-there)

    -- other bytes twice
    pub staged-again : (bytes : List ℕ) (f : List ℕ → List ℕ) (mid : List (ℕ × List ℕ)) → mid ≡ slice_set writes place (home_at writes place, bytes)
        → slice_set mid place (home_at mid place, f (bytes_of mid place)) ≡ staged writes block (f bytes)
    staged-again bytes f mid is-mid = grind (arith, get_or-set_same, place-below, set-set, staged-there)

  -- nothing waits only if no write goes there
  pub none_waits : waiting writes block ≡ None → position (goes_to block) writes ≡ None
  none_waits none = at (position (goes_to block) writes) refl
    where
      at : (place : Option ℕ) → position (goes_to block) writes ≡ place → position (goes_to block) writes ≡ None
      at None is = is
      at (Some place) is = absurd (none-some (bytes_of writes place) (sym none ∙ waits-there place is))

pub waits-at : (writes : List (ℕ × List ℕ)) (block : ℕ) (o : Option ℕ) → o ≡ position (goes_to block) writes
    → MatchOption o (waiting writes block ≡ None) (λ place. (place < length writes) × (waiting writes block ≡ Some (bytes_of writes place)))
waits-at writes block None is = waits_none writes block (sym is)
waits-at writes block (Some place) is = (place-below writes block place (sym is), waits-there writes block place (sym is))

-- other bytes for the last of some writes
put-last : (writes : List (ℕ × List ℕ)) (block : ℕ) (bytes : List ℕ) (f : List ℕ → List ℕ) → let more = writes ++ (block, bytes) ∷ [] in
    slice_set more (length writes) (home_at more (length writes), f (bytes_of more (length writes))) ≡ writes ++ (block, f bytes) ∷ []
put-last [] block bytes f = refl
put-last (write ∷ writes) block bytes f = ap (λ rest. write ∷ rest) (put-last writes block bytes f)

pub staged-last : (writes : List (ℕ × List ℕ)) (block : ℕ) (bytes : List ℕ) (f : List ℕ → List ℕ) (mid : List (ℕ × List ℕ)) (last : ℕ) → position (goes_to block) writes ≡ None → mid ≡ writes ++ (block, bytes) ∷ [] → last ≡ length writes
    → slice_set mid last (home_at mid last, f (bytes_of mid last)) ≡ staged writes block (f bytes)
staged-last writes block bytes f mid last none is-mid is-last = grind (arith, put-last)
