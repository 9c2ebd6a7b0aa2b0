-- Lemmas on one write more.
use Rattle.{mg_journal.specs.Staged.{goes_to, staged}, mg_model.specs.{Layout.globals_block, Replay.homes_fit}, std.proofs.Common.{refl, arith}}
use Rattle.std.{proofs.{Common.{length-append, length-set}, lemmas.Bool.{and_from, and_parts, le-leb, lt-ltb}}, specs.Option.option_map_or}
use Rattle.std.specs.Prelude.{◌≡◌, ◌≤◌, ◌<◌, ◌+◌, ◌&&◌, nat_le, nat_lt, ℕ, zero, suc, true, List, [], ◌∷◌, ◌++◌, length, position, slice_set, Option}
use Rattle.std.specs.Prelude.{Some, None}

module _ (total block : ℕ) (bytes : List ℕ) (low : globals_block ≤ block) (high : block < total) where
  home : (nat_le globals_block block && nat_lt block total) ≡ true
  home = and_from (nat_le globals_block block) (nat_lt block total) (le-leb globals_block block low) (lt-ltb block total high)

  set_fit : (writes : List (ℕ × List ℕ)) (k : ℕ) → homes_fit total writes ≡ true → homes_fit total (slice_set writes k (block, bytes)) ≡ true
  set_fit [] k fit = refl
  set_fit (write ∷ writes) zero fit = and_from (nat_le globals_block block && nat_lt block total) (homes_fit total writes) home (and_parts (nat_le globals_block write.0 && nat_lt write.0 total) (homes_fit total writes) fit).1
  set_fit (write ∷ writes) (suc k) fit =
      let parts = and_parts (nat_le globals_block write.0 && nat_lt write.0 total) (homes_fit total writes) fit in
      and_from (nat_le globals_block write.0 && nat_lt write.0 total) (homes_fit total (slice_set writes k (block, bytes))) parts.0 (set_fit writes k parts.1)

  behind_fit : (writes : List (ℕ × List ℕ)) → homes_fit total writes ≡ true → homes_fit total (writes ++ (block, bytes) ∷ []) ≡ true
  behind_fit [] fit = and_from (nat_le globals_block block && nat_lt block total) true home refl
  behind_fit (write ∷ writes) fit =
      let parts = and_parts (nat_le globals_block write.0 && nat_lt write.0 total) (homes_fit total writes) fit in
      and_from (nat_le globals_block write.0 && nat_lt write.0 total) (homes_fit total (writes ++ (block, bytes) ∷ [])) parts.0 (behind_fit writes parts.1)

  pub staged_fit : (writes : List (ℕ × List ℕ)) → homes_fit total writes ≡ true → homes_fit total (staged writes block bytes) ≡ true
  staged_fit writes fit = at (position (goes_to block) writes)
    where
      at : (place : Option ℕ) → homes_fit total (option_map_or (λ k. slice_set writes k (block, bytes)) place (writes ++ (block, bytes) ∷ [])) ≡ true
      at None = behind_fit writes fit
      at (Some k) = set_fit writes k fit

pub staged_few : (writes : List (ℕ × List ℕ)) (block : ℕ) (bytes : List ℕ) → length (staged writes block bytes) ≤ length writes + 1
staged_few writes block bytes = at (position (goes_to block) writes)
  where
    at : (place : Option ℕ) → length (option_map_or (λ k. slice_set writes k (block, bytes)) place (writes ++ (block, bytes) ∷ [])) ≤ length writes + 1
    at None = omega (arith, length-append writes ((block, bytes) ∷ []))
    at (Some k) = omega (arith, length-set writes k (block, bytes))
