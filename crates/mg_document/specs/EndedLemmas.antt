-- Lemmas that a crate above cites too. None of them is part of a statement.
use Rattle.std.{proofs.Common.{◌≡◌, ℕ, Bool, true, false, if◌then◌else◌, List, [], ◌∷◌, refl}, specs.List.onto_first}
use Rattle.std.specs.List.{slice_split}
use Rattle.mg_model.specs.Ended.{all_but_last}

-- there is always a piece, so one before it is not the last
pub not_last : (cuts : ℕ → Bool) (piece bytes : List ℕ) → all_but_last (piece ∷ slice_split cuts bytes) ≡ piece ∷ all_but_last (slice_split cuts bytes)
not_last cuts piece [] = refl
not_last cuts piece (b ∷ bytes) = by_cut (cuts b)
  where
    by_first : (pieces : List (List ℕ)) → all_but_last (piece ∷ onto_first b pieces) ≡ piece ∷ all_but_last (onto_first b pieces)
    by_first [] = refl
    by_first (p ∷ pieces) = refl

    by_cut : (v : Bool) → all_but_last (piece ∷ (if v then [] ∷ slice_split cuts bytes else onto_first b (slice_split cuts bytes))) ≡ piece ∷ all_but_last (if v then [] ∷ slice_split cuts bytes else onto_first b (slice_split cuts bytes))
    by_cut true = refl
    by_cut false = by_first (slice_split cuts bytes)
