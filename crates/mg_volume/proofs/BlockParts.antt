-- A row is found among those that are held.
use Rattle.{mg_volume.specs.RowLists.row_at, std.{proofs.Common.{refl, arith}, specs.Prelude.{◌≡◌, ◌==◌, ℕ, List, [], ◌∷◌, find, option_map}}}

pub row_found : {R : Type 0} (j : ℕ) (rows : List (ℕ × R)) → row_at j rows ≡ option_map (λ (o : ℕ × R). o.1) (find (λ (o : ℕ × R). o.0 == j) rows)
row_found j [] = refl
row_found j ((i, r) ∷ rows) = grind (arith, row_found j rows)
