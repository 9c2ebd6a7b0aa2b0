-- Accounts whose places are the first, and a gap between them.
use Rattle.std.proofs.{Common.{sym, ap, ◌∙◌, arith}, lemmas.{Bool.{and_left, and_right, ne_eqb}, List.drop_more}}
use Rattle.std.{proofs.lemmas.List.{take-append-drop, take_more}, specs.Prelude.{◌≡◌, ◌≢◌, ℕ, ◌+◌, ◌<◌, ◌==◌, false}}
use Rattle.std.specs.Prelude.{List, [], ◌∷◌, ◌++◌, drop, length, slice_index_or, take}
use Rattle.{mg_model.specs.{Volume.has_no_gap, declared.accounts.AccRow.AccRow}, mg_rules.specs.RowsRead.placed_from}

-- one account more
placed_more : (i j : ℕ) (accounts : List AccRow) (row : AccRow) → i + length accounts ≡ j → placed_from i (accounts ++ row ∷ []) ≡ placed_from i accounts ++ (j, row) ∷ []
placed_more i j [] row at = let e : i ≡ j = omega arith in ap (λ k. (k, row) ∷ []) e
placed_more i j (a ∷ accounts) row at = ap (λ rest. (i, a) ∷ rest) (placed_more (i + 1) j accounts row (omega arith))

gap_there : (i k : ℕ) (row : AccRow) (accounts : List AccRow) (rest : List (ℕ × AccRow)) → i + length accounts ≢ k → has_no_gap i (placed_from i accounts ++ (k, row) ∷ rest) ≡ false
gap_there i k row [] rest other = and_left (k == i) (has_no_gap (i + 1) rest) (ne_eqb k i (λ same. other (omega arith)))
gap_there i k row (a ∷ accounts) rest other = and_right (i == i) (has_no_gap (i + 1) (placed_from (i + 1) accounts ++ (k, row) ∷ rest)) (gap_there (i + 1) k row accounts rest (λ same. other (omega arith)))

-- a row whose place is not the number of accounts before it
pub gap-there : (rows : List (ℕ × AccRow)) (accounts : List AccRow) (i : ℕ) (d : ℕ × AccRow) → i < length rows → placed_from 0 accounts ≡ take i rows → (slice_index_or rows i d).0 ≢ length accounts → has_no_gap 0 rows ≡ false
gap-there rows accounts i d below same other =
    let at = slice_index_or rows i d in
    let whole : rows ≡ placed_from 0 accounts ++ at ∷ drop (i + 1) rows = sym (take-append-drop i rows) ∙ ap (λ xs. xs ++ drop i rows) (sym same) ∙ ap (λ ys. placed_from 0 accounts ++ ys) (drop_more rows i d below) in
    ap (has_no_gap 0) whole ∙ gap_there 0 at.0 at.1 accounts (drop (i + 1) rows) (λ is. other (omega arith))

-- a row whose place is that number
pub account-next : (rows : List (ℕ × AccRow)) (old new : List AccRow) (i : ℕ) (d : ℕ × AccRow) → i < length rows → placed_from 0 old ≡ take i rows → (slice_index_or rows i d).0 ≡ length old → new ≡ old ++ (slice_index_or rows i d).1 ∷ [] → placed_from 0 new ≡ take (i + 1) rows
account-next rows old new i d below same at more =
    let row = slice_index_or rows i d in
    ap (placed_from 0) more ∙ placed_more 0 row.0 old row.1 (omega arith) ∙ ap (λ xs. xs ++ row ∷ []) same ∙ sym (take_more rows i d below)
