-- Rows in the order of their places, one place after another.
use Rattle.std.proofs.{Common.{subst, sym, arith, length-append}, lemmas.List.Elements.{All-append, All-cons, All-head}}
use Rattle.std.{proofs.lemmas.List.{Elements.{All-nil, All-tail}, Kept.AllPairs-cons}, specs.Prelude.{◌≡◌, ℕ, ◌+◌, ◌<◌}}
use Rattle.std.specs.Prelude.{◌≤◌, All, AllPairs, List, [], ◌∷◌, ◌++◌}
use Rattle.mg_model.specs.KeptListLemmas.{AllPairs-head, AllPairs-nil, AllPairs-tail}
use Rattle.mg_rules.specs.{RowsRead.ArePlaced, TableRows.EachKeeps}

module _ {R : Type 0} where
  abbrev Before : ℕ × R → ℕ × R → Type 0
  Before x y = x.0 < y.0

  abbrev Below : ℕ → ℕ × R → Type 0
  Below n row = row.0 < n

  -- a row after all others
  rise_more : (i : ℕ) (row : R) (rows : List (ℕ × R)) → All (Below i) rows → AllPairs Before rows → AllPairs Before (rows ++ (i, row) ∷ [])
  rise_more i row [] below rise = AllPairs-cons Before (i, row) [] (All-nil (Before (i, row))) (AllPairs-nil Before)
  rise_more i row (first ∷ rows) below rise =
      AllPairs-cons Before first (rows ++ (i, row) ∷ [])
      (All-append (Before first) rows ((i, row) ∷ []) (AllPairs-head Before first rows rise) (All-cons (Before first) (i, row) [] (All-head (Below i) first rows below) (All-nil (Before first))))
      (rise_more i row rows (All-tail (Below i) first rows below) (AllPairs-tail Before first rows rise))

  wider : (n m : ℕ) → n ≤ m → (rows : List (ℕ × R)) → All (Below n) rows → All (Below m) rows
  wider n m le [] below = All-nil (Below m)
  wider n m le (row ∷ rows) below = All-cons (Below m) row rows (let l : row.0 < n = All-head (Below n) row rows below in omega arith) (wider n m le rows (All-tail (Below n) row rows below))

  pub placed_none : ArePlaced {R = R} 0 []
  placed_none = record { few = omega arith; below = All-nil (Below 0); rise = AllPairs-nil Before }

  -- a free place
  pub placed_wider : (n m : ℕ) (rows : List (ℕ × R)) → n ≤ m → ArePlaced n rows → ArePlaced m rows
  placed_wider n m rows le are = record { few = let f = are.few in omega arith; below = wider n m le rows are.below; rise = are.rise }

  -- a live row
  pub placed_more : (i : ℕ) (row : R) (old new : List (ℕ × R)) → new ≡ old ++ (i, row) ∷ [] → ArePlaced i old → ArePlaced (i + 1) new
  placed_more i row old new more are =
      subst (ArePlaced (i + 1)) (sym more) (record {
        few = let f = are.few in let l = length-append old ((i, row) ∷ []) in omega arith;
        below = All-append (Below (i + 1)) old ((i, row) ∷ []) (wider i (i + 1) (omega arith) old are.below) (All-cons (Below (i + 1)) (i, row) [] (omega arith) (All-nil (Below (i + 1))));
        rise = rise_more i row old are.below are.rise;
      })

  pub placed_all : (n m : ℕ) (rows : List (ℕ × R)) → n ≡ m → ArePlaced n rows → ArePlaced m rows
  placed_all n m rows same are = subst (λ k. ArePlaced k rows) same are

-- what each row keeps
module _ {R : Type 0} (P : R → Type 0) where
  abbrev Keeps : ℕ × R → Type 0
  Keeps row = P row.1

  pub kept_none : EachKeeps P []
  kept_none = All-nil Keeps

  pub kept_more : (i : ℕ) (row : R) (old new : List (ℕ × R)) → new ≡ old ++ (i, row) ∷ [] → P row → EachKeeps P old → EachKeeps P new
  kept_more i row old new more here are = subst (EachKeeps P) (sym more) (All-append Keeps old ((i, row) ∷ []) are (All-cons Keeps (i, row) [] here (All-nil Keeps)))
