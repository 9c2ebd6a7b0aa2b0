-- Lemmas on live rows, one place after another.
use Rattle.std.proofs.{Common.{refl, sym, ap, ◌∙◌, arith, ⊎_elim}, lemmas.{Bool.cases_eq, List.append-nil}}
use Rattle.std.specs.Prelude.{◌≡◌, ℕ, zero, suc, ◌+◌, ◌<◌, ◌≤◌, List, [], ◌∷◌, ◌++◌, Option, Some, None}
use Rattle.mg_model.specs.{Abbreviations.with_live, Spelling.Read, Volume.live_rows, Words.and_then}
use Rattle.mg_rules.specs.TableRows.{AreLive, NotSpelled}

pub and_then_some : {X Y : Type 0} (o : Option X) (f : X → Option Y) (y : Y) → and_then o f ≡ Some y → (x : X) × (o ≡ Some x) × (f x ≡ Some y)
and_then_some None f y is = absurd (cc)
and_then_some (Some x) f y is = (x, refl, is)

and_then_none : {X Y : Type 0} (o : Option X) (f : X → Option Y) → ((x : X) → f x ≡ None) → and_then o f ≡ None
and_then_none None f each = refl
and_then_none (Some x) f each = each x

pub with_live_more : {R : Type 0} (i : ℕ) (row : Option R) (xs ys : List (ℕ × R)) → with_live i row (xs ++ ys) ≡ with_live i row xs ++ ys
with_live_more i None xs ys = refl
with_live_more i (Some row) xs ys = refl

module _ {R : Type 0} (read : ℕ → Read R) where
  step : (i n : ℕ) (row : Option R) (rest : List (ℕ × R)) → read i ≡ Some row → live_rows read (i + 1) n ≡ Some rest → live_rows read i (suc n) ≡ Some (with_live i row rest)
  step i n row rest here later = grind (arith)

  -- one place more
  more : (i n j : ℕ) (xs : List (ℕ × R)) (row : Option R) → i + n ≡ j → live_rows read i n ≡ Some xs → read j ≡ Some row → live_rows read i (suc n) ≡ Some (xs ++ with_live j row [])
  more i zero j xs row at first here = grind (arith, step)
  more i (suc n) j xs row at first here =
      let a = and_then_some (read i) (λ row. and_then (live_rows read (i + 1) n) (λ rows. Some (with_live i row rows))) xs first in
      let b = and_then_some (live_rows read (i + 1) n) (λ rows. Some (with_live i a.0 rows)) xs a.2 in
      let same : with_live i a.0 b.0 ≡ xs = (let e = b.2 in cc) in
      step i (suc n) a.0 (b.0 ++ with_live j row []) a.1 (more (i + 1) n j b.0 row (omega arith) b.1 here)
      ∙ ap (λ ys. Some ys) (with_live_more i a.0 b.0 (with_live j row []))
      ∙ ap (λ ys. Some (ys ++ with_live j row [])) same

  -- a row that spells nothing
  none_spelled : (i n k : ℕ) → read k ≡ None → i ≤ k → k < i + n → live_rows read i n ≡ None
  none_spelled i zero k missing low high = absurd (omega arith)
  none_spelled i (suc n) k missing low high =
      ⊎_elim
      (λ here. ap (λ o. and_then o (λ row. and_then (live_rows read (i + 1) n) (λ rows. Some (with_live i row rows)))) (ap read (sym here) ∙ missing))
      (λ other. and_then_none (read i) (λ row. and_then (live_rows read (i + 1) n) (λ rows. Some (with_live i row rows)))
      (λ row. ap (λ o. and_then o (λ rows. Some (with_live i row rows))) (none_spelled (i + 1) n k missing (omega arith) (omega arith))))
      (cases_eq k i)

  pub not_spelled : (n k : ℕ) → read k ≡ None → k < n → NotSpelled read n
  not_spelled n k missing below = record { none = none_spelled 0 n k missing (omega arith) (omega arith) }

  pub live_none : AreLive read 0 []
  live_none = record { are = refl }

  -- a live row
  pub live_more : (k : ℕ) (row : R) (old new : List (ℕ × R)) → AreLive read k old → read k ≡ Some (Some row) → new ≡ old ++ (k, row) ∷ [] → AreLive read (k + 1) new
  live_more k row old new live here added = record {
    are = ap (live_rows read 0) (let e : k + 1 ≡ suc k = omega arith in e) ∙ more 0 k k old (Some row) (omega arith) live.are here ∙ ap (λ rows. Some rows) (sym added);
  }

  -- a free one
  pub live_free : (k : ℕ) (rows : List (ℕ × R)) → AreLive read k rows → read k ≡ Some None → AreLive read (k + 1) rows
  live_free k rows live here = record {
    are = ap (live_rows read 0) (let e : k + 1 ≡ suc k = omega arith in e) ∙ more 0 k k rows None (omega arith) live.are here ∙ ap (λ ys. Some ys) (append-nil rows);
  }
