-- Lemmas on the live rows of a table that has a row or none in each place.
use Rattle.std.proofs.{Common.{rules, refl, ap, ◌∙◌, arith}, lemmas.List.{append-nil, length-append, Sums.sum_by-cons}}
use Rattle.std.specs.{List.{filter_map, list_all}, Option.option_map, Prelude.{◌≡◌, ◌&&◌, ℕ, ◌+◌, ◌≤◌, nat_le, List}}
use Rattle.std.specs.Prelude.{[], ◌∷◌, ◌++◌, Option, Some, None, length, sum_by}
use Rattle.{mg_model.specs.{Abbreviations.with_live, State.ObjectRow}, mg_rules.specs.RowsRead.live_from}
use Rattle.mg_rules.specs.{Rules.{place_of, places_of}, Tables.{count_in, is_paid, pages_in}}

-- one place more
module _ {R : Type 0} where
  live-behind : (i : ℕ) (rows : List (Option R)) (row : Option R) → live_from i (rows ++ row ∷ []) ≡ live_from i rows ++ with_live (i + length rows) row []
  live-behind i [] None = refl
  live-behind i [] (Some row) = let e : i ≡ i + 0 = omega arith in ap (λ n. (n, row) ∷ []) e
  live-behind i (None ∷ rows) row = grind (arith, live-behind (i + 1) rows row)
  live-behind i (Some first ∷ rows) row = grind (arith, live-behind (i + 1) rows row)

  pub behind-row : (i : ℕ) (row : R) (old new : List (Option R)) → length old ≡ i → new ≡ old ++ Some row ∷ [] → live_from 0 new ≡ live_from 0 old ++ (i, row) ∷ []
  behind-row i row old new long more = grind (arith, live-behind)

  pub behind-none : (old new : List (Option R)) → new ≡ old ++ None ∷ [] → live_from 0 new ≡ live_from 0 old
  behind-none old new more = ap (live_from 0) more ∙ live-behind 0 old None ∙ append-nil (live_from 0 old)

  -- a row in a place of its own, after free ones
  pub behind-filled :
      (i : ℕ) (row : R) (old mid new : List (Option R)) → length mid ≡ i → live_from 0 mid ≡ live_from 0 old → new ≡ mid ++ Some row ∷ [] → live_from 0 new ≡ live_from 0 old ++ (i, row) ∷ []
  behind-filled i row old mid new long same more = behind-row i row mid new long more ∙ ap (λ xs. xs ++ (i, row) ∷ []) same

  pub long-more : (i : ℕ) (row : Option R) (old new : List (Option R)) → length old ≡ i → new ≡ old ++ row ∷ [] → length new ≤ i + 1
  long-more i row old new long more = let e = ap length more in let l = length-append old (row ∷ []) in omega arith

-- what is said place by place is said of the live rows
pub live-places : (i : ℕ) (rows : List (Option ObjectRow)) → filter_map (option_map place_of) rows ≡ places_of (live_from i rows)
live-places i [] = refl
live-places i (None ∷ rows) = live-places (i + 1) rows
live-places i (Some row ∷ rows) = ap (λ xs. place_of row ∷ xs) (live-places (i + 1) rows)

pub live-paid : (accounts i : ℕ) (rows : List (Option ObjectRow)) → list_all (is_paid accounts) rows ≡ list_all (λ (o : ℕ × ObjectRow). nat_le o.1.account accounts) (live_from i rows)
live-paid accounts i [] = refl
live-paid accounts i (None ∷ rows) = live-paid accounts (i + 1) rows
live-paid accounts i (Some row ∷ rows) = ap (λ t. nat_le row.account accounts && t) (live-paid accounts (i + 1) rows)

pub live-pages : (i : ℕ) (rows : List (Option ObjectRow)) → sum_by pages_in rows ≡ sum_by (λ (o : ℕ × ObjectRow). o.1.pages) (live_from i rows)
live-pages i [] = refl
live-pages i (None ∷ rows) = live-pages (i + 1) rows
live-pages i (Some row ∷ rows) = search (rules, sum_by-cons, live-pages (i + 1) rows)

pub live-count : (i : ℕ) (rows : List (Option ObjectRow)) → sum_by count_in rows ≡ length (live_from i rows)
live-count i [] = refl
live-count i (None ∷ rows) = live-count (i + 1) rows
live-count i (Some row ∷ rows) = search (rules, sum_by-cons, live-count (i + 1) rows)
