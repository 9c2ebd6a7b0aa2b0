-- Tables of newest bodies: what a search finds, and what a place more does.
use Rattle.mg_journal.specs.{Newest.{Ascends, HasLast, Puts, TakesIn, is_for, lying}, Places.IsPlace, Staged.home_at}
use Rattle.{mg_model.specs.{Layout.globals_block, Replay.homes_fit}, std.proofs.Common.{refl, sym, ap, ◌∙◌, inl, inr, ⊎_elim, arith, get_or}}
use Rattle.std.proofs.lemmas.{Bool.{cases_eq, cases_lt, and_parts, eq-eqb, leb-true, ltb-true, ne_eqb, Decides.nat_tests}, List.append-nil}
use Rattle.std.proofs.lemmas.List.{get_or-take, length-take-le, reverse-append, take-append-drop, take_more, Edits.get_or-insert_above}
use Rattle.std.proofs.lemmas.List.{Edits.{get_or-insert_at, get_or-insert_below, length-insert}, Elements.{All-append, All-cons, All-drop, All-head}}
use Rattle.std.{proofs.lemmas.{List.{Elements.{All-tail, All-take}, Folds.{find-append, find_past}}, Option.none-some}, specs.List.AllWithin}
use Rattle.std.specs.{List.Sorted.IsNonDecreasingBy, Option.option_or, Prelude.{◌≡◌, ◌≢◌, ◌≤◌, ◌<◌, ◌+◌, ◌-◌, ◌⊎◌, ◌&&◌, nat_le, nat_lt, ℕ, Bool}}
use Rattle.std.specs.Prelude.{zero, suc, false, true, All, List, [], ◌∷◌, ◌++◌, drop, find, if◌then◌else◌, insert, length, option_map, reverse}
use Rattle.std.specs.Prelude.{slice_set, take, Option, Some, None}

pub no-falls : (table : List (ℕ × ℕ)) → Ascends table → IsNonDecreasingBy (λ (place : ℕ × ℕ). place.0) table
no-falls table up i j d order under = grind (arith, nat_tests)

ascends-rest : (place : ℕ × ℕ) (table : List (ℕ × ℕ)) → Ascends (place ∷ table) → Ascends table
ascends-rest place table up i j d order under = up (suc i) (suc j) d (omega arith) (omega arith)

-- no place belongs to block i
pub none-for : (i : ℕ) (table : List (ℕ × ℕ)) → ((k : ℕ) (d : ℕ × ℕ) → k < length table → (get_or table k d).0 ≢ i) → find (is_for i) table ≡ None
none-for i [] other = refl
none-for i (place ∷ table) other =
    ap (λ t. if t then Some place else find (is_for i) table) (ne_eqb place.0 i (other 0 place (omega arith)))
    ∙ none-for i table (λ k d below. other (suc k) d (omega arith))

pub found-at : (i : ℕ) (table : List (ℕ × ℕ)) (at : ℕ) (d : ℕ × ℕ) → at < length table → AllWithin (λ (place : ℕ × ℕ). place.0 < i) table 0 at → (get_or table at d).0 ≡ i → find (is_for i) table ≡ Some (get_or table at d)
found-at i [] at d under below is = absurd (omega arith)
found-at i (place ∷ table) zero d under below is = ap (λ t. if t then Some place else find (is_for i) table) (eq-eqb place.0 i is)
found-at i (place ∷ table) (suc at) d under below is =
    ap (λ t. if t then Some place else find (is_for i) table) (ne_eqb place.0 i (λ e. let b = below 0 place (omega arith) (omega arith) in omega arith))
    ∙ found-at i table at d (omega arith) (λ k d low high. below (suc k) d (omega arith) (omega arith)) is

-- when the first places belong to blocks below i, and the rest to others
pub found-none : (i : ℕ) (table : List (ℕ × ℕ)) (at : ℕ) → Ascends table → AllWithin (λ (place : ℕ × ℕ). place.0 < i) table 0 at → AllWithin (λ (place : ℕ × ℕ). i ≤ place.0) table at (length table)
    → ((d : ℕ × ℕ) → at < length table → (get_or table at d).0 ≢ i) → find (is_for i) table ≡ None
found-none i table at up below above other = grind (arith, none-for, nat_tests)

-- a place over the one of its block
set-here : (place : ℕ × ℕ) (table : List (ℕ × ℕ)) (at : ℕ) → at < length table → AllWithin (λ (p : ℕ × ℕ). p.0 < place.0) table 0 at → find (is_for place.0) (slice_set table at place) ≡ Some place
set-here place [] at under below = absurd (omega arith)
set-here place (first ∷ table) zero under below = ap (λ t. if t then Some place else find (is_for place.0) table) (eq-eqb place.0 place.0 refl)
set-here place (first ∷ table) (suc at) under below =
    ap (λ t. if t then Some first else find (is_for place.0) (slice_set table at place)) (ne_eqb first.0 place.0 (λ e. let b = below 0 first (omega arith) (omega arith) in omega arith))
    ∙ set-here place table at (omega arith) (λ k d low high. below (suc k) d (omega arith) (omega arith))

-- a table that has the place for its block, and is as it was for the others
puts-from : (place : ℕ × ℕ) (old new : List (ℕ × ℕ)) → find (is_for place.0) new ≡ Some place → ((i : ℕ) → place.0 ≢ i → find (is_for i) new ≡ find (is_for i) old) → Puts old place new
puts-from place old new here there i = grind (arith, nat_tests, eq-eqb, ne_eqb)

pub set-puts : (place : ℕ × ℕ) (table : List (ℕ × ℕ)) (at : ℕ) (d : ℕ × ℕ) → at < length table → AllWithin (λ (p : ℕ × ℕ). p.0 < place.0) table 0 at → (get_or table at d).0 ≡ place.0 → Puts table place (slice_set table at place)
set-puts place table at d under below is = grind (arith, puts-from, set-here, find_past, ne_eqb)

-- a place entered before those of higher blocks
module _ (place : ℕ × ℕ) (table : List (ℕ × ℕ)) (at : ℕ) (within : at ≤ length table) (below : AllWithin (λ (p : ℕ × ℕ). p.0 < place.0) table 0 at) where
  none-before : find (is_for place.0) (take at table) ≡ None
  none-before = grind (arith, none-for, length-take-le, get_or-take)

  pub insert-puts : Puts table place (insert table at place)
  insert-puts = puts-from place table (insert table at place) here there
    where
      here : find (is_for place.0) (insert table at place) ≡ Some place
      here =
          find-append (is_for place.0) (take at table) (place ∷ drop at table)
          ∙ ap (λ o. option_or o (find (is_for place.0) (place ∷ drop at table))) none-before
          ∙ ap (λ t. if t then Some place else find (is_for place.0) (drop at table)) (eq-eqb place.0 place.0 refl)

      there : (i : ℕ) → place.0 ≢ i → find (is_for i) (insert table at place) ≡ find (is_for i) table
      there i other =
          find-append (is_for i) (take at table) (place ∷ drop at table)
          ∙ ap (λ t. option_or (find (is_for i) (take at table)) (if t then Some place else find (is_for i) (drop at table))) (ne_eqb place.0 i other)
          ∙ sym (find-append (is_for i) (take at table) (drop at table))
          ∙ ap (find (is_for i)) (take-append-drop at table)

  pub insert-ascends : Ascends table → AllWithin (λ (p : ℕ × ℕ). place.0 ≤ p.0) table at (length table) → ((d : ℕ × ℕ) → at < length table → (get_or table at d).0 ≢ place.0) → Ascends (insert table at place)
  insert-ascends up above other i j d order under = go (cases_lt j at) (cases_eq j at) (cases_lt i at) (cases_eq i at)
    where
      long : length (insert table at place) ≡ length table + 1
      long = length-insert table at place within

      low : (k : ℕ) → k < at → (get_or (insert table at place) k d).0 ≡ (get_or table k d).0
      low k b = ap (λ (p : ℕ × ℕ). p.0) (get_or-insert_below table at place d k b within)

      middle : (k : ℕ) → k ≡ at → (get_or (insert table at place) k d).0 ≡ place.0
      middle k e = ap (λ n. (get_or (insert table at place) n d).0) e ∙ ap (λ (p : ℕ × ℕ). p.0) (get_or-insert_at table at place d within)

      high : (k : ℕ) → at < k → (get_or (insert table at place) k d).0 ≡ (get_or table (k - 1) d).0
      high k b = grind (arith, get_or-insert_above)

      over : (k : ℕ) → at ≤ k → k < length table → place.0 < (get_or table k d).0
      over k from to = grind (arith, nat_tests)

      go : (j < at) ⊎ (at ≤ j) → (j ≡ at) ⊎ (j ≢ at) → (i < at) ⊎ (at ≤ i) → (i ≡ at) ⊎ (i ≢ at) → (get_or (insert table at place) i d).0 < (get_or (insert table at place) j d).0
      go (inl lj) ej (inl li) ei = let l = long in let a = low i li in let b = low j lj in let r = up i j d order (omega arith) in omega arith
      go (inl lj) ej (inr hi) ei = absurd (omega arith)
      go (inr hj) (inl ej) (inl li) ei = let l = long in let a = low i li in let b = middle j ej in let r = below i d (omega arith) li in omega arith
      go (inr hj) (inl ej) (inr hi) ei = absurd (omega arith)
      go (inr hj) (inr nj) (inl li) ei = let l = long in let a = low i li in let b = high j (omega arith) in let r = up i (j - 1) d (omega arith) (omega arith) in omega arith
      go (inr hj) (inr nj) (inr hi) (inl ei) = let l = long in let a = middle i ei in let b = high j (omega arith) in let r = over (j - 1) (omega arith) (omega arith) in omega arith
      go (inr hj) (inr nj) (inr hi) (inr ni) = let l = long in let a = high i (omega arith) in let b = high j (omega arith) in let r = up (i - 1) (j - 1) d (omega arith) (omega arith) in omega arith

-- each is as before, and so is the one that is entered, if it is
pub insert-all : (P : ℕ × ℕ → Type 0) (place : ℕ × ℕ) (table : List (ℕ × ℕ)) (at : ℕ) (is_in : Bool) → P place → All P table → All P (if is_in then insert table at place else table)
insert-all P place table at true is all = All-append P (take at table) (place ∷ drop at table) (All-take P at table all) (All-cons P place (drop at table) is (All-drop P at table all))
insert-all P place table at false is all = all

-- a place more, after those that a table has the last of
pub last-more : (places old new : List (ℕ × ℕ)) (place : ℕ × ℕ) → HasLast places old → Puts old place new → HasLast (places ++ place ∷ []) new
last-more places old new place last puts i = grind (arith, reverse-append)

-- when there are no more places
pub takes-none : (more table : List (ℕ × ℕ)) → more ≡ [] → TakesIn more table table
takes-none more table none places last i = last i ∙ ap (λ p. find (is_for i) (reverse p)) (sym (append-nil places) ∙ ap (λ m. places ++ m) (sym none))

lying-last : (first : ℕ) (writes : List (ℕ × List ℕ)) (last : ℕ × List ℕ) → lying first (writes ++ last ∷ []) ≡ lying first writes ++ (last.0, first + length writes) ∷ []
lying-last first [] last = let e : first ≡ first + 0 = omega arith in ap (λ n. (last.0, n) ∷ []) e
lying-last first ((home, x) ∷ writes) last = grind (arith, lying-last (first + 1) writes last)

pub lying_more : (first : ℕ) (writes : List (ℕ × List ℕ)) (k : ℕ) → k < length writes → lying first (take (k + 1) writes) ≡ lying first (take k writes) ++ (home_at writes k, first + k) ∷ []
lying_more first writes k below =
    let long : length (take k writes) ≡ k = length-take-le k writes (omega arith) in
    ap (lying first) (take_more writes k (0, []) below)
    ∙ lying-last first (take k writes) (get_or writes k (0, []))
    ∙ ap (λ n. lying first (take k writes) ++ (home_at writes k, first + n) ∷ []) long

-- a body of a write whose home fits
pub lies_fit : (total first : ℕ) (writes : List (ℕ × List ℕ)) (k : ℕ) → homes_fit total writes ≡ true → k < length writes → first + k < globals_block → IsPlace total (home_at writes k, first + k)
lies_fit total first [] k fit below room = absurd (omega arith)
lies_fit total first (write ∷ writes) zero fit below room = grind (arith, and_parts, leb-true, ltb-true)
lies_fit total first (write ∷ writes) (suc k) fit below room =
    let rest = lies_fit total (first + 1) writes k (and_parts (nat_le globals_block write.0 && nat_lt write.0 total) (homes_fit total writes) fit).1 (omega arith) (omega arith) in
    record { low = rest.low; high = rest.high; body = room }

or_none : (o : Option (ℕ × ℕ)) → option_or o None ≡ o
or_none None = refl
or_none (Some p) = refl

-- in a table that ascends the last place of a block is the only one
pub only-one : (i : ℕ) (table : List (ℕ × ℕ)) → Ascends table → find (is_for i) (reverse table) ≡ find (is_for i) table
only-one i [] up = refl
only-one i (place ∷ table) up =
    ap (find (is_for i)) (reverse-append (place ∷ []) table)
    ∙ find-append (is_for i) (reverse table) (place ∷ [])
    ∙ ap (λ o. option_or o (find (is_for i) (place ∷ []))) (only-one i table (ascends-rest place table up))
    ∙ ⊎_elim here there (cases_eq place.0 i)
  where
    here : place.0 ≡ i → option_or (find (is_for i) table) (find (is_for i) (place ∷ [])) ≡ find (is_for i) (place ∷ table)
    here is =
        ap (λ o. option_or o (find (is_for i) (place ∷ []))) (none-for i table (λ k d under e. let r = up 0 (suc k) d (omega arith) (omega arith) in omega arith))
        ∙ ap (λ t. if t then Some place else None) (eq-eqb place.0 i is)
        ∙ sym (ap (λ t. if t then Some place else find (is_for i) table) (eq-eqb place.0 i is))

    there : place.0 ≢ i → option_or (find (is_for i) table) (find (is_for i) (place ∷ [])) ≡ find (is_for i) (place ∷ table)
    there other = grind (arith, ne_eqb, or_none)

-- a body that is found lies on the volume
pub found-below : (total : ℕ) (table : List (ℕ × ℕ)) (i body : ℕ) → All (IsPlace total) table → option_map (λ (p : ℕ × ℕ). p.1) (find (is_for i) table) ≡ Some body → body < total
found-below total [] i body all is = absurd (none-some body is)
found-below total (place ∷ table) i body all is =
    grind (arith, All-tail, All-head, found-below total table i body (All-tail (IsPlace total) place table all))
