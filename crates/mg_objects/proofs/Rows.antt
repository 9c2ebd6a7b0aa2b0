-- Which objects a table of rows has, and which it has once a row is written.
use Rattle.mg_index.specs.ListLemmas.{Rises, contains-behind, contains-cases, contains-none, pair-cases}
use Rattle.mg_model.specs.{KeptListLemmas.{AllPairs-change, AllPairs-head, AllPairs-nil, AllPairs-tail}, Objects.{page_behind, page_of}}
use Rattle.{mg_model.specs.{Ranges.IsObjectRow, State.ObjectRow}, mg_objects.proofs.Lists.{all-from, filter-had, filter-has, map-had, map-has}}
use Rattle.mg_objects.{proofs.Lists.same-rising, specs.Held.{AreApart, AreSound, IsBefore, IsPut, by_base, into_place, live_from, objects_in}}
use Rattle.{mg_objects.specs.Held.with_row, std.proofs.Common.{refl, sym, ap, ◌∙◌, subst, ⊎_elim, arith, get_or, get_or-set_other, get_or-set_same}}
use Rattle.std.proofs.lemmas.{Bool.{cases_eq, cases_lt, cond_both, eqb-false, eqb-true, ltb-false, ltb-true, ne_eqb, not-true}, List.get_or_past}
use Rattle.std.proofs.lemmas.List.{Elements.{All-cons, All-head, All-tail, Contains-get_or}, Kept.{AllPairs-cons, AllPairs-filter}}
use Rattle.std.proofs.lemmas.List.Sorted.{All-permutation, Contains-permutation, IsPermutation-cons, IsPermutation-middle, IsPermutation-refl}
use Rattle.std.{proofs.lemmas.List.Sorted.{IsPermutation-sym, IsPermutation-trans, length_permutation}, specs.List.{AllPairs, Contains}}
use Rattle.std.specs.{List.Sorted.IsPermutation, Prelude.{◌≡◌, ◌≢◌, ◌+◌, ◌*◌, ◌/◌, ◌<◌, ◌≤◌, ◌==◌, ◌⊎◌, ℕ, zero, suc, nat_lt, not, All, List, []}}
use Rattle.std.specs.Prelude.{◌∷◌, ◌++◌, Option, None, Some, filter, if◌then◌else◌, length, slice_index_or, slice_set}

-- a row of a table, by its place
abbrev pub at : List (Option ObjectRow) → ℕ → Option ObjectRow
at rows k = slice_index_or rows k None

abbrev pub base_in : ℕ × ObjectRow → ℕ
base_in o = o.1.base

abbrev with_one : ObjectRow → ℕ × ObjectRow → ℕ × ObjectRow
with_one row o = if o.1.base == row.base then (o.0, row) else o

abbrev Below : ℕ × ObjectRow → ℕ × ObjectRow → Type 0
Below a b = a.1.base < b.1.base

abbrev Differ : ℕ × ObjectRow → ℕ × ObjectRow → Type 0
Differ a b = b.1.base ≢ a.1.base

-- when a row is there, its place is one of the table
pub within-table : (rows : List (Option ObjectRow)) (k : ℕ) (row : ObjectRow) → at rows k ≡ Some row → k < length rows
within-table rows k row is = ⊎_elim (λ l. l) (λ past. let e = get_or_past rows k None past in absurd (cc)) (cases_lt k (length rows))

-- an object is put before the first with a larger base
into-moved : (new : ℕ × ObjectRow) (xs : List (ℕ × ObjectRow)) → IsPermutation (new ∷ xs) (into_place new xs)
into-moved new [] = IsPermutation-refl (new ∷ [])
into-moved new (o ∷ xs) =
    cond_both (nat_lt new.1.base o.1.base) (new ∷ o ∷ xs) (o ∷ into_place new xs) (λ (ys : List (ℕ × ObjectRow)). IsPermutation (new ∷ o ∷ xs) ys)
    (λ _. IsPermutation-refl (new ∷ o ∷ xs))
    (λ _. IsPermutation-trans (new ∷ o ∷ xs) (o ∷ new ∷ xs) (o ∷ into_place new xs) (IsPermutation-sym (o ∷ new ∷ xs) (new ∷ o ∷ xs) (IsPermutation-middle (o ∷ []) new xs))
    (IsPermutation-cons o (new ∷ xs) (into_place new xs) (into-moved new xs)))

into-rises : (new : ℕ × ObjectRow) (xs : List (ℕ × ObjectRow)) → All (Differ new) xs → Rises base_in xs → Rises base_in (into_place new xs)
into-rises new [] other up = AllPairs-cons Below new [] (λ k d under. absurd (omega arith)) up
into-rises new (o ∷ xs) other up =
    cond_both (nat_lt new.1.base o.1.base) (new ∷ o ∷ xs) (o ∷ into_place new xs) (Rises base_in)
    (λ t. let l = ltb-true new.1.base o.1.base t in
    AllPairs-cons Below new (o ∷ xs) (All-cons (Below new) o xs l (λ k d under. let h = behind k d under in omega arith)) up)
    (λ f. let l = ltb-false new.1.base o.1.base f in
    let e = All-head (Differ new) o xs other in
    AllPairs-cons Below o (into_place new xs) (All-permutation (Below o) (new ∷ xs) (into_place new xs) (into-moved new xs) (All-cons (Below o) new xs (omega arith) behind))
    (into-rises new xs (All-tail (Differ new) o xs other) (AllPairs-tail Below o xs up)))
  where
    behind : All (Below o) xs
    behind = AllPairs-head Below o xs up

by_base-moved : (xs : List (ℕ × ObjectRow)) → IsPermutation xs (by_base xs)
by_base-moved [] = IsPermutation-refl []
by_base-moved (o ∷ xs) = IsPermutation-trans (o ∷ xs) (o ∷ by_base xs) (into_place o (by_base xs)) (IsPermutation-cons o xs (by_base xs) (by_base-moved xs)) (into-moved o (by_base xs))

by_base-rises : (xs : List (ℕ × ObjectRow)) → AllPairs Differ xs → Rises base_in (by_base xs)
by_base-rises [] own = AllPairs-nil Below
by_base-rises (o ∷ xs) own =
    into-rises o (by_base xs) (All-permutation (Differ o) xs (by_base xs) (by_base-moved xs) (AllPairs-head Differ o xs own)) (by_base-rises xs (AllPairs-tail Differ o xs own))

-- the rows that are there, from a place on
live-has : (i : ℕ) (rows : List (Option ObjectRow)) (k n : ℕ) (row : ObjectRow) → n ≡ i + k → at rows k ≡ Some row → Contains (live_from i rows) (n, row)
live-has i [] k n row place is = absurd (cc)
live-has i (None ∷ rows) zero n row place is = absurd (cc)
live-has i (Some r ∷ rows) zero n row place is = let same : r ≡ row = cc in let e : i ≡ n = omega arith in (0, omega arith, λ j. (e j, same j))
live-has i (None ∷ rows) (suc k) n row place is = live-has (i + 1) rows k n row (omega arith) is
live-has i (Some r ∷ rows) (suc k) n row place is = contains-behind (i, r) (n, row) (live_from (i + 1) rows) (live-has (i + 1) rows k n row (omega arith) is)

live-had : (i : ℕ) (rows : List (Option ObjectRow)) (o : ℕ × ObjectRow) → Contains (live_from i rows) o → (k : ℕ) × (o.0 ≡ i + k) × (at rows k ≡ Some o.1)
live-had i [] o there = absurd (contains-none o there)
live-had i (None ∷ rows) o there = let old = live-had (i + 1) rows o there in (suc old.0, omega (arith, old.1), old.2)
live-had i (Some r ∷ rows) o there =
    ⊎_elim (λ here. let a = ap (λ (p : ℕ × ObjectRow). p.0) here in (0, omega arith, ap (λ (p : ℕ × ObjectRow). Some p.1) here))
    (λ behind. let old = live-had (i + 1) rows o behind in (suc old.0, omega (arith, old.1), old.2)) (contains-cases (i, r) o (live_from (i + 1) rows) there)

-- no two rows have one base
abbrev pub HaveOwnBases : (ℕ → Option ObjectRow) → Type 0
HaveOwnBases rows = (j k : ℕ) (a b : ObjectRow) → j ≢ k → rows j ≡ Some a → rows k ≡ Some b → b.base ≢ a.base

live-own : (i : ℕ) (rows : List (Option ObjectRow)) → HaveOwnBases (at rows) → AllPairs Differ (live_from i rows)
live-own i [] own = AllPairs-nil Differ
live-own i (None ∷ rows) own = live-own (i + 1) rows (λ j k a b other. own (suc j) (suc k) a b (omega arith))
live-own i (Some r ∷ rows) own =
    AllPairs-cons Differ (i, r) (live_from (i + 1) rows)
    (all-from (Differ (i, r)) (live_from (i + 1) rows) (λ o there. let had = live-had (i + 1) rows o there in own 0 (suc had.0) r o.1 (omega arith) refl had.2))
    (live-own (i + 1) rows (λ j k a b other. own (suc j) (suc k) a b (omega arith)))

-- how many there are
live-few : (i : ℕ) (rows : List (Option ObjectRow)) → length (live_from i rows) ≤ length rows
live-few i [] = omega arith
live-few i (None ∷ rows) = let l = live-few (i + 1) rows in omega arith
live-few i (Some row ∷ rows) = let l = live-few (i + 1) rows in omega arith

live-full : (i : ℕ) (rows : List (Option ObjectRow)) → ((k : ℕ) → k < length rows → at rows k ≢ None) → length (live_from i rows) ≡ length rows
live-full i [] all = refl
live-full i (None ∷ rows) all = absurd (all 0 (omega arith) refl)
live-full i (Some row ∷ rows) all = let l = live-full (i + 1) rows (λ k under. all (suc k) (omega arith)) in omega arith

pub objects-few : (rows : List (Option ObjectRow)) → length (objects_in rows) ≤ length rows
objects-few rows = omega (arith, live-few 0 rows, length_permutation (live_from 0 rows) (objects_in rows) (by_base-moved (live_from 0 rows)))

pub objects-full : (rows : List (Option ObjectRow)) → ((k : ℕ) → k < length rows → at rows k ≢ None) → length (objects_in rows) ≡ length rows
objects-full rows all = omega (arith, live-full 0 rows all, length_permutation (live_from 0 rows) (objects_in rows) (by_base-moved (live_from 0 rows)))

-- the objects of a table, and no others
pub objects-has : (rows : List (Option ObjectRow)) (k : ℕ) (row : ObjectRow) → at rows k ≡ Some row → Contains (objects_in rows) (k, row)
objects-has rows k row is = Contains-permutation (live_from 0 rows) (objects_in rows) (k, row) (by_base-moved (live_from 0 rows)) (live-has 0 rows k k row (omega arith) is)

pub objects-had : (rows : List (Option ObjectRow)) (o : ℕ × ObjectRow) → Contains (objects_in rows) o → at rows o.0 ≡ Some o.1
objects-had rows o there =
    let old = live-had 0 rows o (Contains-permutation (objects_in rows) (live_from 0 rows) o (IsPermutation-sym (live_from 0 rows) (objects_in rows) (by_base-moved (live_from 0 rows))) there) in
    ap (at rows) (let e : o.0 ≡ old.0 = omega (arith, old.1) in e) ∙ old.2

-- a list has the rows of a table, and rises
pub record AreThose (rows : ℕ → Option ObjectRow) (objects : List (ℕ × ObjectRow)) : Type 0 where
  pub rise : Rises base_in objects
  pub has : (k : ℕ) (row : ObjectRow) → rows k ≡ Some row → Contains objects (k, row)
  pub had : (o : ℕ × ObjectRow) → Contains objects o → rows o.0 ≡ Some o.1

pub objects-those : (rows : List (Option ObjectRow)) → HaveOwnBases (at rows) → AreThose (at rows) (objects_in rows)
objects-those rows own = record { rise = by_base-rises (live_from 0 rows) (live-own 0 rows own); has = objects-has rows; had = objects-had rows }

pub same-those : (rows : ℕ → Option ObjectRow) (xs ys : List (ℕ × ObjectRow)) → AreThose rows xs → AreThose rows ys → xs ≡ ys
same-those rows xs ys a b = same-rising base_in xs ys a.rise b.rise (λ o there. b.has o.0 o.1 (a.had o there)) (λ o there. a.has o.0 o.1 (b.had o there))

-- objects that are apart, by place and in order
base-is : (row : ObjectRow) → IsObjectRow row → row.base ≡ 4096 * (row.base / 4096)
base-is row is = let a = is.place.aligned in omega arith

pub before-lower : (a b : ObjectRow) → IsObjectRow a → IsObjectRow b → page_behind a ≤ page_of b → a.base + 4096 * a.pages ≤ b.base
before-lower a b row_a row_b before = let x = base-is a row_a in let y = base-is b row_b in omega arith

pub sound-own : (rows : ℕ → Option ObjectRow) → AreSound rows → HaveOwnBases rows
sound-own rows sound j k a b other at_a at_b same =
    let s = (sound.rows_are j a at_a).place.some in
    let l = before-lower a b (sound.rows_are j a at_a) (sound.rows_are k b at_b) (sound.apart j k a b other at_a at_b (omega arith)) in
    absurd (omega arith)

pub those-apart : (rows : ℕ → Option ObjectRow) (xs : List (ℕ × ObjectRow)) → AreSound rows → AreThose rows xs → AreApart xs
those-apart rows xs sound those i j d before under =
    let a = get_or xs i d in
    let b = get_or xs j d in
    let low = those.rise i j d before under in
    let at_a = those.had a (Contains-get_or xs i d (omega arith)) in
    let at_b = those.had b (Contains-get_or xs j d under) in
    sound.apart a.0 b.0 a.1 b.1 (λ same. let e : Some a.1 ≡ Some b.1 = sym at_a ∙ ap rows same ∙ at_b in let r : a.1 ≡ b.1 = cc in let n = ap (λ (row : ObjectRow). row.base) r in omega arith) at_a at_b (omega arith)

pub apart-sound : (rows : List (Option ObjectRow)) → ((k : ℕ) (row : ObjectRow) → at rows k ≡ Some row → IsObjectRow row) → AreApart (objects_in rows) → AreSound (at rows)
apart-sound rows good apart = record {
  rows_are = good;
  apart = λ j k a b other at_a at_b low.
      let s = (good k b at_b).place.some in
      ⊎_elim (λ same. absurd (other (ap (λ (o : ℕ × ObjectRow). o.0) same)))
      (⊎_elim (λ is. is) (λ wrong. absurd (let l = before-lower b a (good k b at_b) (good j a at_a) wrong in omega arith)))
      (pair-cases IsBefore (objects_in rows) (j, a) (k, b) apart (objects-has rows j a at_a) (objects-has rows k b at_b));
}

-- another row in a place, or none
pub set-put : (rows : List (Option ObjectRow)) (place : ℕ) (row : Option ObjectRow) → place < length rows → IsPut rows (slice_set rows place row) place row
set-put rows place row under = record { here = get_or-set_same rows place row None under; others = λ k other. get_or-set_other rows place k row None other }

pub push-put : (rows : List (Option ObjectRow)) (place : ℕ) (row : Option ObjectRow) → place ≡ length rows → IsPut rows (rows ++ row ∷ []) place row
push-put [] place row last = record { here = rw last; others = λ k other. get_or_past (row ∷ []) k None (omega arith) }
push-put (r ∷ rows) place row last =
    let rest = push-put rows (length rows) row refl in
    record { here = rw last (rest.here); others = λ k other. more k other rest.others }
  where
    more : (k : ℕ) → k ≢ place → ((k : ℕ) → k ≢ length rows → at (rows ++ row ∷ []) k ≡ at rows k) → at (r ∷ rows ++ row ∷ []) k ≡ at (r ∷ rows) k
    more zero other old = refl
    more (suc k) other old = old k (omega arith)

module _ (rows new : List (Option ObjectRow)) (place : ℕ) (sound : AreSound (at rows)) where
  -- the rows stay apart without one, and with one that meets no other
  pub cut-sound : IsPut rows new place None → AreSound (at new)
  cut-sound put = record { rows_are = λ k r is. sound.rows_are k r (old k r is); apart = λ j k a b other at_a at_b. sound.apart j k a b other (old j a at_a) (old k b at_b) }
    where
      old : (k : ℕ) (r : ObjectRow) → at new k ≡ Some r → at rows k ≡ Some r
      old k r is = sym (put.others k (λ same. let e : Some r ≡ None = sym is ∙ ap (at new) same ∙ put.here in absurd (cc))) ∙ is

  pub put-sound :
      (row : ObjectRow) → IsPut rows new place (Some row) → IsObjectRow row → ((k : ℕ) (b : ObjectRow) → k ≢ place → at rows k ≡ Some b → (page_behind row ≤ page_of b) ⊎ (page_behind b ≤ page_of row)) → AreSound (at new)
  put-sound row put good meets = record {
    rows_are = rows_are;
    apart = λ j k a b other at_a at_b low.
        let s = (rows_are k b at_b).place.some in
        let later = λ (wrong : page_behind b ≤ page_of a). before-lower b a (rows_are k b at_b) (rows_are j a at_a) wrong in
        ⊎_elim
        (λ is.
        let r = here j a is at_a in
        let k_other : k ≢ place = λ same. other (is ∙ sym same) in
        ⊎_elim (λ l. let e = ap page_behind r in omega arith) (λ wrong. let e = ap page_of r in let l = later (omega arith) in absurd (omega arith)) (meets k b k_other (sym (put.others k k_other) ∙ at_b)))
        (λ j_other.
        ⊎_elim
        (λ is.
        let r = here k b is at_b in
        ⊎_elim (λ wrong. let e = ap page_behind r in let l = later (omega arith) in absurd (omega arith)) (λ l. let e = ap page_of r in omega arith) (meets j a j_other (sym (put.others j j_other) ∙ at_a)))
        (λ k_other. sound.apart j k a b other (sym (put.others j j_other) ∙ at_a) (sym (put.others k k_other) ∙ at_b) low) (cases_eq k place)) (cases_eq j place);
  }
    where
      here : (k : ℕ) (r : ObjectRow) → k ≡ place → at new k ≡ Some r → row ≡ r
      here k r same is = let e : Some row ≡ Some r = sym put.here ∙ ap (at new) (sym same) ∙ is in cc

      rows_are : (k : ℕ) (r : ObjectRow) → at new k ≡ Some r → IsObjectRow r
      rows_are k r is = ⊎_elim (λ same. let P : ObjectRow → Type 0 = IsObjectRow in subst P (here k r same is) good) (λ other. sound.rows_are k r (sym (put.others k other) ∙ is)) (cases_eq k place)

  module _ (xs : List (ℕ × ObjectRow)) (those : AreThose (at rows) xs) where
    -- a row in a free place
    pub insert-those : (row : ObjectRow) → IsPut rows new place (Some row) → at rows place ≡ None → ((k : ℕ) (b : ObjectRow) → at rows k ≡ Some b → b.base ≢ row.base) → AreThose (at new) (into_place (place, row) xs)
    insert-those row put free own = record {
      rise = into-rises (place, row) xs (all-from (Differ (place, row)) xs (λ o there. own o.0 o.1 (those.had o there))) those.rise;
      has = λ k r is.
          Contains-permutation ((place, row) ∷ xs) (into_place (place, row) xs) (k, r) (into-moved (place, row) xs)
          (⊎_elim (λ same. let e : Some row ≡ Some r = sym put.here ∙ ap (at new) (sym same) ∙ is in let f : row ≡ r = cc in (0, omega arith, let g = sym same in λ i. (g i, f i)))
          (λ other. contains-behind (place, row) (k, r) xs (those.has k r (sym (put.others k other) ∙ is))) (cases_eq k place));
      had = λ o there.
          ⊎_elim (λ here. ap (λ (p : ℕ × ObjectRow). at new p.0) (sym here) ∙ put.here ∙ ap (λ (p : ℕ × ObjectRow). Some p.1) here)
          (λ behind. let was = those.had o behind in put.others o.0 (λ same. let e : Some o.1 ≡ None = sym was ∙ ap (at rows) same ∙ free in absurd (cc)) ∙ was)
          (contains-cases (place, row) o xs (Contains-permutation (into_place (place, row) xs) ((place, row) ∷ xs) o (IsPermutation-sym ((place, row) ∷ xs) (into_place (place, row) xs) (into-moved (place, row) xs)) there));
    }

    -- one without its row
    pub remove-those : (base : ℕ) (row : ObjectRow) → IsPut rows new place None → at rows place ≡ Some row → row.base ≡ base → AreThose (at new) (filter (λ (o : ℕ × ObjectRow). not (o.1.base == base)) xs)
    remove-those base row put was is = record {
      rise = AllPairs-filter Below (λ (o : ℕ × ObjectRow). not (o.1.base == base)) xs those.rise;
      has = λ k r at_k.
          let other : k ≢ place = λ same. let e : Some r ≡ None = sym at_k ∙ ap (at new) same ∙ put.here in absurd (cc) in
          let there = sym (put.others k other) ∙ at_k in
          filter-has (λ (o : ℕ × ObjectRow). not (o.1.base == base)) xs (k, r) (those.has k r there)
          (ap not (ne_eqb r.base base (λ same. sound-own (at rows) sound place k row r (λ e. other (sym e)) was there (same ∙ sym is))));
      had = λ o there.
          let kept = filter-had (λ (o : ℕ × ObjectRow). not (o.1.base == base)) xs o there in
          let old = those.had o kept.0 in
          let gone = eqb-false o.1.base base (not-true (o.1.base == base) kept.1) in
          put.others o.0 (λ same. let e : Some o.1 ≡ Some row = sym old ∙ ap (at rows) same ∙ was in let f : o.1 ≡ row = cc in gone (ap (λ (r : ObjectRow). r.base) f ∙ is)) ∙ old;
    }

    -- another row for one that is there
    pub update-those : (old row : ObjectRow) → IsPut rows new place (Some row) → at rows place ≡ Some old → old.base ≡ row.base → AreThose (at new) (with_row row xs)
    update-those old row put was is = record {
      rise = AllPairs-change Below Below (with_one row) (λ a b l. omega (arith, (kept a).1, (kept b).1)) xs those.rise;
      has = λ k r at_k. ⊎_elim (λ same. moved k r old at_k (ap (at rows) same ∙ was)) (λ other. moved k r r at_k (sym (put.others k other) ∙ at_k)) (cases_eq k place);
      had = λ o there.
          let from = map-had (with_one row) xs o there in
          ap (λ (p : ℕ × ObjectRow). at new p.0) (sym from.2) ∙ ap (at new) (kept from.0).0 ∙ now from.0 (those.had from.0 from.1) ∙ ap (λ (p : ℕ × ObjectRow). Some p.1) from.2;
    }
      where
        kept : (o : ℕ × ObjectRow) → ((with_one row o).0 ≡ o.0) × ((with_one row o).1.base ≡ o.1.base)
        kept o =
            cond_both (o.1.base == row.base) (o.0, row) o (λ (p : ℕ × ObjectRow). (p.0 ≡ o.0) × (p.1.base ≡ o.1.base)) (λ t. (refl, sym (eqb-true o.1.base row.base t))) (λ _. (refl, refl))

        now : (o : ℕ × ObjectRow) → at rows o.0 ≡ Some o.1 → at new o.0 ≡ Some (with_one row o).1
        now o at_o =
            cond_both (o.1.base == row.base) (o.0, row) o (λ (p : ℕ × ObjectRow). at new o.0 ≡ Some p.1)
            (λ t. ⊎_elim (λ same. ap (at new) same ∙ put.here) (λ other. absurd (sound-own (at rows) sound place o.0 old o.1 (λ e. other (sym e)) was at_o (eqb-true o.1.base row.base t ∙ sym is))) (cases_eq o.0 place))
            (λ f. put.others o.0 (λ same. let e : Some o.1 ≡ Some old = sym at_o ∙ ap (at rows) same ∙ was in let g : o.1 ≡ old = cc in eqb-false o.1.base row.base f (ap (λ (r : ObjectRow). r.base) g ∙ is)) ∙ at_o)

        moved : (k : ℕ) (r from : ObjectRow) → at new k ≡ Some r → at rows k ≡ Some from → Contains (with_row row xs) (k, r)
        moved k r from at_k at_old =
            let e : Some (with_one row (k, from)).1 ≡ Some r = sym (now (k, from) at_old) ∙ at_k in
            let g : (with_one row (k, from)).1 ≡ r = cc in
            let h = (kept (k, from)).0 in
            let P : ℕ × ObjectRow → Type 0 = Contains (with_row row xs) in
            subst P (λ i. (h i, g i)) (map-has (with_one row) xs (k, from) (those.has k from at_old))
