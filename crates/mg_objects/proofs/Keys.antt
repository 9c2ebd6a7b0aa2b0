-- The bases in the places of a table, and the index of them.
use Rattle.mg_index.specs.{DistinctLemmas.own-distinct, ListLemmas.{map-at, rises-once}, Pairs.{Ascends, IsBound, IsExact}, PlaceLemmas.nowhere_any}
use Rattle.{mg_index.specs.Words.{numbers_in, unless_within}, mg_model.specs.{KeptListLemmas.AllPairs-change, Objects.{page_behind, page_of}}}
use Rattle.{mg_model.specs.{Ranges.IsObjectRow, State.ObjectRow, Tests.all_distinct}, mg_objects.proofs.Lists.{all-from, find-had, find-none}}
use Rattle.mg_objects.proofs.{Lists.{find-only, map-had, map-has, same-rising}, Rows.{AreThose, HaveOwnBases, apart-sound, at, base_in, cut-sound}}
use Rattle.mg_objects.proofs.Rows.{insert-those, objects-few, objects-full, objects-those, push-put, put-sound, remove-those, same-those, set-put}
use Rattle.mg_objects.{proofs.Rows.{sound-own, those-apart, update-those, within-table}, specs.Held.{AreApart, AreBases, AreHeld, AreSound}}
use Rattle.{mg_objects.specs.Held.{IsLowestFree, IsPut, MeetsNone, base_of, into_place, key_of, objects_in, with_row}, std.proofs.Common.{refl, sym}}
use Rattle.std.proofs.{Common.{ap, ◌∙◌, subst, inl, inr, ⊎_elim, arith, get_or-set_other, get_or-set_same, length-set}, lemmas.Bool.both_ways}
use Rattle.std.proofs.lemmas.{Bool.{cases_eq, cases_lt, eq-eqb, eqb-false, eqb-true, ne_eqb, true_from_ne_false, Decides.nat_tests}, List.get_or_past}
use Rattle.std.proofs.lemmas.List.{length-map, length-replicate, length-take-le, take_more, Elements.{All-contains, All-from_get_or}}
use Rattle.std.{proofs.lemmas.List.{Folds.{list_any_at, list_any_none}, Quantifiers.position-Some}, specs.{List.{Contains, list_any}, Option.ForSome}}
use Rattle.std.specs.{Option.option_map, Prelude.{◌≡◌, ◌≢◌, ◌+◌, ◌/◌, ◌<◌, ◌≤◌, ◌==◌, ◌⊎◌, ℕ, zero, suc, true, false, not, All, List, [], ◌∷◌, ◌++◌}}
use Rattle.std.specs.Prelude.{Option, None, Some, filter, find, length, map, position, replicate, slice_index, slice_index_or, slice_set, take}

base-some : (row : ObjectRow) → IsObjectRow row → row.base ≢ 0
base-some row is zero_is = let l = is.place.low in let a = is.place.aligned in absurd (omega arith)

base_of-had : (o : Option ObjectRow) (base : ℕ) → base ≢ 0 → base_of o ≡ base → (row : ObjectRow) × (o ≡ Some row) × (row.base ≡ base)
base_of-had None base some is = absurd (some (sym is))
base_of-had (Some row) base some is = (row, refl, is)

-- the bases once a row is written
change-bases : (rows new : List (Option ObjectRow)) (place : ℕ) (row : Option ObjectRow) (bases now : List ℕ) → AreBases (at rows) bases → IsPut rows new place row → length now ≡ length bases → slice_index now place ≡ base_of row
    → ((k : ℕ) → k ≢ place → slice_index now k ≡ slice_index bases k) → AreBases (at new) now
change-bases rows new place row bases now old put long here others = record {
  long = long ∙ old.long;
  are = λ k. ⊎_elim (λ same. ap (slice_index now) same ∙ here ∙ sym (ap base_of (ap (at new) same ∙ put.here))) (λ other. others k other ∙ old.are k ∙ sym (ap base_of (put.others k other))) (cases_eq k place);
}

module _ (rows : List (Option ObjectRow)) (bases : List ℕ) (short : length rows ≤ 4096) (are : AreBases (at rows) bases) (good : (k : ℕ) (row : ObjectRow) → at rows k ≡ Some row → IsObjectRow row) where
  bound : (k : ℕ) (row : ObjectRow) → at rows k ≡ Some row → IsBound bases (row.base, k)
  bound k row is = (base-some row (good k row is), omega (arith, within-table rows k row is, are.long), are.are k ∙ ap base_of is)

  row_there : (k base : ℕ) → base ≢ 0 → slice_index bases k ≡ base → (row : ObjectRow) × (at rows k ≡ Some row) × (row.base ≡ base)
  row_there k base some is = base_of-had (at rows k) base some (sym (are.are k) ∙ is)

  -- no two rows of an index have one base
  pub indexed_own : (pairs : List (ℕ × ℕ)) → Ascends pairs → IsExact bases pairs → HaveOwnBases (at rows)
  indexed_own pairs up exact j k a b other at_a at_b same =
      let P : ℕ → Type 0 = λ n. Contains pairs (n, k) in
      let e = rises-once (λ (p : ℕ × ℕ). p.0) pairs (a.base, j) (a.base, k) up ((exact (a.base, j)).1 (bound j a at_a)) (subst P same ((exact (b.base, k)).1 (bound k b at_b))) refl in
      other (ap (λ (p : ℕ × ℕ). p.1) e)

  -- its pairs are those of the objects, in order
  pub indexed_keys : (xs : List (ℕ × ObjectRow)) (pairs : List (ℕ × ℕ)) → AreThose (at rows) xs → Ascends pairs → IsExact bases pairs → map key_of xs ≡ pairs
  indexed_keys xs pairs those up exact =
      same-rising (λ (p : ℕ × ℕ). p.0) (map key_of xs) pairs (AllPairs-change (λ (a b : ℕ × ObjectRow). a.1.base < b.1.base) (λ (a b : ℕ × ℕ). a.0 < b.0) key_of (λ a b l. l) xs those.rise) up
      (λ p there.
      let from = map-had key_of xs p there in
      let P : ℕ × ℕ → Type 0 = Contains pairs in
      subst P from.2 ((exact (key_of from.0)).1 (bound from.0.0 from.0.1 (those.had from.0 from.1))))
      (λ p there.
      let is = (exact p).0 there in
      let row = row_there p.1 p.0 is.0 is.2 in
      let P : ℕ → Type 0 = λ n. Contains (map key_of xs) (n, p.1) in
      subst P row.2 (map-has key_of xs (p.1, row.0) (those.has p.1 row.0 row.1)))

pub apart-distinct : (rows : List (Option ObjectRow)) (bases : List ℕ) → AreBases (at rows) bases → AreSound (at rows) → all_distinct (numbers_in bases) ≡ true
apart-distinct rows bases are sound =
    own-distinct bases
    (λ j k other some same.
    let a = base_of-had (at rows j) (slice_index bases j) some (sym (are.are j)) in
    let b = base_of-had (at rows k) (slice_index bases j) some (sym (are.are k) ∙ sym same) in
    sound-own (at rows) sound j k a.0 b.0 other a.1 b.1 (b.2 ∙ sym a.2))

-- a table with its objects
module _ (rows : List (Option ObjectRow)) (space : ℕ) (bases : List ℕ) (held : AreHeld rows space bases) (xs : List (ℕ × ObjectRow)) (view : objects_in rows ≡ xs) where
  pub those : AreThose (at rows) xs
  those = let P : List (ℕ × ObjectRow) → Type 0 = AreThose (at rows) in subst P view (objects-those rows (sound-own (at rows) held.sound))

  pub few : length xs ≤ 4096
  few = omega (arith, ap length view, objects-few rows, held.short)

  pub are_apart : AreApart xs
  are_apart = those-apart (at rows) xs held.sound those

  pub in_places : All (λ (o : ℕ × ObjectRow). o.0 < 4096) xs
  in_places = all-from (λ (o : ℕ × ObjectRow). o.0 < 4096) xs (λ o there. omega (arith, within-table rows o.0 o.1 (those.had o there), held.short))

  pub are_rows : All (λ (o : ℕ × ObjectRow). IsObjectRow o.1) xs
  are_rows = all-from (λ (o : ℕ × ObjectRow). IsObjectRow o.1) xs (λ o there. held.sound.rows_are o.0 o.1 (those.had o there))

  pub keys : (pairs : List (ℕ × ℕ)) → Ascends pairs → IsExact bases pairs → map key_of xs ≡ pairs
  keys pairs = indexed_keys rows bases held.short held.bases_are held.sound.rows_are xs pairs those

  -- what a place has
  pub in_place : (k : ℕ) → option_map (λ (o : ℕ × ObjectRow). o.1) (find (λ (o : ℕ × ObjectRow). o.0 == k) xs) ≡ at rows k
  in_place k = go (at rows k) refl
    where
      go : (row : Option ObjectRow) → at rows k ≡ row → option_map (λ (o : ℕ × ObjectRow). o.1) (find (λ (o : ℕ × ObjectRow). o.0 == k) xs) ≡ row
      go None is = rw (find-none (λ (o : ℕ × ObjectRow). o.0 == k) xs (λ o there. ne_eqb o.0 k (λ same. let e : Some o.1 ≡ None = sym (those.had o there) ∙ ap (at rows) same ∙ is in absurd (cc)))) refl
      go (Some row) is =
          rw (find-only (λ (o : ℕ × ObjectRow). o.0 == k) xs (k, row) (those.has k row is) (eq-eqb k k refl)
          (λ o there t.
          let same = eqb-true o.0 k t in
          let e : Some o.1 ≡ Some row = sym (those.had o there) ∙ ap (at rows) same ∙ is in
          let f : o.1 ≡ row = cc in
          λ i. (same i, f i))) refl

  -- the object with a base
  pub found : (base k : ℕ) (row : ObjectRow) → at rows k ≡ Some row → row.base ≡ base → find (λ (o : ℕ × ObjectRow). o.1.base == base) xs ≡ Some (k, row)
  found base k row at_k is =
      find-only (λ (o : ℕ × ObjectRow). o.1.base == base) xs (k, row) (those.has k row at_k) (eq-eqb row.base base is)
      (λ o there t. rises-once base_in xs o (k, row) those.rise there (those.has k row at_k) (eqb-true o.1.base base t ∙ sym is))

  pub zero_not : find (λ (o : ℕ × ObjectRow). o.1.base == 0) xs ≡ None
  zero_not = find-none (λ (o : ℕ × ObjectRow). o.1.base == 0) xs (λ o there. ne_eqb o.1.base 0 (base-some o.1 (held.sound.rows_are o.0 o.1 (those.had o there))))

  pub place_has : (base k : ℕ) → base ≢ 0 → position (λ entry. entry == base) bases ≡ Some k → (row : ObjectRow) × (at rows k ≡ Some row) × (row.base ≡ base)
  place_has base k some is =
      row_there rows bases held.short held.bases_are held.sound.rows_are k base some (eqb-true (slice_index bases k) base (position-Some (λ entry. entry == base) bases k 0 is).1)

  pub base_not : (base : ℕ) → position (λ entry. entry == base) bases ≡ None → find (λ (o : ℕ × ObjectRow). o.1.base == base) xs ≡ None
  base_not base is =
      find-none (λ (o : ℕ × ObjectRow). o.1.base == base) xs
      (λ o there. ne_eqb o.1.base base (λ same.
      let at_o = bound rows bases held.short held.bases_are held.sound.rows_are o.0 o.1 (those.had o there) in
      both_ways (list_any (λ entry. entry == base) bases) (nowhere_any (λ entry. entry == base) bases is) (list_any_at (λ entry. entry == base) bases o.0 0 at_o.1 (eq-eqb (slice_index bases o.0) base (at_o.2 ∙ same)))))

  pub row_found : (base : ℕ) (o : ℕ × ObjectRow) → find (λ (o : ℕ × ObjectRow). o.1.base == base) xs ≡ Some o → (at rows o.0 ≡ Some o.1) × (o.1.base ≡ base)
  row_found base o is = let had = find-had (λ (o : ℕ × ObjectRow). o.1.base == base) xs o is in (those.had o had.0, eqb-true o.1.base base had.1)

  -- as long as there are fewer than 4,096, a place is free
  pub some_free : length xs < 4096 → list_any (λ entry. entry == 0) bases ≡ true
  some_free less =
      true_from_ne_false (list_any (λ entry. entry == 0) bases)
      (λ none.
      let taken = λ (k : ℕ) (under : k < 4096) (free : at rows k ≡ None).
      both_ways (list_any (λ entry. entry == 0) bases) none
      (list_any_at (λ entry. entry == 0) bases k 0 (omega (arith, held.bases_are.long)) (eq-eqb (slice_index bases k) 0 (held.bases_are.are k ∙ ap base_of free))) in
      let short = held.short in
      ⊎_elim (λ past. taken (length rows) past (get_or_past rows (length rows) None (omega arith)))
      (λ full. absurd (omega (arith, ap length view, objects-full rows (λ k under. taken k (omega arith))))) (cases_lt (length rows) 4096))

  -- a row that shares no page has a base of its own
  apart_at : (row : ObjectRow) → MeetsNone row xs → (k : ℕ) (b : ObjectRow) → at rows k ≡ Some b → (page_behind row ≤ page_of b) ⊎ (page_behind b ≤ page_of row)
  apart_at row meets k b at_k = All-contains (λ (o : ℕ × ObjectRow). (page_behind row ≤ page_of o.1) ⊎ (page_behind o.1 ≤ page_of row)) xs (k, b) meets (those.has k b at_k)

  other_base : (row : ObjectRow) → IsObjectRow row → MeetsNone row xs → (k : ℕ) (b : ObjectRow) → at rows k ≡ Some b → b.base ≢ row.base
  other_base row is meets k b at_k same =
      let s = is.place.some in
      let t = (held.sound.rows_are k b at_k).place.some in
      let e = ap (λ n. n / 4096) same in
      ⊎_elim (λ l. absurd (omega arith)) (λ l. absurd (omega arith)) (apart_at row meets k b at_k)

  pub base_unbound : (row : ObjectRow) → IsObjectRow row → MeetsNone row xs → list_any (λ entry. entry == row.base) bases ≡ false
  base_unbound row is meets =
      list_any_none (λ entry. entry == row.base) bases (All-from_get_or (λ entry. (entry == row.base) ≡ false) bases 0
      (λ k under. ne_eqb (slice_index bases k) row.base (λ same.
      let r = base_of-had (at rows k) row.base (base-some row is) (sym (held.bases_are.are k) ∙ same) in
      other_base row is meets k r.0 r.1 r.2)))

  -- the lowest free place
  module _ (place : ℕ) (lowest : position (λ entry. entry == 0) bases ≡ Some place) where
    first : (place < length bases) × ((slice_index bases place == 0) ≡ true) × ((k : ℕ) → k < place → (slice_index bases k == 0) ≡ false)
    first = position-Some (λ entry. entry == 0) bases place 0 lowest

    free : at rows place ≡ None
    free = go (at rows place) refl
      where
        go : (row : Option ObjectRow) → at rows place ≡ row → row ≡ None
        go None is = refl
        go (Some row) is = absurd (base-some row (held.sound.rows_are place row is) (ap base_of (sym is) ∙ sym (held.bases_are.are place) ∙ eqb-true (slice_index bases place) 0 first.1))

    taken : (k : ℕ) → k < place → (row : ObjectRow) × (at rows k ≡ Some row)
    taken k below = let r = base_of-had (at rows k) (slice_index bases k) (eqb-false (slice_index bases k) 0 (first.2 k below)) (sym (held.bases_are.are k)) in (r.0, r.1)

    pub at_end : place ≤ length rows
    at_end = ⊎_elim (λ past. let r = taken (length rows) past in absurd (omega (arith, within-table rows (length rows) r.0 r.1))) (λ within. within) (cases_lt (length rows) place)

    pub lowest_free : IsLowestFree place xs
    lowest_free = record {
      within = omega (arith, first.0, held.bases_are.long);
      free = list_any_none (λ (o : ℕ × ObjectRow). o.0 == place) xs (all-from (λ (o : ℕ × ObjectRow). (o.0 == place) ≡ false) xs
          (λ o there. ne_eqb o.0 place (λ same. let e : Some o.1 ≡ None = sym (those.had o there) ∙ ap (at rows) same ∙ free in absurd (cc))));
      lowest = λ k below.
          let r = taken k below in
          let there = those.has k r.0 r.1 in
          list_any_at (λ (o : ℕ × ObjectRow). o.0 == k) xs there.0 (k, r.0) there.1 (ap (λ (o : ℕ × ObjectRow). o.0 == k) there.2 ∙ eq-eqb k k refl);
    }

    -- one object more
    pub inserted : (new : List (Option ObjectRow)) (more : ℕ) (row : ObjectRow) → IsObjectRow row → MeetsNone row xs → IsPut rows new place (Some row) → length new ≤ 4096 → 4096 ≤ more
        → (objects_in new ≡ into_place (place, row) xs) × AreHeld new more (slice_set bases place row.base)
    inserted new more row is meets put short room = (same-those (at new) (objects_in new) (into_place (place, row) xs) (objects-those new (sound-own (at new) sound)) (insert-those rows new place held.sound xs those row put free (other_base row is meets)), now)
      where
        sound : AreSound (at new)
        sound = put-sound rows new place held.sound row put is (λ k b other at_k. apart_at row meets k b at_k)

        now : AreHeld new more (slice_set bases place row.base)
        now = record {
          short = short;
          room = room;
          sound = sound;
          bases_are =
              change-bases rows new place (Some row) bases (slice_set bases place row.base) held.bases_are put (length-set bases place row.base) (get_or-set_same bases place row.base 0 first.0)
              (λ k other. get_or-set_other bases place k row.base 0 other);
        }

  -- another row for one that is there
  pub updated : (row : ObjectRow) (o : ℕ × ObjectRow) → IsObjectRow row → find (λ (o : ℕ × ObjectRow). o.1.base == row.base) xs ≡ Some o
      → All (λ (o : ℕ × ObjectRow). o.1.base ≡ row.base → o.1.pages ≡ row.pages) xs
      → (o.0 < length rows) × ((objects_in (slice_set rows o.0 (Some row)) ≡ with_row row xs) × AreHeld (slice_set rows o.0 (Some row)) space bases)
  updated row o is found_o pages = (
    under,
    (
      same-those (at new) (objects_in new) (with_row row xs) (objects-those new (sound-own (at new) sound)) (update-those rows new o.0 held.sound xs those o.1 row put was.0 was.1),
      record {
        short = omega (arith, length-set rows o.0 (Some row), held.short);
        room = held.room;
        sound = sound;
        bases_are = change-bases rows new o.0 (Some row) bases bases held.bases_are put refl (held.bases_are.are o.0 ∙ ap base_of was.0 ∙ was.1) (λ k other. refl);
      },
    ),
  )
    where
      new : List (Option ObjectRow)
      new = slice_set rows o.0 (Some row)

      was : (at rows o.0 ≡ Some o.1) × (o.1.base ≡ row.base)
      was = row_found row.base o found_o

      under : o.0 < length rows
      under = within-table rows o.0 o.1 was.0

      put : IsPut rows new o.0 (Some row)
      put = set-put rows o.0 (Some row) under

      meets : (k : ℕ) (b : ObjectRow) → k ≢ o.0 → at rows k ≡ Some b → (page_behind row ≤ page_of b) ⊎ (page_behind b ≤ page_of row)
      meets k b other at_k =
          let e = ap (λ n. n / 4096) was.1 in
          let p = All-contains (λ (o : ℕ × ObjectRow). o.1.base ≡ row.base → o.1.pages ≡ row.pages) xs o pages (those.has o.0 o.1 was.0) was.1 in
          ⊎_elim (λ low. let l = held.sound.apart k o.0 b o.1 other at_k was.0 (omega arith) in inr (omega arith))
          (λ high. let l = held.sound.apart o.0 k o.1 b (λ same. other (sym same)) was.0 at_k (omega arith) in inl (omega arith)) (cases_lt b.base o.1.base)

      sound : AreSound (at new)
      sound = put-sound rows new o.0 held.sound row put is meets

  -- the table without a row
  pub removed : (base : ℕ) (o : ℕ × ObjectRow) → find (λ (o : ℕ × ObjectRow). o.1.base == base) xs ≡ Some o
      → (o.0 < length rows) × ((objects_in (slice_set rows o.0 None) ≡ filter (λ (o : ℕ × ObjectRow). not (o.1.base == base)) xs) × AreHeld (slice_set rows o.0 None) space (map (unless_within base 1) bases))
  removed base o found_o = (
    under,
    (
      same-those (at new) (objects_in new) (filter (λ (o : ℕ × ObjectRow). not (o.1.base == base)) xs) (objects-those new (sound-own (at new) sound)) (remove-those rows new o.0 held.sound xs those base o.1 put was.0 was.1),
      record {
        short = omega (arith, length-set rows o.0 None, held.short);
        room = held.room;
        sound = sound;
        bases_are =
            change-bases rows new o.0 None bases (map (unless_within base 1) bases) held.bases_are put (length-map bases (unless_within base 1))
            (map-at (unless_within base 1) (one 0).0 bases o.0 ∙ (one (slice_index bases o.0)).1.0 (held.bases_are.are o.0 ∙ ap base_of was.0 ∙ was.1))
            (λ k other. map-at (unless_within base 1) (one 0).0 bases k ∙ (one (slice_index bases k)).1.1 (λ same.
            let r = base_of-had (at rows k) base (λ z. base-some o.1 (held.sound.rows_are o.0 o.1 was.0) (was.1 ∙ z)) (sym (held.bases_are.are k) ∙ same) in
            sound-own (at rows) held.sound o.0 k o.1 r.0 (λ e. other (sym e)) was.0 r.1 (r.2 ∙ sym was.1)));
      },
    ),
  )
    where
      new : List (Option ObjectRow)
      new = slice_set rows o.0 None

      was : (at rows o.0 ≡ Some o.1) × (o.1.base ≡ base)
      was = row_found base o found_o

      under : o.0 < length rows
      under = within-table rows o.0 o.1 was.0

      put : IsPut rows new o.0 None
      put = set-put rows o.0 None under

      sound : AreSound (at new)
      sound = cut-sound rows new o.0 held.sound put

      one : (x : ℕ) → (unless_within base 1 0 ≡ 0) × ((x ≡ base → unless_within base 1 x ≡ 0) × (x ≢ base → unless_within base 1 x ≡ x))
      one x = (grind (arith, nat_tests), (λ same. grind (arith, nat_tests), λ other. grind (arith, nat_tests)))

-- no row yet
pub bases-none : AreBases (at []) (replicate 4096 0)
bases-none = record { long = length-replicate {A = ℕ} 4096 0; are = zeros 4096 }
  where
    zeros : (n k : ℕ) → slice_index (replicate n 0) k ≡ 0
    zeros zero k = refl
    zeros (suc n) zero = refl
    zeros (suc n) (suc k) = zeros n k

pub held-none : (space : ℕ) → 4096 ≤ space → AreHeld [] space (replicate 4096 0)
held-none space room = record { short = omega arith; room = room; sound = record { rows_are = λ k row is. absurd (cc); apart = λ j k a b other is. absurd (cc) }; bases_are = bases-none }

-- one place more of a table
pub bases-more : (table : List (Option ObjectRow)) (i : ℕ) (row : Option ObjectRow) (bases : List ℕ) → i < length table → length table ≤ 4096 → row ≡ slice_index_or table i row → AreBases (at (take i table)) bases
    → AreBases (at (take (i + 1) table)) (slice_set bases i (base_of row))
bases-more table i row bases under short is are =
    rw (take_more table i row under, ← is) (change-bases (take i table) (take i table ++ row ∷ []) i row bases (slice_set bases i (base_of row)) are (push-put (take i table) i row (sym (length-take-le i table (omega arith)))) (length-set bases i (base_of row))
    (get_or-set_same bases i (base_of row) 0 (omega (arith, are.long))) (λ k other. get_or-set_other bases i k (base_of row) 0 other))

-- the objects of a table whose rows keep their ranges
module _ (rows : List (Option ObjectRow)) (bases : List ℕ) (short : length rows ≤ 4096) (are : AreBases (at rows) bases) (ranges : All (λ (row : Option ObjectRow). ForSome row IsObjectRow) rows) where
  good : (k : ℕ) (row : ObjectRow) → at rows k ≡ Some row → IsObjectRow row
  good k row is = ranges k None (within-table rows k row is) row is

  pub made-keys : (pairs : List (ℕ × ℕ)) → Ascends pairs → IsExact bases pairs → map key_of (objects_in rows) ≡ pairs
  made-keys pairs up exact = indexed_keys rows bases short are good (objects_in rows) pairs (objects-those rows (indexed_own rows bases short are good pairs up exact)) up exact

  pub made-held : (space : ℕ) → 4096 ≤ space → AreApart (objects_in rows) → AreHeld rows space bases
  made-held space room apart = record { short = short; room = room; sound = apart-sound rows good apart; bases_are = are }

  pub made-distinct : AreApart (objects_in rows) → all_distinct (numbers_in bases) ≡ true
  made-distinct apart = apart-distinct rows bases are (apart-sound rows good apart)
