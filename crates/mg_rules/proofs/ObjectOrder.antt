-- The objects that rows spell, in the order of their bases, and the places of these rows in another order.
use Rattle.mg_model.specs.{Abbreviations.is_page_of, Objects.{page_behind, page_of, with_object}, Ranges.IsObjectRow, State.{Object, ObjectRow}}
use Rattle.{mg_model.specs.Volume.{are_apart, object_spelled, objects_spelled}, mg_rules.proofs.Apart.{apart-same, both_ways}}
use Rattle.mg_rules.specs.{ObjectOrderLemmas.moved, RowsRead.AreInRange, Rules.{AreSpans, place_of, places_of}, Spans.{IsSome, apart_from, is_in}}
use Rattle.{mg_rules.specs.Spans.ordered_from, std.proofs.{Common.{rules, refl, sym, ap, ◌∙◌, subst, arith, ⊎_elim}, lemmas.Bool.and_from}}
use Rattle.std.proofs.lemmas.{Bool.{and_parts, cases_Bool, le-leb, ltb-true, ltb-false}, List.Elements.{All-cons, All-head, All-nil, All-tail}}
use Rattle.std.proofs.lemmas.List.{Folds.list_all-map, Sorted.{IsPermutation-map, IsPermutation-sym, IsPermutation-trans, All-permutation}}
use Rattle.std.proofs.lemmas.List.{Sorted.{list_any-IsPermutation, sum_by-IsPermutation}, Sums.{AllPass-from_list_all, list_all-from_AllPass}}
use Rattle.std.{proofs.lemmas.Simd.map-map, specs.{List.{list_all, list_any, Sorted.IsPermutation}, Prelude.{◌≡◌, ℕ, ◌≤◌, ◌&&◌, ◌||◌, nat_le}}}
use Rattle.std.specs.Prelude.{nat_lt, Bool, true, false, List, [], ◌∷◌, All, map}

-- the place of an object
abbrev pub object_place : Object → ℕ × ℕ
object_place object = place_of object.row

ordered_with : (bound : ℕ) (new : Object) (objects : List Object) → bound ≤ page_of new.row → ordered_from bound (map object_place objects) ≡ true → ordered_from bound (map object_place (with_object new objects)) ≡ true
ordered_with bound new [] low ordered = and_from (nat_le bound (page_of new.row)) true (le-leb bound (page_of new.row) low) refl
ordered_with bound new (object ∷ objects) low ordered =
    let parts = and_parts (nat_le bound (page_of object.row)) (ordered_from (page_of object.row) (map object_place objects)) ordered in
    ⊎_elim (first parts.1) (λ f. later parts.0 (λ high. ordered_with (page_of object.row) new objects high parts.1) f) (cases_Bool (nat_lt new.row.base object.row.base))
  where
    first : ordered_from (page_of object.row) (map object_place objects) ≡ true → nat_lt new.row.base object.row.base ≡ true → ordered_from bound (map object_place (with_object new (object ∷ objects))) ≡ true
    first rest t = grind (arith, ltb-true, and_from, le-leb)

    later : nat_le bound (page_of object.row) ≡ true → (page_of object.row ≤ page_of new.row → ordered_from (page_of object.row) (map object_place (with_object new objects)) ≡ true)
        → nat_lt new.row.base object.row.base ≡ false → ordered_from bound (map object_place (with_object new (object ∷ objects))) ≡ true
    later here rest f = grind (arith, ltb-false, and_from)

-- whether objects are apart is a test of their places
apart_behind : (object : Object) (objects : List Object) → are_apart (object ∷ objects) ≡ apart_from (page_behind object.row) (map object_place objects)
apart_behind object [] = refl
apart_behind object (next ∷ objects) = ap (λ t. nat_le (page_behind object.row) (page_of next.row) && t) (apart_behind next objects)

apart_places : (objects : List Object) → are_apart objects ≡ apart_from 0 (map object_place objects)
apart_places [] = refl
apart_places (object ∷ objects) = apart_behind object objects ∙ sym (ap (λ t. t && apart_from (page_behind object.row) (map object_place objects)) (le-leb 0 (page_of object.row) (omega arith)))

any-map : {X Y : Type 0} (p : Y → Bool) (f : X → Y) (xs : List X) → list_any p (map f xs) ≡ list_any (λ x. p (f x)) xs
any-map p f [] = refl
any-map p f (x ∷ xs) = ap (λ t. p (f x) || t) (any-map p f xs)

pub all-moved : {X : Type 0} (p : X → Bool) (xs ys : List X) → IsPermutation xs ys → list_all p xs ≡ list_all p ys
all-moved p xs ys moved =
    both_ways (list_all p xs) (list_all p ys)
    (λ all. list_all-from_AllPass p ys (All-permutation (λ x. p x ≡ true) xs ys moved (AllPass-from_list_all p xs all)))
    (λ all. list_all-from_AllPass p xs (All-permutation (λ x. p x ≡ true) ys xs (IsPermutation-sym xs ys moved) (AllPass-from_list_all p ys all)))

-- the places of objects in their ranges, and these in order
places_some : (rows : List (ℕ × ObjectRow)) → AreInRange rows → All IsSome (places_of rows)
places_some [] ranges = All-nil IsSome
places_some (row ∷ rows) ranges =
    grind (arith, All-head, All-cons, All-tail, places_some rows (All-tail (λ (o : ℕ × ObjectRow). IsObjectRow o.1) row rows ranges))

pub spans-are : (rows : List (ℕ × ObjectRow)) (found sorted : List (ℕ × ℕ)) → AreInRange rows → found ≡ places_of rows → IsPermutation found sorted → ordered_from 0 sorted ≡ true → AreSpans sorted rows
spans-are rows found sorted ranges are moved ordered =
    let places : IsPermutation (places_of rows) sorted = subst (λ xs. IsPermutation xs sorted) are moved in
    record { are = places; ordered = ordered; each = All-permutation IsSome (places_of rows) sorted places (places_some rows ranges) }

module _ (image : List (List ℕ)) (frames : ℕ) (table : List ℕ) where
  abbrev spelled : ℕ × ObjectRow → Object
  spelled row = object_spelled image frames table row.1

  ordered : (rows : List (ℕ × ObjectRow)) → ordered_from 0 (map object_place (objects_spelled image frames table rows)) ≡ true
  ordered [] = refl
  ordered ((place, row) ∷ rows) = ordered_with 0 (object_spelled image frames table row) (objects_spelled image frames table rows) (omega arith) (ordered rows)

  -- what is said of the rows is said of the objects
  pub spelled-paid : (accounts : ℕ) (rows : List (ℕ × ObjectRow)) → list_all (λ (object : Object). nat_le object.row.account accounts) (objects_spelled image frames table rows) ≡ list_all (λ (row : ℕ × ObjectRow). nat_le row.1.account accounts) rows
  spelled-paid accounts rows =
      sym (all-moved (λ (object : Object). nat_le object.row.account accounts) (map spelled rows) (objects_spelled image frames table rows) (moved image frames table rows)) ∙ list_all-map (λ (object : Object). nat_le object.row.account accounts) spelled rows

  -- with their places in another order
  module _ (rows : List (ℕ × ObjectRow)) (spans : List (ℕ × ℕ)) (sorted : IsPermutation (places_of rows) spans) where
    places_moved : IsPermutation spans (map object_place (objects_spelled image frames table rows))
    places_moved =
        IsPermutation-trans spans (places_of rows) (map object_place (objects_spelled image frames table rows)) (IsPermutation-sym (places_of rows) spans sorted)
        (subst (λ xs. IsPermutation xs (map object_place (objects_spelled image frames table rows))) (map-map object_place spelled rows) (IsPermutation-map object_place (map spelled rows) (objects_spelled image frames table rows) (moved image frames table rows)))

    pub spelled-covered : (page : ℕ) → list_any (is_page_of page) (objects_spelled image frames table rows) ≡ list_any (is_in page) spans
    spelled-covered page =
        sym (any-map (is_in page) object_place (objects_spelled image frames table rows))
        ∙ sym (list_any-IsPermutation (is_in page) spans (map object_place (objects_spelled image frames table rows)) places_moved)

    pub spelled-apart : ordered_from 0 spans ≡ true → All IsSome spans → are_apart (objects_spelled image frames table rows) ≡ apart_from 0 spans
    spelled-apart in_order some = search (rules, apart_places, apart-same, ordered, All-permutation, places_moved, sum_by-IsPermutation)
