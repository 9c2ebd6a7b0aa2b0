-- The lowest free pages: they exist, they meet no object, and no lower pages meet none.
use Rattle.{mg_laws.specs.Laws.IsLowest, mg_model.specs.{Abbreviations.{is_apart, least}, Bank.used, KeptListLemmas.{All-both, All-change}}}
use Rattle.mg_model.specs.{KeptListLemmas.{All-unmap, AllPairs-head, AllPairs-tail}, Limits.{first_page, page_end}, Objects.{is_free, lowest_free}}
use Rattle.{mg_model.specs.{Objects.{page_behind, page_of}, State.Object, WellFormed.{AreObjects, IsBefore, IsObject}}, std.proofs.Common.{◌≡◌, ℕ}}
use Rattle.std.proofs.Common.{◌+◌, ◌*◌, ◌<◌, ◌≤◌, ◌⊎◌, Bool, true, min, List, [], ◌∷◌, map, filter, length, All, AllPairs, inl, inr, arith}
use Rattle.std.proofs.lemmas.{Bool.{cases_lt, cond_both, le-leb, leb-true, or_cases, or_left, or_right}, List.Elements.{All-cons, All-filter}}
use Rattle.std.proofs.lemmas.List.{Elements.{All-head, All-nil, All-tail, All-weaker, filter_passes}, Sums.AllPass-from_list_all}
use Rattle.std.proofs.lemmas.List.Sums.{list_all-from_AllPass, sum_by-cons}

-- the n pages from this one on are before the object or after it
abbrev pub IsApart : ℕ → ℕ → Object → Type 0
IsApart page n object = (page + n ≤ page_of object.row) ⊎ (page_behind object.row ≤ page)

pub is_apart-true : (page n : ℕ) (object : Object) → is_apart page n object ≡ true → IsApart page n object
is_apart-true page n object passes = grind (arith, or_cases, leb-true)

pub apart-is_apart : (page n : ℕ) (object : Object) → IsApart page n object → is_apart page n object ≡ true
apart-is_apart page n object apart = grind (arith, or_left, le-leb, or_right)

-- pages are free if they are apart from each object
pub is_free-true : (objects : List Object) (n page : ℕ) → is_free objects n page ≡ true → All (IsApart page n) objects
is_free-true objects n page free = grind (arith, All-weaker, is_apart-true, AllPass-from_list_all)

pub apart-is_free : (objects : List Object) (n page : ℕ) → All (IsApart page n) objects → is_free objects n page ≡ true
apart-is_free objects n page apart = grind (arith, list_all-from_AllPass, All-weaker, apart-is_apart)

-- the smaller of two numbers is one of them
min-holds : (P : ℕ → Type 0) (n m : ℕ) → P n → P m → P (min n m)
min-holds P n m first second = grind (arith, cases_lt)

-- what holds for each number holds for the least
pub least-holds : (P : ℕ → Type 0) (n : ℕ) (ms : List ℕ) → P n → All P ms → P (least n ms)
least-holds P n [] first all = first
least-holds P n (m ∷ ms) first all = least-holds P (min n m) ms (min-holds P n m first (All-head P m ms all)) (All-tail P m ms all)

least-le : (n : ℕ) (ms : List ℕ) → least n ms ≤ n
least-le n [] = omega arith
least-le n (m ∷ ms) = omega (arith, least-le (min n m) ms)

-- the least of those that pass is below each that passes
least-below : (q : ℕ → Bool) (n : ℕ) (ms : List ℕ) → All (λ m. q m ≡ true → least n (filter q ms) ≤ m) ms
least-below q n [] = All-nil (λ m. q m ≡ true → n ≤ m)
least-below q n (m ∷ ms) = grind (arith, (least-below q (min n m) ms), (least-below q n ms), All-cons, cond_both, least-le, All-both)

-- the last candidate up to a page: no object ends between the two
record IsLast (P : ℕ → Type 0) (p c : ℕ) (objects : List Object) (page : ℕ) : Type 0 where
  holds : P page
  above : c ≤ page
  below : page ≤ p
  last : All (λ (object : Object). page_behind object.row ≤ p → page_behind object.row ≤ page) objects

last_more : (P : ℕ → Type 0) (p c d : ℕ) (object : Object) (objects : List Object) → d ≤ c → (page_behind object.row ≤ p → page_behind object.row ≤ c) → (page : ℕ) × IsLast P p c objects page → (page : ℕ) × IsLast P p d (object ∷ objects) page
last_more P p c d object objects up here found = grind (arith, All-cons)

last_candidate : (P : ℕ → Type 0) (p c : ℕ) (objects : List Object) → c ≤ p → P c → All (λ (object : Object). P (page_behind object.row)) objects → (page : ℕ) × IsLast P p c objects page
last_candidate P p c [] within first all = (c, record { holds = first; above = omega arith; below = within; last = All-nil (λ (object : Object). page_behind object.row ≤ p → page_behind object.row ≤ c) })
last_candidate P p c (object ∷ objects) within first all =
    let rest = All-tail (λ (object : Object). P (page_behind object.row)) object objects all in
    let head = All-head (λ (object : Object). P (page_behind object.row)) object objects all in
    elim (cases_lt p (page_behind object.row)) [
      | inl past ↦ last_more P p c c object objects (omega arith) (λ ends. absurd (omega arith)) (last_candidate P p c objects within first rest)
      | inr ends ↦ elim (cases_lt c (page_behind object.row)) [
        | inl up ↦ last_more P p (page_behind object.row) c object objects (omega arith) (λ _. omega arith) (last_candidate P p (page_behind object.row) objects ends head rest)
        | inr down ↦ last_more P p c c object objects (omega arith) (λ _. down) (last_candidate P p c objects within first rest)
      ]
    ]

-- No page from `first_page` on that is free is lower, so the least of the candidates is the least of all.
pub lowest_free-least : (objects : List Object) (n page : ℕ) → first_page ≤ page → is_free objects n page ≡ true → lowest_free objects n ≤ page
lowest_free-least objects n page low free =
    let P = λ (d : ℕ). is_free objects n d ≡ true → lowest_free objects n ≤ d in
    let behind = λ (object : Object). page_behind object.row in
    let all : All P (first_page ∷ map behind objects) = least-below (is_free objects n) page_end (first_page ∷ map behind objects) in
    let found : (c : ℕ) × IsLast P page first_page objects c = last_candidate P page first_page objects low (All-head P first_page (map behind objects) all) (All-unmap P behind objects (All-tail P first_page (map behind objects) all)) in
    let down = found.1.below in
    let apart : All (IsApart found.0 n) objects = grind (arith, All-both, is_free-true) in
    let up = found.1.holds (apart-is_free objects n found.0 apart) in
    omega arith

-- Going up from a page before all objects, the first gap that is wide enough is not far: each object and the gap before it
-- take less than the object's pages and 1024.
some_free : (n p : ℕ) (objects : List Object) → n ≤ 1024 → AllPairs IsBefore objects → All (λ (object : Object). p ≤ page_of object.row) objects → (c : ℕ) × (p ≤ c) × (c ≤ p + used objects + 1024 * length objects) × All (IsApart c n) objects
some_free n p [] few pairs above = (p, omega arith, omega arith, All-nil (IsApart p n))
some_free n p (object ∷ objects) few pairs above =
    let later = AllPairs-head IsBefore object objects pairs in
    let sum : used (object ∷ objects) ≡ object.row.pages + used objects = sum_by-cons (λ (object : Object). object.row.pages) object objects in
    elim (cases_lt (page_of object.row) (p + n)) [
      | inr wide ↦ (p, omega arith, omega arith, All-cons (IsApart p n) object objects (inl wide) (All-weaker (IsBefore object) (IsApart p n) (λ other before. inl (omega arith)) objects later))
      | inl narrow ↦
          let found : (c : ℕ) × (page_behind object.row ≤ c) × (c ≤ page_behind object.row + used objects + 1024 * length objects) × All (IsApart c n) objects =
          some_free n (page_behind object.row) objects few (AllPairs-tail IsBefore object objects pairs) later in
          let low = found.1 in
          let high = found.2 in
          let here : p ≤ page_of object.row = All-head (λ (object : Object). p ≤ page_of object.row) object objects above in
          (found.0, omega arith, omega arith, All-cons (IsApart found.0 n) object objects (inr low) found.3)
    ]

-- what holds for the candidates below the end
lowest_free-holds : (objects : List Object) (n : ℕ) → All IsObject objects → lowest_free objects n < page_end → (first_page ≤ lowest_free objects n) × (is_free objects n (lowest_free objects n) ≡ true)
lowest_free-holds objects n each below =
    let P = λ (d : ℕ). d < page_end → (first_page ≤ d) × (is_free objects n d ≡ true) in
    let candidates = first_page ∷ map (λ (object : Object). page_behind object.row) objects in
    let low : All (λ (d : ℕ). first_page ≤ d) candidates =
    All-cons (λ (d : ℕ). first_page ≤ d) first_page (map (λ (object : Object). page_behind object.row) objects) (omega arith)
    (All-change IsObject (λ (d : ℕ). first_page ≤ d) (λ (object : Object). page_behind object.row) (λ object formed. let l = formed.row.place.low in omega arith) objects each) in
    least-holds P page_end (filter (is_free objects n) candidates) (λ none. absurd (omega arith))
    (All-both (λ (d : ℕ). first_page ≤ d) (λ (d : ℕ). is_free objects n d ≡ true) P (λ d l free _. (l, free)) (filter (is_free objects n) candidates)
    (All-filter (is_free objects n) (λ (d : ℕ). first_page ≤ d) candidates low) (filter_passes (is_free objects n) candidates))
    below

-- There is room below the end: objects have at most 65,536 pages together, and there are at most 4,096.
pub lowest_free-exists : (frames accounts : ℕ) (objects : List Object) (n : ℕ) → AreObjects frames accounts objects → frames ≤ 65536 → 1 ≤ n → n ≤ 1024 → IsLowest objects n (lowest_free objects n)
lowest_free-exists frames accounts objects n formed fit some few =
    let first : All (λ (object : Object). first_page ≤ page_of object.row) objects = All-weaker IsObject (λ (object : Object). first_page ≤ page_of object.row) (λ object o. o.row.place.low) objects formed.each in
    let found : (c : ℕ) × (first_page ≤ c) × (c ≤ first_page + used objects + 1024 * length objects) × All (IsApart c n) objects = some_free n first_page objects few formed.apart first in
    let low = found.1 in
    let near = found.2 in
    let pages = formed.fit in
    let count = formed.few in
    let below : lowest_free objects n ≤ found.0 = lowest_free-least objects n found.0 low (apart-is_free objects n found.0 found.3) in
    let end : lowest_free objects n + n ≤ page_end = omega arith in
    let holds : (first_page ≤ lowest_free objects n) × (is_free objects n (lowest_free objects n) ≡ true) = lowest_free-holds objects n formed.each (omega arith) in
    record { low = holds.0; high = end; free = holds.1; least = lowest_free-least objects n }
