-- The first gap with at least n pages begins at the lowest free page of the definition, and there is one.
use Rattle.mg_model.specs.{Abbreviations.{is_apart, least}, Limits.{first_page, page_end}, Objects.{is_free, lowest_free, page_behind}}
use Rattle.{mg_model.specs.{RowTestLemmas.list_all-tells, State.Object}, mg_ranges.proofs.{Cuts.left-count, Fits.{IsEnd, IsLowest, are_beside}}}
use Rattle.mg_ranges.{proofs.{Fits.{fit-lowest, fits}, Spans.gaps-sum}, specs.{Gaps.{AreGapsOf, LieFrom, spans_of}, Kept.HasRoom}}
use Rattle.std.proofs.{Common.{refl, sym, ap, ◌∙◌, inl, inr, subst, ⊎_elim, arith}, lemmas.Bool.{cases_Bool, cases_lt, cond-false, cond-true}}
use Rattle.std.{proofs.lemmas.{Bool.{leb-false, leb-true, or_cases}, List.Sums.sum_by-cons}, specs.Prelude.{◌≡◌, ◌+◌, ◌*◌, ◌&&◌, ◌≤◌, ◌⊎◌, ◌||◌, ℕ}}
use Rattle.std.specs.Prelude.{Bool, true, false, List, [], ◌∷◌, All, None, Some, find, filter, length, map, min, nat_le, sum_by}

-- a number of a list
abbrev IsAmong : ℕ → List ℕ → Type 0
IsAmong m [] = ⊥
IsAmong m (x ∷ xs) = (m ≡ x) ⊎ IsAmong m xs

least-start : (n : ℕ) (ms : List ℕ) → least n ms ≤ n
least-start n [] = omega arith
least-start n (m ∷ ms) = let l = least-start (min n m) ms in omega arith

least-below : (n m : ℕ) (ms : List ℕ) → IsAmong m ms → least n ms ≤ m
least-below n m [] there = absurd there
least-below n m (x ∷ xs) there = ⊎_elim (λ is. let l = least-start (min n x) xs in omega arith) (λ later. least-below (min n x) m xs later) there

least-above : (r n : ℕ) (ms : List ℕ) → r ≤ n → ((m : ℕ) → IsAmong m ms → r ≤ m) → r ≤ least n ms
least-above r n [] order each = order
least-above r n (x ∷ xs) order each = let l = each x (inl refl) in least-above r (min n x) xs (omega arith) (λ m there. each m (inr there))

among-filter : (p : ℕ → Bool) (m : ℕ) (ms : List ℕ) → IsAmong m ms → p m ≡ true → IsAmong m (filter p ms)
among-filter p m [] there passes = there
among-filter p m (x ∷ xs) there passes = ⊎_elim here (later (λ a. among-filter p m xs a passes)) there
  where
    here : m ≡ x → IsAmong m (filter p (x ∷ xs))
    here is = subst (λ l. IsAmong m l) (sym (cond-true (p x) (x ∷ filter p xs) (filter p xs) (ap p (sym is) ∙ passes))) (inl is)

    later : (IsAmong m xs → IsAmong m (filter p xs)) → IsAmong m xs → IsAmong m (filter p (x ∷ xs))
    later again a = grind (arith, cond-true, cond-false, cases_Bool)

filter-among : (p : ℕ → Bool) (m : ℕ) (ms : List ℕ) → IsAmong m (filter p ms) → IsAmong m ms × (p m ≡ true)
filter-among p m [] there = absurd there
filter-among p m (x ∷ xs) there = ⊎_elim (yes (filter-among p m xs)) (no (filter-among p m xs)) (cases_Bool (p x))
  where
    yes : (IsAmong m (filter p xs) → IsAmong m xs × (p m ≡ true)) → p x ≡ true → IsAmong m (x ∷ xs) × (p m ≡ true)
    yes again is = ⊎_elim (λ e. (inl e, ap p e ∙ is)) (λ a. let r = again a in (inr r.0, r.1)) (subst (λ l. IsAmong m l) (cond-true (p x) (x ∷ filter p xs) (filter p xs) is) there)

    no : (IsAmong m (filter p xs) → IsAmong m xs × (p m ≡ true)) → p x ≡ false → IsAmong m (x ∷ xs) × (p m ≡ true)
    no again is = let r = again (subst (λ l. IsAmong m l) (cond-false (p x) (x ∷ filter p xs) (filter p xs) is) there) in (inr r.0, r.1)

-- the tests and ends of objects are those of their pages
free-beside : (objects : List Object) (n page : ℕ) → is_free objects n page ≡ are_beside n page (spans_of objects)
free-beside [] n page = refl
free-beside (object ∷ objects) n page = ap (λ t. is_apart page n object && t) (free-beside objects n page)

end-among : (objects : List Object) (page : ℕ) → IsEnd page (spans_of objects) → IsAmong page (map (λ (object : Object). page_behind object.row) objects)
end-among [] page is = is
end-among (object ∷ objects) page is = ⊎_elim (λ e. inl e) (λ later. inr (end-among objects page later)) is

among-low : (objects : List Object) (at page : ℕ) → LieFrom at (spans_of objects) → IsAmong page (map (λ (object : Object). page_behind object.row) objects) → at ≤ page
among-low [] at page lie is = absurd is
among-low (object ∷ objects) at page lie is =
    let low = lie.0 in
    ⊎_elim (λ e. omega arith) (λ later. let l = among-low objects (page_behind object.row) page lie.2 later in omega arith) is

-- what the first gap with at least n pages is
pub fit-is : (n : ℕ) (taken gaps : List (ℕ × ℕ)) (gap : ℕ × ℕ) → 1 ≤ n → AreGapsOf taken gaps → find (fits n) gaps ≡ Some gap → IsLowest n first_page taken gap.0
fit-is n taken gaps gap some leave is = fit-lowest n first_page taken gap some leave.taken.apart (sym (ap (find (fits n)) leave.are) ∙ is)

pub fit-lowest_free : (n : ℕ) (objects : List Object) (gaps : List (ℕ × ℕ)) (gap : ℕ × ℕ) → 1 ≤ n → AreGapsOf (spans_of objects) gaps → find (fits n) gaps ≡ Some gap → gap.0 ≡ lowest_free objects n
fit-lowest_free n objects gaps gap some leave is = same over under
  where
    ends : List ℕ
    ends = map (λ (object : Object). page_behind object.row) objects

    same : gap.0 ≤ lowest_free objects n → lowest_free objects n ≤ gap.0 → gap.0 ≡ lowest_free objects n
    same a b = omega arith

    is_lowest : IsLowest n first_page (spans_of objects) gap.0
    is_lowest = fit-is n (spans_of objects) gaps gap some leave is

    place : (gap.0 ≡ first_page) ⊎ IsEnd gap.0 (spans_of objects) → IsAmong gap.0 (first_page ∷ map (λ (object : Object). page_behind object.row) objects)
    place at = ⊎_elim (λ e. inl e) (λ e. inr (end-among objects gap.0 e)) at

    under : lowest_free objects n ≤ gap.0
    under = grind (arith, least-below, among-filter, place, is_lowest, free-beside)

    least_of : (m : ℕ) → IsAmong m (filter (λ page. is_free objects n page) (first_page ∷ map (λ (object : Object). page_behind object.row) objects)) → gap.0 ≤ m
    least_of m there =
        let r = filter-among (λ page. is_free objects n page) m (first_page ∷ map (λ (object : Object). page_behind object.row) objects) there in
        let low : first_page ≤ m = ⊎_elim (λ e. omega arith) (λ later. among-low objects first_page m leave.taken.apart later) r.0 in
        let h = is_lowest.high in
        ⊎_elim (λ out. omega arith) (λ inside. is_lowest.lowest m low inside (sym (free-beside objects n m) ∙ r.1)) (cases_lt page_end (m + n))

    over : gap.0 ≤ lowest_free objects n
    over = grind (arith, is_lowest, least-above, least_of)

-- the pages that were found meet no range
pub beside-all : (n page : ℕ) (spans : List (ℕ × ℕ)) → are_beside n page spans ≡ true → All (λ (span : ℕ × ℕ). (page + n ≤ span.0) ⊎ (span.0 + span.1 ≤ page)) spans
beside-all n page spans is =
    list_all-tells (λ (span : ℕ × ℕ). nat_le (page + n) span.0 || nat_le (span.0 + span.1) page) (λ (span : ℕ × ℕ). (page + n ≤ span.0) ⊎ (span.0 + span.1 ≤ page))
    (λ span t. ⊎_elim (λ a. inl (leb-true (page + n) span.0 a)) (λ b. inr (leb-true (span.0 + span.1) page b)) (or_cases (nat_le (page + n) span.0) (nat_le (span.0 + span.1) page) t)) spans is

-- gaps that are all too small have few pages
small-sum : (n : ℕ) (gaps : List (ℕ × ℕ)) → n ≤ 1024 → find (fits n) gaps ≡ None → sum_by (λ (gap : ℕ × ℕ). gap.1) gaps ≤ 1023 * length gaps
small-sum n [] few none = omega arith
small-sum n (gap ∷ gaps) few none = ⊎_elim yes (no (small-sum n gaps few)) (cases_Bool (fits n gap))
  where
    some_not : (x : ℕ × ℕ) → Some x ≡ None → ⊥
    some_not x same = cc

    yes : fits n gap ≡ true → sum_by (λ (gap : ℕ × ℕ). gap.1) (gap ∷ gaps) ≤ 1023 * length (gap ∷ gaps)
    yes is = absurd (some_not gap (sym (cond-true (fits n gap) (Some gap) (find (fits n) gaps) is) ∙ none))

    no : (find (fits n) gaps ≡ None → sum_by (λ (gap : ℕ × ℕ). gap.1) gaps ≤ 1023 * length gaps) → fits n gap ≡ false → sum_by (λ (gap : ℕ × ℕ). gap.1) (gap ∷ gaps) ≤ 1023 * length (gap ∷ gaps)
    no again is =
        let l = leb-false n gap.1 is in
        let rest = again (sym (cond-false (fits n gap) (Some gap) (find (fits n) gaps) is) ∙ none) in
        let c = sum_by-cons (λ (gap : ℕ × ℕ). gap.1) gap gaps in
        omega arith

pub some-fits : (n : ℕ) (gaps : List (ℕ × ℕ)) → n ≤ 1024 → HasRoom gaps → find (fits n) gaps ≡ None → ⊥
some-fits n gaps few room none = grind (arith, small-sum, left-count, gaps-sum)
