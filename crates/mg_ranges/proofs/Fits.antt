-- The first gap with at least n pages begins at the lowest page from which on n pages are free.
use Rattle.{mg_model.specs.Limits.page_end, mg_ranges.{proofs.Spans.{piece-none, piece-some}, specs.Gaps.{LieFrom, gaps_from, piece}}}
use Rattle.std.proofs.{Common.{refl, sym, ap, ◌∙◌, inl, ⊎_elim, arith}, lemmas.Bool.{cases_Bool, cases_lt, cond-false, cond-true, le-leb, leb-true}}
use Rattle.std.specs.{List.list_all, Prelude.{◌≡◌, ◌+◌, ◌-◌, ◌<◌, ◌≤◌, ◌⊎◌, ◌||◌, ℕ, Bool, true, false, List, [], ◌++◌, ◌∷◌, Option, None, Some}}
use Rattle.std.specs.Prelude.{find, nat_le}

-- whether this many pages from one on are none of a range, and of no range
abbrev is_beside : ℕ → ℕ → ℕ × ℕ → Bool
is_beside n page span = nat_le (page + n) span.0 || nat_le (span.0 + span.1) page

abbrev pub are_beside : ℕ → ℕ → List (ℕ × ℕ) → Bool
are_beside n page spans = list_all (λ span. is_beside n page span) spans

-- the first gap that has at least n pages
abbrev pub fits : ℕ → ℕ × ℕ → Bool
fits n gap = nat_le n gap.1

-- a page among the ends of ranges
abbrev pub IsEnd : ℕ → List (ℕ × ℕ) → Type 0
IsEnd page [] = ⊥
IsEnd page (span ∷ spans) = (page ≡ span.0 + span.1) ⊎ IsEnd page spans

pub record IsLowest (n page : ℕ) (spans : List (ℕ × ℕ)) (result : ℕ) : Type 0 where
  pub low : page ≤ result
  pub high : result + n ≤ page_end
  pub place : (result ≡ page) ⊎ IsEnd result spans
  pub free : are_beside n result spans ≡ true
  pub lowest : (other : ℕ) → page ≤ other → other + n ≤ page_end → are_beside n other spans ≡ true → result ≤ other

-- pages before all ranges are none of them
before-all : (n page at : ℕ) (spans : List (ℕ × ℕ)) → page + n ≤ at → LieFrom at spans → are_beside n page spans ≡ true
before-all n page at [] order lie = refl
before-all n page at (span ∷ spans) order lie = grind (arith, (before-all n page (span.0 + span.1) spans (omega arith) lie.2))

find-here : (n : ℕ) (gap : ℕ × ℕ) (gaps : List (ℕ × ℕ)) → n ≤ gap.1 → find (fits n) (gap ∷ gaps) ≡ Some gap
find-here n gap gaps enough = cond-true (fits n gap) (Some gap) (find (fits n) gaps) (le-leb n gap.1 enough)

find-past : (n a b : ℕ) (gaps : List (ℕ × ℕ)) → 1 ≤ n → b - a < n → find (fits n) (piece a b ++ gaps) ≡ find (fits n) gaps
find-past n a b gaps some small =
    ⊎_elim (λ there. ap (λ p. find (fits n) (p ++ gaps)) (piece-some a b there) ∙ cond-false (fits n (a, b - a)) (Some (a, b - a)) (find (fits n) gaps) (le_not n (b - a) small))
    (λ none. ap (λ p. find (fits n) (p ++ gaps)) (piece-none a b none)) (cases_lt a b)
  where
    le_not : (x y : ℕ) → y < x → nat_le x y ≡ false
    le_not x y less = ⊎_elim (λ is. absurd (let l = leb-true x y is in omega arith)) (λ is. is) (cases_Bool (nat_le x y))

found : (n a b : ℕ) (gaps : List (ℕ × ℕ)) → 1 ≤ n → a + n ≤ b → find (fits n) (piece a b ++ gaps) ≡ Some (a, b - a)
found n a b gaps some room = ap (λ p. find (fits n) (p ++ gaps)) (piece-some a b (omega arith)) ∙ find-here n (a, b - a) gaps (omega arith)

the_one : (x y : ℕ × ℕ) → Some x ≡ Some y → x.0 ≡ y.0
the_one x y same = ap (λ (o : Option (ℕ × ℕ)). first_of o) same
  where
    first_of : Option (ℕ × ℕ) → ℕ
    first_of None = 0
    first_of (Some z) = z.0

none_not : (x : ℕ × ℕ) → None ≡ Some x → ⊥
none_not x same = cc

pub fit-lowest : (n page : ℕ) (spans : List (ℕ × ℕ)) (gap : ℕ × ℕ) → 1 ≤ n → LieFrom page spans → find (fits n) (gaps_from page spans) ≡ Some gap → IsLowest n page spans gap.0
fit-lowest n page [] gap some lie is = ⊎_elim small large (cases_lt (page_end - page) n)
  where
    small : page_end - page < n → IsLowest n page [] gap.0
    small less = absurd (none_not gap (sym (ap (find (fits n)) (nil_end (piece page page_end)) ∙ find-past n page page_end [] some less) ∙ is))
      where
        nil_end : (gaps : List (ℕ × ℕ)) → gaps ≡ gaps ++ []
        nil_end [] = refl
        nil_end (x ∷ xs) = ap (λ l. x ∷ l) (nil_end xs)

    large : n ≤ page_end - page → IsLowest n page [] gap.0
    large enough = grind (arith, the_one, piece-some, find-here)
fit-lowest n page (span ∷ spans) gap some lie is = ⊎_elim (small (fit-lowest n (span.0 + span.1) spans gap some lie.2)) large (cases_lt (span.0 - page) n)
  where
    order : page ≤ span.0
    order = lie.0

    has : 1 ≤ span.1
    has = lie.1

    small : (find (fits n) (gaps_from (span.0 + span.1) spans) ≡ Some gap → IsLowest n (span.0 + span.1) spans gap.0) → span.0 - page < n → IsLowest n page (span ∷ spans) gap.0
    small again less = grind arith

    large : n ≤ span.0 - page → IsLowest n page (span ∷ spans) gap.0
    large enough =
        let o = order in
        let e = the_one gap (page, span.0 - page) (sym is ∙ found n page span.0 (gaps_from (span.0 + span.1) spans) some (omega arith)) in
        record {
          low = omega arith;
          high = ends (omega arith);
          place = inl e;
          free = before-all n gap.0 span.0 (span ∷ spans) (omega arith) lie_at;
          lowest = λ other from high free. omega arith;
        }
      where
        lie_at : LieFrom span.0 (span ∷ spans)
        lie_at = (omega arith, lie.1, lie.2)

        ends : gap.0 + n ≤ span.0 → gap.0 + n ≤ page_end
        ends before = let w = within (span.0 + span.1) spans lie.2 in omega arith
          where
            within : (at : ℕ) (others : List (ℕ × ℕ)) → LieFrom at others → at ≤ page_end
            within at [] h = h
            within at (other ∷ others) h = let w = within (other.0 + other.1) others h.2 in let b = h.0 in omega arith
