-- Ranges that lie one after another, and the gaps between them.
use Rattle.{mg_model.specs.Limits.{first_page, page_end}, mg_ranges.specs.{Gaps.{AreTaken, LieFrom, gaps_from, piece}, Kept.Ascends}}
use Rattle.std.proofs.{Common.{refl, sym, ap, ◌∙◌, ⊎_elim, arith, append_assoc, length-append}, lemmas.Bool.{cases_lt, le-ltb, lt-ltb}}
use Rattle.std.proofs.lemmas.List.{append-nil, length-take, take-append-drop, Elements.{All-append, All-nil}, Sums.{sum_by-append, sum_by-cons}}
use Rattle.std.specs.Prelude.{◌≡◌, ◌+◌, ◌-◌, ◌<◌, ◌≤◌, ℕ, zero, suc, Bool, List, [], ◌++◌, ◌∷◌, All, drop, if◌then◌else◌, length, sum_by, take}

-- a range with a page, and one without
pub piece-some : (a b : ℕ) → a < b → piece a b ≡ (a, b - a) ∷ []
piece-some a b some = ap (λ (t : Bool). if t then (a, b - a) ∷ [] else []) (lt-ltb a b some)

pub piece-none : (a b : ℕ) → b ≤ a → piece a b ≡ []
piece-none a b none = ap (λ (t : Bool). if t then (a, b - a) ∷ [] else []) (le-ltb a b none)

pub all-piece : (P : ℕ × ℕ → Type 0) (a b : ℕ) → (a < b → P (a, b - a)) → All P (piece a b)
all-piece P a b each = grind arith

sum-piece : (a b : ℕ) → a ≤ b → sum_by (λ (gap : ℕ × ℕ). gap.1) (piece a b) + a ≡ b
sum-piece a b order = grind (arith, piece-some, piece-none, cases_lt)

pub length-piece : (a b : ℕ) → length (piece a b) ≤ 1
length-piece a b = ⊎_elim (λ some. let e = ap length (piece-some a b some) in omega arith) (λ none. let e = ap length (piece-none a b none) in omega arith) (cases_lt a b)

pairs-piece : (a b : ℕ) (gaps : List (ℕ × ℕ)) → All (λ (gap : ℕ × ℕ). a < gap.0) gaps → Ascends gaps → Ascends (piece a b ++ gaps)
pairs-piece a b gaps above up = grind arith

-- where ranges end from a page on and where they begin, and the gaps before that end and after that begin
abbrev pub end_of : ℕ → List (ℕ × ℕ) → ℕ
end_of page [] = page
end_of page (span ∷ spans) = end_of (span.0 + span.1) spans

abbrev pub up_to : ℕ → List (ℕ × ℕ) → List (ℕ × ℕ)
up_to page [] = []
up_to page (span ∷ spans) = piece page span.0 ++ up_to (span.0 + span.1) spans

abbrev pub start_of : List (ℕ × ℕ) → ℕ
start_of [] = page_end
start_of (span ∷ spans) = span.0

abbrev pub rest_of : List (ℕ × ℕ) → List (ℕ × ℕ)
rest_of [] = []
rest_of (span ∷ spans) = gaps_from (span.0 + span.1) spans

pub gaps-here : (page : ℕ) (spans : List (ℕ × ℕ)) → gaps_from page spans ≡ piece page (start_of spans) ++ rest_of spans
gaps-here page [] = sym (append-nil (piece page page_end))
gaps-here page (span ∷ spans) = refl

pub gaps-split : (page : ℕ) (before behind : List (ℕ × ℕ)) → gaps_from page (before ++ behind) ≡ up_to page before ++ gaps_from (end_of page before) behind
gaps-split page [] behind = refl
gaps-split page (span ∷ before) behind =
    ap (λ gaps. piece page span.0 ++ gaps) (gaps-split (span.0 + span.1) before behind)
    ∙ sym (append_assoc (piece page span.0) (up_to (span.0 + span.1) before) (gaps_from (end_of (span.0 + span.1) before) behind))

-- ranges that lie from a page on
pub lie-end : (page : ℕ) (before behind : List (ℕ × ℕ)) → LieFrom page (before ++ behind) → LieFrom (end_of page before) behind
lie-end page [] behind lie = lie
lie-end page (span ∷ before) behind lie = lie-end (span.0 + span.1) before behind lie.2

pub lie-up : (page : ℕ) (before behind : List (ℕ × ℕ)) → LieFrom page (before ++ behind) → page ≤ end_of page before
lie-up page [] behind lie = omega arith
lie-up page (span ∷ before) behind lie = let up = lie-up (span.0 + span.1) before behind lie.2 in let low = lie.0 in omega arith

pub lie-start : (page : ℕ) (spans : List (ℕ × ℕ)) → LieFrom page spans → page ≤ start_of spans
lie-start page [] lie = lie
lie-start page (span ∷ spans) lie = lie.0

pub lie-within : (page : ℕ) (spans : List (ℕ × ℕ)) → LieFrom page spans → page ≤ page_end
lie-within page [] lie = lie
lie-within page (span ∷ spans) lie = let within = lie-within (span.0 + span.1) spans lie.2 in let low = lie.0 in omega arith

pub lie-begin : (page : ℕ) (spans : List (ℕ × ℕ)) → LieFrom page spans → start_of spans ≤ page_end
lie-begin page [] lie = omega arith
lie-begin page (span ∷ spans) lie = let within = lie-within (span.0 + span.1) spans lie.2 in omega arith

pub lie-lower : (low page : ℕ) (spans : List (ℕ × ℕ)) → low ≤ page → LieFrom page spans → LieFrom low spans
lie-lower low page [] order lie = let within : page ≤ page_end = lie in omega arith
lie-lower low page (span ∷ spans) order lie = let here = lie.0 in (omega arith, lie.1, lie.2)

pub lie-without : (page : ℕ) (before : List (ℕ × ℕ)) (span : ℕ × ℕ) (behind : List (ℕ × ℕ)) → LieFrom page (before ++ span ∷ behind) → LieFrom page (before ++ behind)
lie-without page [] span behind lie = let low = lie.0 in lie-lower page (span.0 + span.1) behind (omega arith) lie.2
lie-without page (first ∷ before) span behind lie = (lie.0, lie.1, lie-without (first.0 + first.1) before span behind lie.2)

-- the gaps before an end end before it, those after a begin begin after it
pub up_to-before : (page : ℕ) (before behind : List (ℕ × ℕ)) → LieFrom page (before ++ behind) → All (λ (gap : ℕ × ℕ). gap.0 + gap.1 < end_of page before) (up_to page before)
up_to-before page [] behind lie = All-nil (λ (gap : ℕ × ℕ). gap.0 + gap.1 < page)
up_to-before page (span ∷ before) behind lie = grind (arith, (up_to-before (span.0 + span.1) before behind lie.2), lie-up, All-append, all-piece)

gaps-above : (low page : ℕ) (spans : List (ℕ × ℕ)) → low < page → LieFrom page spans → All (λ (gap : ℕ × ℕ). low < gap.0) (gaps_from page spans)
gaps-above low page [] order lie = all-piece (λ gap. low < gap.0) page page_end (λ some. order)
gaps-above low page (span ∷ spans) order lie = grind (arith, (gaps-above low (span.0 + span.1) spans (omega arith) lie.2))

pub rest-above : (page : ℕ) (spans : List (ℕ × ℕ)) → LieFrom page spans → All (λ (gap : ℕ × ℕ). start_of spans < gap.0) (rest_of spans)
rest-above page [] lie = All-nil (λ (gap : ℕ × ℕ). page_end < gap.0)
rest-above page (span ∷ spans) lie = let some = lie.1 in gaps-above span.0 (span.0 + span.1) spans (omega arith) lie.2

-- all gaps end by the end of the pages
pub gaps-high : (page : ℕ) (spans : List (ℕ × ℕ)) → LieFrom page spans → All (λ (gap : ℕ × ℕ). gap.0 + gap.1 ≤ page_end) (gaps_from page spans)
gaps-high page [] lie = all-piece (λ gap. gap.0 + gap.1 ≤ page_end) page page_end (λ some. omega arith)
gaps-high page (span ∷ spans) lie = grind (arith, (gaps-high (span.0 + span.1) spans lie.2), lie-within, All-append, all-piece)

-- they ascend
pub gaps-ascend : (page : ℕ) (spans : List (ℕ × ℕ)) → LieFrom page spans → Ascends (gaps_from page spans)
gaps-ascend page [] lie = grind arith
gaps-ascend page (span ∷ spans) lie =
    let low = lie.0 in
    let some = lie.1 in
    pairs-piece page span.0 (gaps_from (span.0 + span.1) spans) (gaps-above page (span.0 + span.1) spans (omega arith) lie.2) (gaps-ascend (span.0 + span.1) spans lie.2)

-- there is at most one more of them than there are ranges
pub gaps-count : (page : ℕ) (spans : List (ℕ × ℕ)) → length (gaps_from page spans) ≤ length spans + 1
gaps-count page [] = length-piece page page_end
gaps-count page (span ∷ spans) = grind (arith, (gaps-count (span.0 + span.1) spans))

-- with the ranges they make up all pages
pub gaps-sum : (page : ℕ) (spans : List (ℕ × ℕ)) → LieFrom page spans → sum_by (λ (gap : ℕ × ℕ). gap.1) (gaps_from page spans) + sum_by (λ (span : ℕ × ℕ). span.1) spans + page ≡ page_end
gaps-sum page [] lie = let s = sum-piece page page_end lie in omega arith
gaps-sum page (span ∷ spans) lie =
    let f : ℕ × ℕ → ℕ = λ x. x.1 in
    let s = sum-piece page span.0 lie.0 in
    let a = sum_by-append f (piece page span.0) (gaps_from (span.0 + span.1) spans) in
    let b = sum_by-cons f span spans in
    let rest = gaps-sum (span.0 + span.1) spans lie.2 in
    omega arith

-- a range added to a list of gaps
pub length-put : (n a b : ℕ) (gaps : List (ℕ × ℕ)) → length (take n gaps ++ piece a b ++ drop n gaps) ≤ length gaps + 1
length-put n a b gaps =
    let all = ap length (take-append-drop n gaps) in
    let one = length-append (take n gaps) (drop n gaps) in
    let two = length-append (take n gaps ++ piece a b) (drop n gaps) in
    let three = length-append (take n gaps) (piece a b) in
    let p = length-piece a b in
    omega arith

-- the first of some ranges
lie-take : (n page : ℕ) (spans : List (ℕ × ℕ)) → LieFrom page spans → LieFrom page (take n spans)
lie-take zero page spans lie = lie-within page spans lie
lie-take (suc n) page [] lie = lie
lie-take (suc n) page (span ∷ spans) lie = (lie.0, lie.1, lie-take n (span.0 + span.1) spans lie.2)

pub taken-take : (n : ℕ) (spans : List (ℕ × ℕ)) → AreTaken spans → AreTaken (take n spans)
taken-take n spans taken = let l = length-take n spans in let few = taken.few in record { few = omega arith; apart = lie-take n first_page spans taken.apart }
