-- The gaps once a range is taken, and once it is given back.
use Rattle.{mg_model.specs.Limits.{first_page, page_end}, mg_ranges.proofs.{Lists.{part-ends, put-at, remove-at}, Spans.{all-piece, end_of}}}
use Rattle.mg_ranges.proofs.Spans.{gaps-ascend, gaps-count, gaps-here, gaps-high, gaps-split, lie-begin, lie-end, lie-start, lie-without, piece-none}
use Rattle.mg_ranges.{proofs.Spans.{piece-some, rest-above, rest_of, start_of, up_to, up_to-before}, specs.Gaps.{AreGapsOf, AreTaken, LieFrom}}
use Rattle.{mg_ranges.specs.{Gaps.{gaps_of, piece}, Kept.{Ascends, HasTaken}}, std.proofs.Common.{refl, sym, ap, ◌∙◌, subst, ⊎_elim, arith}}
use Rattle.std.proofs.{Common.{append_assoc, get_or, length-append}, lemmas.{Bool.cases_lt, List.{append-nil, get_or-append_right}}}
use Rattle.std.{proofs.lemmas.List.{get_or_append_left, get_or_at, Elements.{All-append, All-cons, All-nil, All-weaker}}, specs.List.AllWithin}
use Rattle.std.specs.{List.remove, Prelude.{◌≡◌, ◌≢◌, ◌+◌, ◌-◌, ◌<◌, ◌≤◌, ℕ, suc, List, [], ◌++◌, ◌∷◌, All, drop, length, take}}

-- gaps that some ranges leave
pub kept-ascend : (gaps : List (ℕ × ℕ)) → HasTaken gaps → Ascends gaps
kept-ascend gaps has = subst Ascends (sym has.leave.are) (gaps-ascend first_page has.taken has.leave.taken.apart)

pub kept-high : (gaps : List (ℕ × ℕ)) → HasTaken gaps → All (λ (gap : ℕ × ℕ). gap.0 + gap.1 ≤ page_end) gaps
kept-high gaps has = subst (All (λ (gap : ℕ × ℕ). gap.0 + gap.1 ≤ page_end)) (sym has.leave.are) (gaps-high first_page has.taken has.leave.taken.apart)

pub left-count : (taken gaps : List (ℕ × ℕ)) → AreGapsOf taken gaps → length gaps ≤ length taken + 1
left-count taken gaps leave = let c = gaps-count first_page taken in let e = ap length leave.are in omega arith

-- the same gaps
pub same-gaps : (taken gaps others : List (ℕ × ℕ)) → others ≡ gaps → AreGapsOf taken gaps → AreGapsOf taken others
same-gaps taken gaps others is leave = record { taken = leave.taken; are = is ∙ leave.are }

-- what is in a place
abbrev pub nth : List (ℕ × ℕ) → ℕ → ℕ × ℕ
nth gaps k = get_or gaps k (0, 0)

-- what is left once a gap that begins at a page, or ends right before it, is taken out
abbrev pub WithBehind : ℕ → ℕ → ℕ → List (ℕ × ℕ) → List (ℕ × ℕ) → Type 0
WithBehind i page stop old x = i < length old → (nth old i).0 ≡ page → (stop ≡ page + (nth old i).1) × (x ≡ remove old i)

abbrev pub NoneBehind : ℕ → ℕ → ℕ → List (ℕ × ℕ) → List (ℕ × ℕ) → Type 0
NoneBehind i page stop old x = (i < length old → (nth old i).0 ≢ page) → (stop ≡ page) × (x ≡ old)

abbrev pub WithBefore : ℕ → ℕ → ℕ × ℕ → List (ℕ × ℕ) → List (ℕ × ℕ) → Type 0
WithBefore i page spot x y = 0 < i → (nth x (i - 1)).0 + (nth x (i - 1)).1 ≡ page → (spot ≡ (i - 1, (nth x (i - 1)).0)) × (y ≡ remove x (i - 1))

abbrev pub NoneBefore : ℕ → ℕ → ℕ × ℕ → List (ℕ × ℕ) → List (ℕ × ℕ) → Type 0
NoneBefore i page spot x y = (0 < i → (nth x (i - 1)).0 + (nth x (i - 1)).1 ≢ page) → (spot ≡ (i, page)) × (y ≡ x)

-- a range between others
module _ (before behind : List (ℕ × ℕ)) (first pages : ℕ) (lie : LieFrom first_page (before ++ (first, pages) ∷ behind)) where
  abbrev front : List (ℕ × ℕ)
  front = up_to first_page before

  abbrev end : ℕ
  end = end_of first_page before

  abbrev begin : ℕ
  begin = start_of behind

  abbrev back : List (ℕ × ℕ)
  back = rest_of behind

  here : LieFrom (end_of first_page before) ((first, pages) ∷ behind)
  here = lie-end first_page before ((first, pages) ∷ behind) lie

  low : end ≤ first
  low = here.0

  some : 1 ≤ pages
  some = here.1

  high : first + pages ≤ begin
  high = lie-start (first + pages) behind here.2

  top : begin ≤ page_end
  top = lie-begin (first + pages) behind here.2

  front-ends : All (λ (gap : ℕ × ℕ). gap.0 + gap.1 < end) front
  front-ends = up_to-before first_page before ((first, pages) ∷ behind) lie

  back-begins : All (λ (gap : ℕ × ℕ). begin < gap.0) back
  back-begins = rest-above (first + pages) behind here.2

  with-gaps : gaps_of (before ++ (first, pages) ∷ behind) ≡ front ++ (piece end first ++ (piece (first + pages) begin ++ back))
  with-gaps = gaps-split first_page before ((first, pages) ∷ behind) ∙ ap (λ gaps. front ++ (piece end first ++ gaps)) (gaps-here (first + pages) behind)

  without-gaps : gaps_of (before ++ behind) ≡ front ++ (piece end begin ++ back)
  without-gaps = gaps-split first_page before behind ∙ ap (λ gaps. front ++ gaps) (gaps-here end behind)

  one-gap : gaps_of (before ++ behind) ≡ front ++ (end, begin - end) ∷ back
  one-gap = let l = low in let s = some in let h = high in without-gaps ∙ ap (λ p. front ++ (p ++ back)) (piece-some end begin (omega arith))

  front-low : All (λ (gap : ℕ × ℕ). gap.0 ≤ first) front
  front-low = let l = low in All-weaker (λ (gap : ℕ × ℕ). gap.0 + gap.1 < end) (λ (gap : ℕ × ℕ). gap.0 ≤ first) (λ gap ends. omega arith) front front-ends

  back-high : All (λ (gap : ℕ × ℕ). first < gap.0) back
  back-high = let s = some in let h = high in All-weaker (λ (gap : ℕ × ℕ). begin < gap.0) (λ (gap : ℕ × ℕ). first < gap.0) (λ gap begins. omega arith) back back-begins

  -- the gap that has it
  module _ (old : List (ℕ × ℕ)) (leave : AreGapsOf (before ++ behind) old) (i : ℕ) (within : i ≤ length old) (below : AllWithin (λ (gap : ℕ × ℕ). gap.0 ≤ first) old 0 i) (above : AllWithin (λ (gap : ℕ × ℕ). first < gap.0) old i (length old)) where
    old-is : old ≡ front ++ (end, begin - end) ∷ back
    old-is = leave.are ∙ one-gap

    pub place : length front + 1 ≡ i
    place =
        let gap : ℕ × ℕ = (end, begin - end) in
        let l = low in
        let P : ℕ × ℕ → Type 0 = λ gap. gap.0 ≤ first in
        let at =
        part-ends (λ (gap : ℕ × ℕ). gap.0) first (front ++ gap ∷ []) back old i (old-is ∙ sym (append_assoc front (gap ∷ []) back)) (All-append P front (gap ∷ []) front-low (All-cons P gap [] l (All-nil P))) back-high within below above gap in
        let long = length-append front (gap ∷ []) in
        omega arith

    pub gap-is : (n : ℕ) (d : ℕ × ℕ) → n + 1 ≡ i → get_or old n d ≡ (end, begin - end)
    gap-is n d is = let p = place in ap (λ gaps. get_or gaps n d) old-is ∙ get_or_at front (end, begin - end) back d n (omega arith)

    pub gap-end : (n : ℕ) (gap : ℕ × ℕ) → n + 1 ≡ i → gap ≡ get_or old n gap → gap.0 + gap.1 ≡ begin
    gap-end n gap is at = grind (arith, gap-is, low, some, high)

    -- the gaps without it
    pub cut-gaps :
        (n : ℕ) (gap : ℕ × ℕ) (x y z : List (ℕ × ℕ)) → n + 1 ≡ i → gap ≡ get_or old n gap → x ≡ remove old n → y ≡ take n x ++ piece (first + pages) (gap.0 + gap.1) ++ drop n x
        → z ≡ take n y ++ piece gap.0 first ++ drop n y → AreTaken (before ++ (first, pages) ∷ behind) → AreGapsOf (before ++ (first, pages) ∷ behind) z
    cut-gaps n gap x y z is at x_is y_is z_is more = grind (arith, place, gap-is, old-is, remove-at, gap-end, put-at, with-gaps)

    pub cut-high : first + pages ≤ page_end
    cut-high = let h = high in let t = top in omega arith

    pub begin-high : begin ≤ page_end
    begin-high = top

  -- the gaps beside it
  module _ (old : List (ℕ × ℕ)) (leave : AreGapsOf (before ++ (first, pages) ∷ behind) old) (i : ℕ) (within : i ≤ length old) (below : AllWithin (λ (gap : ℕ × ℕ). gap.0 ≤ first) old 0 i) (above : AllWithin (λ (gap : ℕ × ℕ). first < gap.0) old i (length old)) where
    abbrev ahead : List (ℕ × ℕ)
    ahead = front ++ piece end first

    old-parts : old ≡ ahead ++ (piece (first + pages) begin ++ back)
    old-parts = leave.are ∙ with-gaps ∙ sym (append_assoc front (piece end first) (piece (first + pages) begin ++ back))

    ahead-place : length ahead ≡ i
    ahead-place =
        let P : ℕ × ℕ → Type 0 = λ gap. gap.0 ≤ first in
        let Q : ℕ × ℕ → Type 0 = λ gap. first < gap.0 in
        let l = low in
        let s = some in
        part-ends (λ (gap : ℕ × ℕ). gap.0) first ahead (piece (first + pages) begin ++ back) old i old-parts (All-append P front (piece end first) front-low (all-piece P end first (λ there. omega arith)))
        (All-append Q (piece (first + pages) begin) back (all-piece Q (first + pages) begin (λ there. omega arith)) back-high) within below above (0, 0)

    record Joined (stop : ℕ) (x : List (ℕ × ℕ)) : Type 0 where
      stop_is : stop ≡ begin
      left : x ≡ ahead ++ back

    -- with what is free after it
    behind-joined :
        (stop : ℕ) (x : List (ℕ × ℕ))
        → WithBehind i (first + pages) stop old x
        → NoneBehind i (first + pages) stop old x
        → Joined stop x
    behind-joined stop x joined apart = ⊎_elim there none (cases_lt (first + pages) begin)
      where
        there : first + pages < begin → Joined stop x
        there free = grind (arith, old-parts, piece-some, get_or_at, ahead-place, length-append, remove-at)

        none : begin ≤ first + pages → Joined stop x
        none full =
            let h = high in
            let is : old ≡ ahead ++ back = old-parts ∙ ap (λ p. ahead ++ (p ++ back)) (piece-none (first + pages) begin full) in
            let p = ahead-place in
            let both =
            apart
            (λ under same.
            let at = ap (λ (gaps : List (ℕ × ℕ)). (nth gaps i).0) is ∙ ap (λ (g : ℕ × ℕ). g.0) (get_or-append_right ahead back i i (0, 0) p (omega arith)) in
            let long = ap length is ∙ length-append ahead back in
            let begins = back-begins (i - i) (0, 0) (omega arith) in
            omega arith) in
            let e = both.0 in
            record { stop_is = omega arith; left = both.1 ∙ is }

    record Met (n start : ℕ) (y : List (ℕ × ℕ)) : Type 0 where
      n_is : length front ≡ n
      start_is : start ≡ end
      rest : y ≡ front ++ back

    -- and before it
    before-joined :
        (x y : List (ℕ × ℕ)) (spot : ℕ × ℕ) → x ≡ ahead ++ back
        → WithBefore i first spot x y
        → NoneBefore i first spot x y
        → Met spot.0 spot.1 y
    before-joined x y spot left joined apart = ⊎_elim there none (cases_lt end first)
      where
        there : end < first → Met spot.0 spot.1 y
        there free = grind (arith, piece-some, ahead-place, length-append, left, append_assoc, get_or_at, remove-at)

        none : first ≤ end → Met spot.0 spot.1 y
        none full =
            let l = low in
            let no = piece-none end first full in
            let is : x ≡ front ++ back = left ∙ ap (λ g. (front ++ g) ++ back) no ∙ ap (λ g. g ++ back) (append-nil front) in
            let n_is : length front ≡ i = sym (ap length (ap (λ g. front ++ g) no ∙ append-nil front)) ∙ ahead-place in
            let both =
            apart
            (λ under same.
            let at = ap (λ gaps. nth gaps (i - 1)) is ∙ get_or_append_left front back (0, 0) (i - 1) (omega arith) in
            let ends = front-ends (i - 1) (0, 0) (omega arith) in
            let a = ap (λ (g : ℕ × ℕ). g.0) at in
            let b = ap (λ (g : ℕ × ℕ). g.1) at in
            omega arith) in
            let k = ap (λ (g : ℕ × ℕ). g.0) both.0 in
            let s = ap (λ (g : ℕ × ℕ). g.1) both.0 in
            record { n_is = omega arith; start_is = omega arith; rest = both.1 ∙ is }

    pub record Given (n start stop : ℕ) (y : List (ℕ × ℕ)) : Type 0 where
      pub inside : n ≤ length y
      pub few : length y ≤ 4095
      pub left : (z : List (ℕ × ℕ)) → z ≡ take n y ++ piece start stop ++ drop n y → AreGapsOf (before ++ behind) z

    pub given :
        (stop : ℕ) (spot : ℕ × ℕ) (x y : List (ℕ × ℕ))
        → WithBehind i (first + pages) stop old x
        → NoneBehind i (first + pages) stop old x
        → WithBefore i first spot x y
        → NoneBefore i first spot x y
        → Given spot.0 spot.1 stop y
    given stop spot x y a b c d =
        let one = behind-joined stop x a b in
        let two = before-joined x y spot one.left c d in
        let n_is = two.n_is in
        let long = ap length two.rest ∙ length-append front back in
        let count = gaps-count first_page (before ++ behind) in
        let all = ap length one-gap ∙ length-append front ((end, begin - end) ∷ back) in
        let fewer = length-append before behind in
        let more = length-append before ((first, pages) ∷ behind) in
        let few = leave.taken.few in
        record {
          inside = omega arith;
          few = omega arith;
          left = λ z is. record {
            taken = record { few = omega arith; apart = lie-without first_page before (first, pages) behind lie };
            are = grind (arith, put-at, n_is, without-gaps);
          };
        }

    -- what was free after it is one place less, or the same
    pub joined-high :
        (stop : ℕ) (x : List (ℕ × ℕ))
        → WithBehind i (first + pages) stop old x
        → NoneBehind i (first + pages) stop old x
        → (i ≤ length x) × All (λ (gap : ℕ × ℕ). gap.0 + gap.1 ≤ page_end) x
    joined-high stop x a b =
        let one = behind-joined stop x a b in
        let p = ahead-place in
        let long = ap length one.left ∙ length-append ahead back in
        let P : ℕ × ℕ → Type 0 = λ gap. gap.0 + gap.1 ≤ page_end in
        let all : All P (gaps_of (before ++ behind)) = gaps-high first_page (before ++ behind) (lie-without first_page before (first, pages) behind lie) in
        let t = top in
        let l = low in
        let s = some in
        let h = high in
        (omega arith, subst (All P) (sym one.left) (All-append P ahead back (All-append P front (piece end first) (All-weaker (λ (gap : ℕ × ℕ). gap.0 + gap.1 < end) P (λ gap ends. omega arith) front front-ends) (all-piece P end first (λ there. omega arith))) (rest-high all)))
      where
        rest-high : All (λ (gap : ℕ × ℕ). gap.0 + gap.1 ≤ page_end) (gaps_of (before ++ behind)) → All (λ (gap : ℕ × ℕ). gap.0 + gap.1 ≤ page_end) back
        rest-high all k d under =
            let gap : ℕ × ℕ = (end, begin - end) in
            let long = ap length one-gap ∙ length-append front (gap ∷ back) in
            let at = ap (λ gaps. get_or gaps (length front + 1 + k) d) one-gap ∙ get_or-append_right front (gap ∷ back) (length front) (length front + 1 + k) d refl (omega arith) in
            let e : length front + 1 + k - length front ≡ suc k = omega arith in
            let back_at = at ∙ ap (λ n. get_or (gap ∷ back) n d) e in
            let a = ap (λ (g : ℕ × ℕ). g.0) back_at in
            let b = ap (λ (g : ℕ × ℕ). g.1) back_at in
            let all_at = all (length front + 1 + k) d (omega arith) in
            omega arith

    pub given-high : first + pages ≤ page_end
    given-high = let h = high in let t = top in omega arith
