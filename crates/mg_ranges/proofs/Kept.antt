-- What a range that may be taken, or given back, says of the gaps and the place that was found.
use Rattle.{mg_model.specs.Limits.page_end, mg_ranges.proofs.Cuts.{NoneBefore, NoneBehind, WithBefore, WithBehind, begin-high, cut-gaps, cut-high}}
use Rattle.mg_ranges.{proofs.Cuts.{gap-end, given, given-high, joined-high, left-count, place, same-gaps}, specs.Gaps.{AreGapsOf, AreTaken, piece}}
use Rattle.{mg_ranges.specs.Kept.{CanGive, CanTake}, std.{proofs.Common.{subst, arith, get_or, length-append}, specs.List.{AllWithin, remove}}}
use Rattle.std.specs.Prelude.{◌≡◌, ◌+◌, ◌<◌, ◌≤◌, ℕ, List, ◌++◌, ◌∷◌, All, drop, length, take}

-- how many gaps begin at a page or before it
pub record Counted (gaps : List (ℕ × ℕ)) (page i : ℕ) : Type 0 where
  pub within : i ≤ length gaps
  pub below : AllWithin (λ (gap : ℕ × ℕ). gap.0 ≤ page) gaps 0 i
  pub above : AllWithin (λ (gap : ℕ × ℕ). page < gap.0) gaps i (length gaps)

pub counted :
    (lent gaps : List (ℕ × ℕ)) (page i : ℕ) → lent ≡ gaps → i ≤ length lent → AllWithin (λ (gap : ℕ × ℕ). gap.0 ≤ page) lent 0 i → AllWithin (λ (gap : ℕ × ℕ). page < gap.0) lent i (length lent) → Counted gaps page i
counted lent gaps page i is within below above = subst (λ (l : List (ℕ × ℕ)). Counted l page i) is (record { within = within; below = below; above = above })

pub record Took (now gaps : List (ℕ × ℕ)) (first pages i : ℕ) : Type 0 where
  pub some : 1 ≤ i
  pub few : length gaps ≤ 4096
  pub high : first + pages ≤ page_end
  pub ends : (n : ℕ) (gap : ℕ × ℕ) → n + 1 ≡ i → gap ≡ get_or gaps n gap → gap.0 + gap.1 ≤ page_end
  pub cut : (before behind : List (ℕ × ℕ)) → AreGapsOf (before ++ behind) now → AreTaken (before ++ (first, pages) ∷ behind) → (n : ℕ) (gap : ℕ × ℕ) (x y z : List (ℕ × ℕ)) → n + 1 ≡ i → gap ≡ get_or gaps n gap → x ≡ remove gaps n
      → y ≡ take n x ++ piece (first + pages) (gap.0 + gap.1) ++ drop n x → z ≡ take n y ++ piece gap.0 first ++ drop n y → AreGapsOf (before ++ (first, pages) ∷ behind) z

pub took : (now gaps : List (ℕ × ℕ)) (first pages i : ℕ) → CanTake first pages now → gaps ≡ now → Counted gaps first i → Took now gaps first pages i
took now gaps first pages i can is k =
    let leave = same-gaps (can.before ++ can.behind) now gaps is can.leave in
    let at = place can.before can.behind first pages can.more.apart gaps leave i k.within k.below k.above in
    let count = left-count (can.before ++ can.behind) gaps leave in
    let fewer = length-append can.before can.behind in
    let more = length-append can.before ((first, pages) ∷ can.behind) in
    let few = can.more.few in
    record {
      some = omega arith;
      few = omega arith;
      high = cut-high can.before can.behind first pages can.more.apart gaps leave i k.within k.below k.above;
      ends = λ n gap is here.
          let e = gap-end can.before can.behind first pages can.more.apart gaps leave i k.within k.below k.above n gap is here in
          let h = begin-high can.before can.behind first pages can.more.apart gaps leave i k.within k.below k.above in
          omega arith;
      cut = λ before behind leaves taken n gap x y z is here a b d.
          cut-gaps before behind first pages taken.apart gaps (same-gaps (before ++ behind) now gaps is_now leaves) i k.within k.below k.above n gap x y z is here a b d taken;
    }
  where
    is_now : gaps ≡ now
    is_now = is

pub record Gave (now gaps : List (ℕ × ℕ)) (first pages i : ℕ) : Type 0 where
  pub high : first + pages ≤ page_end
  pub joined : (stop : ℕ) (x : List (ℕ × ℕ)) → WithBehind i (first + pages) stop gaps x → NoneBehind i (first + pages) stop gaps x → (i ≤ length x) × All (λ (gap : ℕ × ℕ). gap.0 + gap.1 ≤ page_end) x
  pub inside : (stop : ℕ) (spot : ℕ × ℕ) (x y : List (ℕ × ℕ)) → WithBehind i (first + pages) stop gaps x → NoneBehind i (first + pages) stop gaps x → WithBefore i first spot x y → NoneBefore i first spot x y → (spot.0 ≤ length y) × (length y ≤ 4095)
  pub left : (before behind : List (ℕ × ℕ)) → AreGapsOf (before ++ (first, pages) ∷ behind) now → (stop : ℕ) (spot : ℕ × ℕ) (x y z : List (ℕ × ℕ)) → WithBehind i (first + pages) stop gaps x
      → NoneBehind i (first + pages) stop gaps x → WithBefore i first spot x y → NoneBefore i first spot x y → z ≡ take spot.0 y ++ piece spot.1 stop ++ drop spot.0 y → AreGapsOf (before ++ behind) z

pub gave : (now gaps : List (ℕ × ℕ)) (first pages i : ℕ) → CanGive first pages now → gaps ≡ now → Counted gaps first i → Gave now gaps first pages i
gave now gaps first pages i can is k =
    let leave = same-gaps (can.before ++ (first, pages) ∷ can.behind) now gaps is can.leave in
    let lie = can.leave.taken.apart in
    record {
      high = given-high can.before can.behind first pages lie gaps leave i k.within k.below k.above;
      joined = λ stop x a b. joined-high can.before can.behind first pages lie gaps leave i k.within k.below k.above stop x a b;
      inside = λ stop spot x y a b d e. let g = given can.before can.behind first pages lie gaps leave i k.within k.below k.above stop spot x y a b d e in (g.inside, g.few);
      left = λ before behind leaves stop spot x y z a b d e z_is.
          (given before behind first pages leaves.taken.apart gaps (same-gaps (before ++ (first, pages) ∷ behind) now gaps is leaves) i k.within k.below k.above stop spot x y a b d e).left z z_is;
    }
