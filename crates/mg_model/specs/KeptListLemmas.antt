-- Lemmas that crates above need, on what an edit of a list keeps: facts on each element, and on each pair of an element and a later one.
use Rattle.std.proofs.Common.{◌≡◌, ℕ, suc, ◌≤◌, Bool, not, List, [], ◌∷◌, map, filter, length, get_or, sum_by, All}
use Rattle.std.proofs.{Common.{AllPairs, refl, arith}, lemmas.List.Elements.{All-cons, All-head, All-map, All-nil}}
use Rattle.std.proofs.lemmas.List.{Elements.{All-tail, All-weaker}, Filters.{length-filter_both, sum_by-filter_both}}
use Rattle.std.proofs.lemmas.List.{Kept.AllPairs-cons, Sums.sum_by-cons}

-- what follows at each element from two facts on it
pub All-both : {X : Type 0} (P Q R : X → Type 0) → ((x : X) → P x → Q x → R x) → (xs : List X) → All P xs → All Q xs → All R xs
All-both P Q R each xs all also = λ k d within. each (get_or xs k d) (all k d within) (also k d within)

-- what follows of the elements' images
pub All-change : {X Y : Type 0} (P : X → Type 0) (Q : Y → Type 0) (f : X → Y) → ((x : X) → P x → Q (f x)) → (xs : List X) → All P xs → All Q (map f xs)
All-change P Q f each xs all = All-map Q f xs (All-weaker P (λ x. Q (f x)) each xs all)

pub AllPairs-nil : {X : Type 0} (R : X → X → Type 0) → AllPairs R []
AllPairs-nil R = λ i j d below within. absurd (omega arith)

pub AllPairs-head : {X : Type 0} (R : X → X → Type 0) (x : X) (xs : List X) → AllPairs R (x ∷ xs) → All (R x) xs
AllPairs-head R x xs pairs = λ k d within. pairs 0 (suc k) d (omega arith) (omega arith)

pub AllPairs-tail : {X : Type 0} (R : X → X → Type 0) (x : X) (xs : List X) → AllPairs R (x ∷ xs) → AllPairs R xs
AllPairs-tail R x xs pairs = λ i j d below within. pairs (suc i) (suc j) d (omega arith) (omega arith)

pub AllPairs-change : {X Y : Type 0} (R : X → X → Type 0) (S : Y → Y → Type 0) (f : X → Y) → ((x y : X) → R x y → S (f x) (f y)) → (xs : List X) → AllPairs R xs → AllPairs S (map f xs)
AllPairs-change R S f each [] pairs = AllPairs-nil S
AllPairs-change R S f each (x ∷ xs) pairs =
    AllPairs-cons S (f x) (map f xs)
    (All-change (R x) (S (f x)) f (λ y. each x y) xs (AllPairs-head R x xs pairs))
    (AllPairs-change R S f each xs (AllPairs-tail R x xs pairs))

pub length-filter-le : {X : Type 0} (p : X → Bool) (xs : List X) → length (filter p xs) ≤ length xs
length-filter-le p xs = omega (arith, length-filter_both p (λ x. not (p x)) (λ _. refl) xs)

pub sum_by-filter-le : {X : Type 0} (p : X → Bool) (f : X → ℕ) (xs : List X) → sum_by f (filter p xs) ≤ sum_by f xs
sum_by-filter-le p f xs = omega (arith, sum_by-filter_both p (λ x. not (p x)) (λ _. refl) f xs)

-- a sum that an image does not change
pub sum_by-change : {X : Type 0} (f : X → ℕ) (h : X → X) → ((x : X) → f (h x) ≡ f x) → (xs : List X) → sum_by f (map h xs) ≡ sum_by f xs
sum_by-change f h same [] = refl
sum_by-change f h same (x ∷ xs) = omega (arith, sum_by-cons f (h x) (map h xs), sum_by-cons f x xs, same x, sum_by-change f h same xs)

-- what holds of each image holds at each element
pub All-unmap : {X Y : Type 0} (P : Y → Type 0) (f : X → Y) (xs : List X) → All P (map f xs) → All (λ x. P (f x)) xs
All-unmap P f [] all = All-nil (λ x. P (f x))
All-unmap P f (x ∷ xs) all = All-cons (λ x. P (f x)) x xs (All-head P (f x) (map f xs) all) (All-unmap P f xs (All-tail P (f x) (map f xs) all))
