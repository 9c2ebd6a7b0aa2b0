-- Lemmas that crates above need: three definitions on lists, as a walk through the list element by element computes them.
use Rattle.std.proofs.{Common.{refl, ap, sym, ◌∙◌, arith, inl, inr, eqb, subst, All}, lemmas.Bool.cond_both}
use Rattle.std.proofs.lemmas.{Bool.Decides.nat_tests, List.{reverse-append, Elements.{All-cons, All-head, All-nil}}}
use Rattle.std.proofs.lemmas.{List.{Elements.All-tail, Folds.find-append, Sums.sum_by-cons}, Option.same_Some}
use Rattle.std.specs.{List.{cons_option, filter_map, list_all, list_any}, Option.{ForSome, option_map_or, option_or}}
use Rattle.std.specs.Prelude.{◌≡◌, ◌⊎◌, ◌≤◌, ℕ, suc, ◌+◌, ◌/◌, ◌%◌, ◌==◌, ◌&&◌, ◌||◌, nat_le, nat_lt, Bool, true, false}
use Rattle.std.specs.Prelude.{not, List, [], ◌∷◌, length, slice_index_or, if◌then◌else◌, find, reverse, sum_by, Option}
use Rattle.std.specs.Prelude.{Some, None}
use Rattle.mg_model.specs.{Bank.rate_of, Tariff.is_tariff, Tests.all_distinct, Words.{and_then, is_some_word}}
use Rattle.mg_model.specs.{Words.{letter_weight, rights_of}, declared.limits.TheConstants.STEP_LIMIT as step_limit}

-- the rate of the last step that holds when this number of pages is in use, else the rate before
abbrev pub rate_from : ℕ → List (ℕ × ℕ) → ℕ → ℕ
rate_from before [] pages = before
rate_from before ((from, rate) ∷ steps) pages = rate_from (if nat_le from pages then rate else before) steps pages

holds : ℕ → ℕ × ℕ → Bool
holds pages step = nat_le step.0 pages

rate : ℕ → Option (ℕ × ℕ) → ℕ
rate before step = option_map_or (λ (step : ℕ × ℕ). step.1) step before

one_behind : (before : ℕ) (pages : ℕ) (found : Option (ℕ × ℕ)) (step : ℕ × ℕ) → rate before (option_or found (find (holds pages) (step ∷ []))) ≡ rate (if nat_le step.0 pages then step.1 else before) found
unfolding rate holds
one_behind before pages (Some last) step = refl
one_behind before pages None (from, r) = by_test (nat_le from pages)
  where
    by_test : (test : Bool) → option_map_or (λ (step : ℕ × ℕ). step.1) (if test then Some (from, r) else None) before ≡ (if test then r else before)
    by_test true = refl
    by_test false = refl

rate-reversed : (before : ℕ) (steps : List (ℕ × ℕ)) (pages : ℕ) → rate before (find (holds pages) (reverse steps)) ≡ rate_from before steps pages
unfolding rate holds
rate-reversed before [] pages = refl
rate-reversed before ((from, r) ∷ steps) pages =
    ap (λ list. rate before (find (holds pages) list)) (reverse-append ((from, r) ∷ []) steps)
    ∙ ap (λ found. rate before found) (find-append (holds pages) (reverse steps) ((from, r) ∷ []))
    ∙ one_behind before pages (find (holds pages) (reverse steps)) (from, r)
    ∙ rate-reversed (if nat_le from pages then r else before) steps pages

pub rate_of-from : (tariff : List (ℕ × ℕ)) (pages : ℕ) → rate_of tariff pages ≡ rate_from 0 tariff pages
unfolding rate holds
rate_of-from tariff pages = rate-reversed 0 tariff pages

-- the rights that these letters spell besides those that were read; no letter comes twice
abbrev pub rights_from : ℕ → List ℕ → Option ℕ
rights_from bits [] = Some bits
rights_from bits (b ∷ bytes) = and_then (letter_weight b) (λ weight. if bits / weight % 2 == 1 then None else rights_from (bits + weight) bytes)

-- the bit of a letter: one of six
abbrev pub IsBit : ℕ → Type 0
IsBit n = (n ≡ 1) ⊎ ((n ≡ 2) ⊎ ((n ≡ 4) ⊎ ((n ≡ 8) ⊎ ((n ≡ 16) ⊎ (n ≡ 32)))))

letter-bit : (b : ℕ) → ForSome (letter_weight b) IsBit
letter-bit b =
    cond_both (eqb b 82) _ _ (λ o. ForSome o IsBit) (λ _. is 1 (inl refl)) (λ _.
    cond_both (eqb b 87) _ _ (λ o. ForSome o IsBit) (λ _. is 2 (inr (inl refl))) (λ _.
    cond_both (eqb b 88) _ _ (λ o. ForSome o IsBit) (λ _. is 4 (inr (inr (inl refl)))) (λ _.
    cond_both (eqb b 68) _ _ (λ o. ForSome o IsBit) (λ _. is 8 (inr (inr (inr (inl refl))))) (λ _.
    cond_both (eqb b 80) _ _ (λ o. ForSome o IsBit) (λ _. is 16 (inr (inr (inr (inr (inl refl)))))) (λ _.
    cond_both (eqb b 79) _ _ (λ o. ForSome o IsBit) (λ _. is 32 (inr (inr (inr (inr (inr refl)))))) (λ _ weight none. absurd (cc)))))))
  where
    is : (weight : ℕ) → IsBit weight → ForSome (Some weight) IsBit
    is weight bit = λ other same. subst IsBit (same_Some _ _ same) bit

-- whether a bit is free
is_clear : ℕ → ℕ → Bool
is_clear bits bit = not (bits / bit % 2 == 1)

-- a bit that is added is taken, and no other one changes
added_one : (bits w x : ℕ) → IsBit w → IsBit x → (bits / w % 2 == 1) ≡ false → is_clear (bits + w) x ≡ (not (w == x) && is_clear bits x)
unfolding is_clear
added_one bits w x (inl e) is clear = let f = rw e at clear in rw e (grind (arith, nat_tests, f))
added_one bits w x (inr (inl e)) is clear = let f = rw e at clear in rw e (grind (arith, nat_tests, f))
added_one bits w x (inr (inr (inl e))) is clear = let f = rw e at clear in rw e (grind (arith, nat_tests, f))
added_one bits w x (inr (inr (inr (inl e)))) is clear = let f = rw e at clear in rw e (grind (arith, nat_tests, f))
added_one bits w x (inr (inr (inr (inr (inl e))))) is clear = let f = rw e at clear in rw e (grind (arith, nat_tests, f))
added_one bits w x (inr (inr (inr (inr (inr e))))) is clear = let f = rw e at clear in rw e (grind (arith, nat_tests, f))

are_clear : ℕ → List ℕ → Bool
are_clear bits ws = list_all (λ x. is_clear bits x) ws

both_tests : (a b c d : Bool) → ((not a && c) && (not b && d)) ≡ (not (a || b) && (c && d))
both_tests true b c d = refl
both_tests false true true d = refl
both_tests false true false d = refl
both_tests false false true d = refl
both_tests false false false d = refl

added : (bits w : ℕ) → IsBit w → (bits / w % 2 == 1) ≡ false → (ws : List ℕ) → All IsBit ws → are_clear (bits + w) ws ≡ (not (list_any (λ x. w == x) ws) && are_clear bits ws)
unfolding are_clear
added bits w is clear [] all = refl
added bits w is clear (x ∷ ws) all =
    ap (λ v. v && list_all (λ y. is_clear (bits + w) y) ws) (added_one bits w x is (All-head IsBit x ws all) clear)
    ∙ ap (λ v. (not (w == x) && is_clear bits x) && v) (added bits w is clear ws (All-tail IsBit x ws all))
    ∙ both_tests (w == x) (list_any (λ y. w == y) ws) (is_clear bits x) (list_all (λ y. is_clear bits y) ws)

weights : List ℕ → List ℕ
weights bytes = filter_map letter_weight bytes

few_weights : (bytes : List ℕ) → length (weights bytes) ≤ length bytes
unfolding weights
few_weights [] = omega arith
few_weights (b ∷ bytes) = by_letter (letter_weight b) (few_weights bytes)
  where
    by_letter : (o : Option ℕ) → length (filter_map letter_weight bytes) ≤ length bytes → length (cons_option o (filter_map letter_weight bytes)) ≤ suc (length bytes)
    by_letter None few = omega arith
    by_letter (Some w) few = omega arith

weights-bits : (bytes : List ℕ) → All IsBit (weights bytes)
unfolding weights
weights-bits [] = All-nil IsBit
weights-bits (b ∷ bytes) = by_letter (letter_weight b) (letter-bit b) (weights-bits bytes)
  where
    by_letter : (o : Option ℕ) → ForSome o IsBit → All IsBit (filter_map letter_weight bytes) → All IsBit (cons_option o (filter_map letter_weight bytes))
    by_letter None is all = all
    by_letter (Some w) is all = All-cons IsBit w (filter_map letter_weight bytes) (is w refl) all

-- these bits with others, if they are all that there should be, none of them is taken and none comes twice
with_weights : ℕ → Bool → List ℕ → Option ℕ
with_weights bits known ws = if known && (are_clear bits ws && all_distinct ws) then Some (bits + sum_by (λ w. w) ws) else None

fewer : (n m : ℕ) → n ≤ m → (n == suc m) ≡ false
fewer n m few = grind (arith, nat_tests)

as_many : (n m : ℕ) → (suc n == suc m) ≡ (n == m)
as_many n m = grind (arith, nat_tests)

swapped : (a b c d : Bool) → (a && ((not b && c) && d)) ≡ (a && (c && (not b && d)))
swapped false b c d = refl
swapped true true true d = refl
swapped true true false d = refl
swapped true false true d = refl
swapped true false false d = refl

one_weight : (bits w : ℕ) (known : Bool) (ws : List ℕ) → IsBit w → All IsBit ws → (bits / w % 2 == 1) ≡ false → with_weights (bits + w) known ws ≡ with_weights bits known (w ∷ ws)
unfolding with_weights are_clear is_clear
one_weight bits w known ws is all clear =
    ap (λ v. if known && (v && all_distinct ws) then Some (bits + w + sum_by (λ w. w) ws) else None) (added bits w is clear ws all)
    ∙ ap (λ v. if v then Some (bits + w + sum_by (λ w. w) ws) else None) (swapped known (list_any (λ x. w == x) ws) (are_clear bits ws) (all_distinct ws))
    ∙ ap (λ m. if known && (are_clear bits ws && (not (list_any (λ x. w == x) ws) && all_distinct ws)) then Some m else None)
    (let e = sum_by-cons (λ (v : ℕ). v) w ws in let sum : bits + w + sum_by (λ w. w) ws ≡ bits + sum_by (λ w. w) (w ∷ ws) = omega arith in sum)
    ∙ ap (λ v. if known && ((not v && are_clear bits ws) && (not (list_any (λ x. w == x) ws) && all_distinct ws)) then Some (bits + sum_by (λ w. w) (w ∷ ws)) else None) (sym clear)

taken_twice : (bits w : ℕ) (known : Bool) (ws : List ℕ) → (bits / w % 2 == 1) ≡ true → with_weights bits known (w ∷ ws) ≡ None
unfolding with_weights are_clear is_clear
taken_twice bits w known ws taken =
    ap (λ v. if known && ((not v && list_all (λ x. is_clear bits x) ws) && all_distinct (w ∷ ws)) then Some (bits + sum_by (λ w. w) (w ∷ ws)) else None) taken
    ∙ never known
  where
    never : (test : Bool) → (if test && false then Some (bits + sum_by (λ w. w) (w ∷ ws)) else None) ≡ None
    never true = refl
    never false = refl

rights-added : (bits : ℕ) (bytes : List ℕ) → rights_from bits bytes ≡ with_weights bits (length (weights bytes) == length bytes) (weights bytes)
unfolding with_weights are_clear weights
rights-added bits [] = ap (λ m. Some m) (omega arith)
rights-added bits (b ∷ bytes) = by_letter (letter_weight b) (letter-bit b) (λ more. rights-added more bytes)
  where
    Rest : Type 0
    Rest = (more : ℕ) → rights_from more bytes ≡ with_weights more (length (weights bytes) == length bytes) (weights bytes)

    by_test : (w : ℕ) → IsBit w → Rest → (v : Bool) → (bits / w % 2 == 1) ≡ v
        → (if bits / w % 2 == 1 then None else rights_from (bits + w) bytes) ≡ with_weights bits (length (weights bytes) == length bytes) (w ∷ weights bytes)
    by_test w is rest true e = ap (λ v. if v then None else rights_from (bits + w) bytes) e ∙ sym (taken_twice bits w (length (weights bytes) == length bytes) (weights bytes) e)
    by_test w is rest false e =
        ap (λ v. if v then None else rights_from (bits + w) bytes) e ∙ rest (bits + w)
        ∙ one_weight bits w (length (weights bytes) == length bytes) (weights bytes) is (weights-bits bytes) e

    by_letter : (o : Option ℕ) → ForSome o IsBit → Rest
        → and_then o (λ weight. if bits / weight % 2 == 1 then None else rights_from (bits + weight) bytes) ≡ with_weights bits (length (cons_option o (weights bytes)) == suc (length bytes)) (cons_option o (weights bytes))
    by_letter None is rest = ap (λ known. with_weights bits known (weights bytes)) (sym (fewer (length (weights bytes)) (length bytes) (few_weights bytes)))
    by_letter (Some w) is rest =
        by_test w (is w refl) rest (bits / w % 2 == 1) refl
        ∙ ap (λ known. with_weights bits known (w ∷ weights bytes)) (sym (as_many (length (weights bytes)) (length bytes)))

all_clear_at_first : (ws : List ℕ) → All IsBit ws → are_clear 0 ws ≡ true
unfolding are_clear is_clear
all_clear_at_first [] all = refl
all_clear_at_first (w ∷ ws) all = rw (all_clear_at_first ws (All-tail IsBit w ws all)) (first w (All-head IsBit w ws all))
  where
    first : (w : ℕ) → IsBit w → (not (0 / w % 2 == 1) && true) ≡ true
    first w is = grind (arith, nat_tests)

pub rights_of-from : (word : List ℕ) → rights_of word ≡ (if is_some_word word then rights_from 0 word else None)
unfolding weights with_weights
rights_of-from [] = refl
rights_of-from (b ∷ word) =
    let ws = weights (b ∷ word) in
    ap (λ v. if length ws == length (b ∷ word) && (v && all_distinct ws) then Some (sum_by (λ w. w) ws) else None) (sym (all_clear_at_first ws (weights-bits (b ∷ word))))
    ∙ ap (λ n. if length ws == length (b ∷ word) && (are_clear 0 ws && all_distinct ws) then Some n else None) (let sum : sum_by (λ w. w) ws ≡ 0 + sum_by (λ w. w) ws = omega arith in sum)
    ∙ sym (rights-added 0 (b ∷ word))

-- from how many pages in use the step at a place holds, and its rate
abbrev pub from_at : List (ℕ × ℕ) → ℕ → ℕ
from_at steps k = (slice_index_or steps k (0, 0)).0

abbrev pub rate_at : List (ℕ × ℕ) → ℕ → ℕ
rate_at steps k = (slice_index_or steps k (0, 0)).1

-- the rule of a tariff of four steps, by their places
abbrev pub is_tariff_by_places : List (ℕ × ℕ) → Bool
is_tariff_by_places steps =
    (from_at steps 0 == 0 && nat_lt (from_at steps 0) (from_at steps 1) && nat_lt (from_at steps 1) (from_at steps 2) && nat_lt (from_at steps 2) (from_at steps 3) && nat_le (from_at steps 3) step_limit)
    && (nat_le (rate_at steps 0) step_limit && nat_le (rate_at steps 1) step_limit && nat_le (rate_at steps 2) step_limit && nat_le (rate_at steps 3) step_limit)

pub tariff_places : (steps : List (ℕ × ℕ)) → length steps ≡ 4 → is_tariff steps ≡ is_tariff_by_places steps
tariff_places [] four = absurd (omega arith)
tariff_places (a ∷ []) four = absurd (omega arith)
tariff_places (a ∷ b ∷ []) four = absurd (omega arith)
tariff_places (a ∷ b ∷ c ∷ []) four = absurd (omega arith)
tariff_places ((a, p) ∷ (b, q) ∷ (c, r) ∷ (d, s) ∷ []) four = refl
tariff_places (a ∷ b ∷ c ∷ d ∷ e ∷ steps) four = absurd (omega arith)
