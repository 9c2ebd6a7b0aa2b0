-- A table and its pairs: a look-up, a number that is bound, and numbers that are released.
use Rattle.mg_index.{proofs.Lists.{contains-at, insert-cases, insert-has, insert-keeps, insert-pairs}, specs.DistinctLemmas.distinct-free}
use Rattle.mg_index.specs.{DistinctLemmas.distinct-put, ListLemmas.rises-once, Pairs.{IsIndexed, Ascends, IsBound, IsExact, NoneFree, free_count}}
use Rattle.{mg_index.specs.PlaceLemmas.nowhere_any, std.proofs.Common.{refl, sym, ap, ◌∙◌, subst, cond, ⊎_elim, arith, get_or, drop, length-drop}}
use Rattle.std.proofs.{Common.{length-set, get_or-set_other, get_or-set_same}, lemmas.Bool.{both_ways, cases_eq, cases_lt, eq-eqb}}
use Rattle.std.proofs.lemmas.{Bool.{false_from_ne_true, false≢true, ne_eqb, lt-ltb}, List.{get_or-drop, get_or-replicate, length-replicate}}
use Rattle.std.proofs.lemmas.List.{Edits.length-insert, Elements.All-from_get_or, Folds.{list_any_at, list_any_none}, Quantifiers.position-Some}
use Rattle.std.{proofs.lemmas.List.Sums.{position_or_len_is, sum_by-cons, sum_by-set}, specs.List.{AllWithin, Contains, list_any, position}}
use Rattle.std.specs.Prelude.{◌≡◌, ◌≢◌, ◌+◌, ◌-◌, ◌<◌, ◌≤◌, ◌==◌, ℕ, zero, suc, Bool, true, false, List, [], Some, None, insert, length, replicate}
use Rattle.std.specs.Prelude.{slice_index, slice_set}

-- a number is in one place
pub one-place : (numbers : List ℕ) (pairs : List (ℕ × ℕ)) → Ascends pairs → IsExact numbers pairs → (number f g : ℕ) → IsBound numbers (number, f) → IsBound numbers (number, g) → f ≡ g
one-place numbers pairs up exact number f g at_f at_g =
    ap (λ (p : ℕ × ℕ). p.1) (rises-once (λ (p : ℕ × ℕ). p.0) pairs (number, f) (number, g) up ((exact (number, f)).1 at_f) ((exact (number, g)).1 at_g) refl)

-- the place of a number that has one
position-is : (p : ℕ → Bool) (xs : List ℕ) (i : ℕ) → i < length xs → p (get_or xs i 0) ≡ true → ((k : ℕ) → k < i → p (get_or xs k 0) ≡ false) → position p xs ≡ Some i
position-is p xs i under here before = grind (arith, position_or_len_is, lt-ltb)

pub place-found : (numbers : List ℕ) (pairs : List (ℕ × ℕ)) → Ascends pairs → IsExact numbers pairs → (pair : ℕ × ℕ) → Contains pairs pair → position (λ entry. entry == pair.0) numbers ≡ Some pair.1
place-found numbers pairs up exact pair there =
    position-is (λ entry. entry == pair.0) numbers pair.1 bound.1 (eq-eqb (get_or numbers pair.1 0) pair.0 bound.2)
    (λ k before. ne_eqb (get_or numbers k 0) pair.0 (λ is. absurd (let e = one-place numbers pairs up exact pair.0 k pair.1 (bound.0, omega (arith, bound.1), is) bound in omega arith)))
  where
    bound : IsBound numbers pair
    bound = (exact pair).0 there

-- a number that has none
none-there : (p : ℕ → Bool) (xs : List ℕ) → ((k : ℕ) → k < length xs → p (get_or xs k 0) ≡ false) → list_any p xs ≡ false
none-there p xs none = list_any_none p xs (All-from_get_or (λ x. p x ≡ false) xs 0 none)

pub place-not-found :
    (numbers : List ℕ) (pairs : List (ℕ × ℕ)) (number : ℕ) → number ≢ 0 → IsExact numbers pairs → ((k : ℕ) (d : ℕ × ℕ) → k < length pairs → (get_or pairs k d).0 ≢ number) → list_any (λ entry. entry == number) numbers ≡ false
place-not-found numbers pairs number some exact none =
    none-there (λ entry. entry == number) numbers
    (λ k under. ne_eqb (get_or numbers k 0) number (λ is. let there = (exact (number, k)).1 (some, under, is) in none there.0 (number, k) there.1 (ap (λ (p : ℕ × ℕ). p.0) there.2)))

-- numbers before a place are below a number, and those from there on are above it, if it is not at that place
pub nowhere-else :
    (pairs : List (ℕ × ℕ)) (number i : ℕ) → Ascends pairs → AllWithin (λ (pair : ℕ × ℕ). pair.0 < number) pairs 0 i → AllWithin (λ (pair : ℕ × ℕ). number ≤ pair.0) pairs i (length pairs)
    → ((d : ℕ × ℕ) → i < length pairs → (get_or pairs i d).0 ≢ number) → (k : ℕ) (d : ℕ × ℕ) → k < length pairs → (get_or pairs k d).0 ≢ number
nowhere-else pairs number i up low high other k d under is = grind (arith, cases_eq, cases_lt)

-- a number that is bound
set-count : (numbers : List ℕ) (place number : ℕ) → place < length numbers → number ≢ 0 → slice_index numbers place ≡ 0 → free_count (slice_set numbers place number) + 1 ≡ free_count numbers
set-count numbers place number under some free = grind (arith, sum_by-set, eq-eqb, ne_eqb)

pub free-count : (numbers : List ℕ) (place : ℕ) → place < length numbers → slice_index numbers place ≢ 0 → free_count (slice_set numbers place 0) ≡ free_count numbers + 1
free-count numbers place under bound = grind (arith, sum_by-set, ne_eqb)

exact-put :
    (numbers : List ℕ) (pairs : List (ℕ × ℕ)) (place number i : ℕ) → i ≤ length pairs → place < length numbers → number ≢ 0 → slice_index numbers place ≡ 0 → IsExact numbers pairs
    → IsExact (slice_set numbers place number) (insert pairs i (number, place))
exact-put numbers pairs place number i within under some free exact pair = (to, from)
  where
    long : length (slice_set numbers place number) ≡ length numbers
    long = length-set numbers place number

    now : IsBound (slice_set numbers place number) (number, place)
    now = (some, omega (arith, long), get_or-set_same numbers place number 0 under)

    kept : IsBound numbers pair → IsBound (slice_set numbers place number) pair
    kept bound = grind (arith, long, get_or-set_other)

    to : Contains (insert pairs i (number, place)) pair → IsBound (slice_set numbers place number) pair
    to there = ⊎_elim (λ new. subst (λ (p : ℕ × ℕ). IsBound (slice_set numbers place number) p) new now) (λ old. kept ((exact pair).0 old)) (insert-cases pairs i (number, place) pair there)

    from : IsBound (slice_set numbers place number) pair → Contains (insert pairs i (number, place)) pair
    from bound =
        ⊎_elim
        (λ is.
        let e : number ≡ pair.0 = sym (get_or-set_same numbers place number 0 under) ∙ sym (ap (λ k. get_or (slice_set numbers place number) k 0) is) ∙ bound.2 in
        let new : (number, place) ≡ pair = ap (λ n. (n, place)) e ∙ ap (λ m. (pair.0, m)) (sym is) in
        subst (λ (p : ℕ × ℕ). Contains (insert pairs i (number, place)) p) new (insert-has pairs i (number, place)))
        (λ other.
        let l = bound.1 in
        insert-keeps pairs i (number, place) pair ((exact pair).1 (bound.0, omega (arith, long), sym (get_or-set_other numbers place pair.1 number 0 other) ∙ bound.2)))
        (cases_eq pair.1 place)

-- what is bound nowhere
any-not : (p : ℕ → Bool) (xs : List ℕ) → list_any p xs ≡ false → (k : ℕ) → k < length xs → p (get_or xs k 0) ≡ false
any-not p xs none k under = false_from_ne_true (p (get_or xs k 0)) (λ is. both_ways (list_any p xs) none (list_any_at p xs k 0 under is))

unbound-not : (numbers : List ℕ) (number : ℕ) → list_any (λ entry. entry == number) numbers ≡ false → (pair : ℕ × ℕ) → IsBound numbers pair → pair.0 ≢ number
unbound-not numbers number none pair bound is = grind (arith, any-not, eq-eqb)

-- a number that is entered in a place
pub put-places :
    (numbers : List ℕ) (pairs : List (ℕ × ℕ)) (space more low place number i : ℕ) → IsIndexed numbers pairs space low → space ≤ more → i ≤ length pairs
    → AllWithin (λ (pair : ℕ × ℕ). pair.0 < number) pairs 0 i → AllWithin (λ (pair : ℕ × ℕ). number ≤ pair.0) pairs i (length pairs)
    → place < length numbers → number ≢ 0 → slice_index numbers place ≡ 0 → list_any (λ entry. entry == number) numbers ≡ false
    → IsIndexed (slice_set numbers place number) (insert pairs i (number, place)) more low
put-places numbers pairs space more low place number i old room within before behind under some free none =
    let long = length-set numbers place number in
    let l = length-insert pairs i (number, place) within in
    let c = set-count numbers place number under some free in
    let few = old.few in
    let count_is = old.count in
    let had = old.room in
    let low_in = old.within in
    record {
      distinct = distinct-put numbers place number some none old.distinct;
      few = omega arith;
      ascends =
          insert-pairs (λ (a b : ℕ × ℕ). a.0 < b.0) pairs i (number, place) within old.ascends (λ k d below. before k d (omega arith) below)
          (λ k d above inside.
          let other = unbound-not numbers number none (get_or pairs k d) ((old.exact (get_or pairs k d)).0 (contains-at pairs k d (get_or pairs k d) inside refl)) in
          let b = behind k d above inside in
          omega arith);
      exact = exact-put numbers pairs place number i within under some free old.exact;
      count = omega arith;
      room = omega arith;
      within = omega arith;
      none_free =
          λ k below is.
          ⊎_elim (λ same. some (sym (get_or-set_same numbers place number 0 under) ∙ sym (ap (λ n. get_or (slice_set numbers place number) n 0) same) ∙ is))
          (λ other. old.none_free k below (sym (get_or-set_other numbers place k number 0 other) ∙ is)) (cases_eq k place);
    }

-- one pair is missing as long as a place is free
pub has-room : (numbers : List ℕ) (pairs : List (ℕ × ℕ)) (space low place : ℕ) → IsIndexed numbers pairs space low → place < length numbers → slice_index numbers place ≡ 0 → length pairs < space
has-room numbers pairs space low place old under free =
    let count_is = old.count in
    let had = old.room in
    let c = sum_by-set (λ (x : ℕ). cond (x == 0) 1 0) numbers place 1 0 under in
    let was : cond {A = ℕ} (get_or numbers place 0 == 0) 1 0 ≡ 1 = ap (λ (b : Bool). cond {A = ℕ} b 1 0) (eq-eqb (get_or numbers place 0) 0 free) in
    omega arith

-- no number is bound yet
free-all : (n : ℕ) → free_count (replicate n 0) ≡ n
free-all zero = refl
free-all (suc n) = let s = sum_by-cons (λ (x : ℕ). cond (x == 0) 1 0) 0 (replicate n 0) in let e = free-all n in omega arith

pub new-places : (n space : ℕ) → n ≤ 65536 → n ≤ space → IsIndexed (replicate n 0) [] space 0
new-places n space few room = grind (arith, length-replicate, free-all, distinct-free, get_or-replicate)

-- the lowest free place
pub lowest-from : (numbers : List ℕ) (low n : ℕ) → NoneFree numbers low → position (λ entry. entry == 0) (drop low numbers) ≡ Some n → position (λ entry. entry == 0) numbers ≡ Some (low + n)
lowest-from numbers low n none is =
    let at = position-Some (λ entry. entry == 0) (drop low numbers) n 0 is in
    let d = length-drop low numbers in
    position-is (λ entry. entry == 0) numbers (low + n) (omega (arith, at.0)) (ap (λ x. x == 0) (sym (get_or-drop low numbers n 0)) ∙ at.1)
    (λ k before. ⊎_elim (λ below. ne_eqb (get_or numbers k 0) 0 (none k below))
    (λ above.
    let e : low + (k - low) ≡ k = omega arith in
    ap (λ x. x == 0) (sym (ap (λ m. get_or numbers m 0) e) ∙ sym (get_or-drop low numbers (k - low) 0)) ∙ at.2 (k - low) (omega arith)) (cases_lt k low))

pub none-free : (numbers : List ℕ) (low : ℕ) → NoneFree numbers low → position (λ entry. entry == 0) (drop low numbers) ≡ None → list_any (λ entry. entry == 0) numbers ≡ false
none-free numbers low none is =
    none-there (λ entry. entry == 0) numbers
    (λ k under. ⊎_elim (λ below. ne_eqb (get_or numbers k 0) 0 (none k below))
    (λ above.
    let e : low + (k - low) ≡ k = omega arith in
    let d = length-drop low numbers in
    ap (λ x. x == 0) (sym (ap (λ m. get_or numbers m 0) e) ∙ sym (get_or-drop low numbers (k - low) 0))
    ∙ any-not (λ entry. entry == 0) (drop low numbers) (nowhere_any (λ entry. entry == 0) (drop low numbers) is) (k - low) (omega arith)) (cases_lt k low))

-- once the lowest free place is bound, the bound is after it
pub bound-above :
    (was numbers : List ℕ) (pairs : List (ℕ × ℕ)) (space low place number : ℕ) → IsIndexed numbers pairs space low → position (λ entry. entry == 0) was ≡ Some place → numbers ≡ slice_set was place number → number ≢ 0 → IsIndexed numbers pairs space (place + 1)
bound-above was numbers pairs space low place number now is put some =
    let at = position-Some (λ entry. entry == 0) was place 0 is in
    let long = ap length put ∙ length-set was place number in
    record {
      distinct = now.distinct;
      few = now.few;
      ascends = now.ascends;
      exact = now.exact;
      count = now.count;
      room = now.room;
      within = omega (arith, at.0);
      none_free =
          λ k below free.
          let was_free : get_or (slice_set was place number) k 0 ≡ 0 = sym (ap (λ xs. get_or xs k 0) put) ∙ free in
          ⊎_elim (λ same. some (sym (get_or-set_same was place number 0 at.0) ∙ sym (ap (λ n. get_or (slice_set was place number) n 0) same) ∙ was_free))
          (λ other. false≢true (sym (at.2 k (omega arith)) ∙ eq-eqb (get_or was k 0) 0 (sym (get_or-set_other was place k number 0 other) ∙ was_free))) (cases_eq k place);
    }
