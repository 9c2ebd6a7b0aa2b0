-- A table and its pairs once the numbers of a range are released.
use Rattle.mg_index.proofs.{Bound.free-count, Lists.{cut-had, cut-keeps, cut-pairs, contains-at, length-cut}}
use Rattle.mg_index.specs.{DistinctLemmas.{distinct-released, within_or_not, zero-stays}, Pairs.{IsIndexed, Ascends, IsPart, IsBound, IsExact}}
use Rattle.{mg_index.specs.{Pairs.{NoneFree, free_count, freed}, Words.{is_within, unless_within}}, std.proofs.Common.{refl, sym, ap, ◌∙◌, subst}}
use Rattle.std.proofs.{Common.{inl, inr, ⊎_elim, arith, get_or, length-set, get_or-set_other, get_or-set_same}, lemmas.Bool.{and_from, cases_Bool}}
use Rattle.std.proofs.lemmas.{Bool.{cases_eq, cases_lt, false≢true, le-leb, lt-ltb}, List.{ext_get_or, get_or-map, length-map, Edits.get_or-between}}
use Rattle.std.{proofs.lemmas.List.{Edits.length-between, Elements.{All-head, All-tail}}, specs.List.{AllWithin, Contains, between, remove_range}}
use Rattle.std.specs.Prelude.{◌≡◌, ◌≢◌, ◌+◌, ◌-◌, ◌<◌, ◌≤◌, ◌⊎◌, if◌then◌else◌, ℕ, zero, suc, Bool, true, false, List, [], ◌∷◌, All, length, map}
use Rattle.std.specs.Prelude.{slice_set}

-- places that are freed one after another
pub length-freed : (numbers : List ℕ) (pairs : List (ℕ × ℕ)) → length (freed numbers pairs) ≡ length numbers
length-freed numbers [] = refl
length-freed numbers (pair ∷ pairs) = length-freed (slice_set numbers pair.1 0) pairs ∙ length-set numbers pair.1 0

still-free : (numbers : List ℕ) (i place : ℕ) → get_or numbers place 0 ≡ 0 → get_or (slice_set numbers i 0) place 0 ≡ 0
still-free [] i place free = refl
still-free (number ∷ numbers) zero zero free = refl
still-free (number ∷ numbers) zero (suc place) free = free
still-free (number ∷ numbers) (suc i) zero free = free
still-free (number ∷ numbers) (suc i) (suc place) free = still-free numbers i place free

freed-free : (numbers : List ℕ) (pairs : List (ℕ × ℕ)) (place : ℕ) → get_or numbers place 0 ≡ 0 → get_or (freed numbers pairs) place 0 ≡ 0
freed-free numbers [] place free = free
freed-free numbers (pair ∷ pairs) place free = freed-free (slice_set numbers pair.1 0) pairs place (still-free numbers pair.1 place free)

freed-here : (numbers : List ℕ) (pairs : List (ℕ × ℕ)) (k : ℕ) (d : ℕ × ℕ) → k < length pairs → (get_or pairs k d).1 < length numbers → get_or (freed numbers pairs) (get_or pairs k d).1 0 ≡ 0
freed-here numbers [] k d under within = absurd (omega arith)
freed-here numbers (pair ∷ pairs) zero d under within = freed-free (slice_set numbers pair.1 0) pairs pair.1 (get_or-set_same numbers pair.1 0 0 within)
freed-here numbers (pair ∷ pairs) (suc k) d under within = freed-here (slice_set numbers pair.1 0) pairs k d (omega arith) (omega (arith, length-set numbers pair.1 0))

freed-else : (numbers : List ℕ) (pairs : List (ℕ × ℕ)) (place : ℕ) → All (λ (pair : ℕ × ℕ). place ≢ pair.1) pairs → get_or (freed numbers pairs) place 0 ≡ get_or numbers place 0
freed-else numbers [] place other = refl
freed-else numbers (pair ∷ pairs) place other =
    freed-else (slice_set numbers pair.1 0) pairs place (All-tail (λ (pair : ℕ × ℕ). place ≢ pair.1) pair pairs other)
    ∙ get_or-set_other numbers pair.1 place 0 0 (All-head (λ (pair : ℕ × ℕ). place ≢ pair.1) pair pairs other)

freed-count : (numbers : List ℕ) (pairs : List (ℕ × ℕ)) → Ascends pairs → All (IsBound numbers) pairs → free_count (freed numbers pairs) ≡ free_count numbers + length pairs
freed-count numbers [] up bound = omega arith
freed-count numbers (pair ∷ pairs) up bound = go (freed-count (slice_set numbers pair.1 0) pairs rest_up rest_bound)
  where
    first : IsBound numbers pair
    first = All-head (IsBound numbers) pair pairs bound

    rest_up : Ascends pairs
    rest_up i j d before under = up (suc i) (suc j) d (omega arith) (omega arith)

    rest_bound : All (IsBound (slice_set numbers pair.1 0)) pairs
    rest_bound k d under =
        let old : IsBound numbers (get_or pairs k d) = bound (suc k) d (omega arith) in
        let rises : pair.0 < (get_or pairs k d).0 = up 0 (suc k) d (omega arith) (omega arith) in
        let other : (get_or pairs k d).1 ≢ pair.1 = λ is. absurd (let e : (get_or pairs k d).0 ≡ pair.0 = sym old.2 ∙ ap (λ f. get_or numbers f 0) is ∙ first.2 in omega arith) in
        (old.0, omega (arith, length-set numbers pair.1 0, old.1), get_or-set_other numbers pair.1 (get_or pairs k d).1 0 0 other ∙ old.2)

    go : free_count (freed (slice_set numbers pair.1 0) pairs) ≡ free_count (slice_set numbers pair.1 0) + length pairs → free_count (freed numbers (pair ∷ pairs)) ≡ free_count numbers + length (pair ∷ pairs)
    go rest = let more = free-count numbers pair.1 first.1 (λ is. first.0 (sym first.2 ∙ is)) in omega (arith, rest, more)

pub in-order :
    (pairs : List (ℕ × ℕ)) (first numbers from to : ℕ) → from ≤ length pairs → AllWithin (λ (pair : ℕ × ℕ). pair.0 < first) pairs 0 from
    → AllWithin (λ (pair : ℕ × ℕ). first + numbers ≤ pair.0) pairs to (length pairs) → from ≤ to
in-order pairs first numbers from to within before behind =
    ⊎_elim (λ late. absurd (let b = before to (0, 0) (omega arith) late in let h = behind to (0, 0) (omega arith) (omega arith) in omega arith)) (λ order. order) (cases_lt to from)

outside-same : (first numbers x : ℕ) → is_within first numbers x ≡ false → unless_within first numbers x ≡ x
outside-same first numbers x out = ap (λ (t : Bool). if t then 0 else x) out

inside-free : (first numbers x : ℕ) → is_within first numbers x ≡ true → unless_within first numbers x ≡ 0
inside-free first numbers x inside = ap (λ (t : Bool). if t then 0 else x) inside

module _ (numbers : List ℕ) (pairs : List (ℕ × ℕ)) (up : Ascends pairs) (exact : IsExact numbers pairs) (first count from to : ℕ) (part : IsPart pairs first count from to) where
  pub in_part : (k : ℕ) (d : ℕ × ℕ) → from ≤ k → k < to → is_within first count (get_or pairs k d).0 ≡ true
  in_part k d low high = grind (arith, and_from, first, le-leb, lt-ltb)

  pub out_part : (k : ℕ) (d : ℕ × ℕ) → k < length pairs → (k < from) ⊎ (to ≤ k) → is_within first count (get_or pairs k d).0 ≡ false
  out_part k d under outside = grind arith

  part_at : (k : ℕ) (d : ℕ × ℕ) → k < length (between from to pairs) → (from + k < to) × (get_or (between from to pairs) k d ≡ get_or pairs (from + k) d)
  part_at k d under = grind (arith, length-between, get_or-between)

  pub part_bound : All (IsBound numbers) (between from to pairs)
  part_bound k d under =
      let at = part_at k d under in
      let w = part.within in
      subst (λ (pair : ℕ × ℕ). IsBound numbers pair) (sym at.1) ((exact (get_or pairs (from + k) d)).0 (contains-at pairs (from + k) d (get_or pairs (from + k) d) (omega (arith, at.0)) refl))

  pub part_up : Ascends (between from to pairs)
  part_up i j d before under = grind (arith, length-between, part_at)

  -- the numbers of the part are in the range
  part_in : (place : ℕ) → is_within first count (get_or numbers place 0) ≡ false → All (λ (pair : ℕ × ℕ). place ≢ pair.1) (between from to pairs)
  part_in place out k d under is = grind (arith, part_at, part_bound, in_part, first)

  pub released_at : (place : ℕ) → place < length numbers → get_or (freed numbers (between from to pairs)) place 0 ≡ unless_within first count (get_or numbers place 0)
  released_at place under = ⊎_elim free bound (cases_eq (get_or numbers place 0) 0)
    where
      number : ℕ
      number = get_or numbers place 0

      free : get_or numbers place 0 ≡ 0 → get_or (freed numbers (between from to pairs)) place 0 ≡ unless_within first count (get_or numbers place 0)
      free is = freed-free numbers (between from to pairs) place is ∙ sym (ap (unless_within first count) is ∙ zero-stays first count)

      stays : is_within first count (get_or numbers place 0) ≡ false → get_or (freed numbers (between from to pairs)) place 0 ≡ unless_within first count (get_or numbers place 0)
      stays out = freed-else numbers (between from to pairs) place (part_in place out) ∙ sym (outside-same first count (get_or numbers place 0) out)

      goes : get_or numbers place 0 ≢ 0 → is_within first count (get_or numbers place 0) ≡ true → get_or (freed numbers (between from to pairs)) place 0 ≡ unless_within first count (get_or numbers place 0)
      goes some inside =
          let there = (exact (get_or numbers place 0, place)).1 (some, under, refl) in
          let here : get_or pairs there.0 (get_or numbers place 0, place) ≡ (get_or numbers place 0, place) = there.2 in
          let not_out : (there.0 < from) ⊎ (to ≤ there.0) → ⊥ =
          λ outside. false≢true (sym (out_part there.0 (get_or numbers place 0, place) there.1 outside) ∙ ap (λ (p : ℕ × ℕ). is_within first count p.0) here ∙ inside) in
          let low : from ≤ there.0 = ⊎_elim (λ l. absurd (not_out (inl l))) (λ l. l) (cases_lt there.0 from) in
          let high : there.0 < to = ⊎_elim (λ l. l) (λ l. absurd (not_out (inr l))) (cases_lt there.0 to) in
          let l = length-between pairs from to part.within in
          let e : from + (there.0 - from) ≡ there.0 = omega arith in
          let k : ℕ = there.0 - from in
          let at : get_or (between from to pairs) k (get_or numbers place 0, place) ≡ (get_or numbers place 0, place) =
          get_or-between pairs from to k (get_or numbers place 0, place) (omega arith) ∙ ap (λ n. get_or pairs n (get_or numbers place 0, place)) e ∙ here in
          let one : (get_or (between from to pairs) k (get_or numbers place 0, place)).1 ≡ place = ap (λ (p : ℕ × ℕ). p.1) at in
          ap (λ f. get_or (freed numbers (between from to pairs)) f 0) (sym one)
          ∙ freed-here numbers (between from to pairs) k (get_or numbers place 0, place) (omega arith) (omega arith)
          ∙ sym (inside-free first count (get_or numbers place 0) inside)

      bound : get_or numbers place 0 ≢ 0 → get_or (freed numbers (between from to pairs)) place 0 ≡ unless_within first count (get_or numbers place 0)
      bound some = ⊎_elim (goes some) stays (cases_Bool (is_within first count (get_or numbers place 0)))

  pub released : freed numbers (between from to pairs) ≡ map (unless_within first count) numbers
  released =
      let long = length-freed numbers (between from to pairs) in
      let mapped = length-map numbers (unless_within first count) in
      ext_get_or 0 (freed numbers (between from to pairs)) (map (unless_within first count) numbers) (omega arith)
      (λ place under.
      let u : place < length numbers = omega arith in
      released_at place u ∙ sym (get_or-map (unless_within first count) numbers place 0 0 u))

  exact_released : IsExact (map (unless_within first count) numbers) (remove_range pairs from to)
  exact_released pair = (here, there)
    where
      mapped : length (map (unless_within first count) numbers) ≡ length numbers
      mapped = length-map numbers (unless_within first count)

      here : Contains (remove_range pairs from to) pair → IsBound (map (unless_within first count) numbers) pair
      here had =
          let old = cut-had pairs from to pair part.order part.within had in
          let bound : IsBound numbers pair = (exact pair).0 (contains-at pairs old.0 pair pair old.1 old.2) in
          let out : is_within first count pair.0 ≡ false = ap (λ (p : ℕ × ℕ). is_within first count p.0) (sym old.2) ∙ out_part old.0 pair old.1 old.3 in
          (bound.0, omega (arith, mapped, bound.1), get_or-map (unless_within first count) numbers pair.1 0 0 bound.1 ∙ ap (unless_within first count) bound.2 ∙ outside-same first count pair.0 out)

      there : IsBound (map (unless_within first count) numbers) pair → Contains (remove_range pairs from to) pair
      there bound =
          let under : pair.1 < length numbers = omega (arith, mapped, bound.1) in
          let is : unless_within first count (get_or numbers pair.1 0) ≡ pair.0 = sym (get_or-map (unless_within first count) numbers pair.1 0 0 under) ∙ bound.2 in
          let number : get_or numbers pair.1 0 ≡ pair.0 = ⊎_elim (λ zero_is. absurd (bound.0 (sym is ∙ zero_is))) (λ same. sym same ∙ is) (within_or_not first count (get_or numbers pair.1 0)) in
          let had = (exact pair).1 (bound.0, under, number) in
          let never : is_within first count pair.0 ≡ true → ⊥ = λ inside. bound.0 (sym is ∙ ap (unless_within first count) number ∙ inside-free first count pair.0 inside) in
          let outside : (had.0 < from) ⊎ (to ≤ had.0) =
          ⊎_elim inl (λ low. ⊎_elim (λ high. absurd (never (ap (λ (p : ℕ × ℕ). is_within first count p.0) (sym had.2) ∙ in_part had.0 pair low high))) inr (cases_lt had.0 to)) (cases_lt had.0 from) in
          cut-keeps pairs from to had.0 pair part.order part.within had.1 had.2 outside

  count_released : length pairs + free_count numbers ≡ length numbers → length (remove_range pairs from to) + free_count (map (unless_within first count) numbers) ≡ length (map (unless_within first count) numbers)
  count_released count_is =
      let mapped = length-map numbers (unless_within first count) in
      let more = freed-count numbers (between from to pairs) part_up part_bound in
      let same = ap free_count released in
      let l = length-between pairs from to part.within in
      let c = length-cut pairs from to part.order part.within in
      let o = part.order in
      omega arith

  none_released : (low new : ℕ) → NoneFree numbers low → new ≤ low → low ≤ length numbers → All (λ (pair : ℕ × ℕ). new ≤ pair.1) (between from to pairs) → NoneFree (map (unless_within first count) numbers) new
  none_released low new none lower within lowest place under is = grind (arith, freed-else, released)

  pub released-places : (space low new : ℕ) → IsIndexed numbers pairs space low → new ≤ low → All (λ (pair : ℕ × ℕ). new ≤ pair.1) (between from to pairs) → IsIndexed (map (unless_within first count) numbers) (remove_range pairs from to) space new
  released-places space low new old lower lowest =
      let mapped = length-map numbers (unless_within first count) in
      record {
        distinct = distinct-released first count numbers old.distinct;
        few = omega arith;
        ascends = cut-pairs (λ (a b : ℕ × ℕ). a.0 < b.0) pairs from to part.order part.within old.ascends;
        exact = exact_released;
        count = count_released old.count;
        room = omega arith;
        within = omega arith;
        none_free = none_released low new old.none_free lower old.within lowest;
      }
