-- Steps of a search through the entries of a capability list, and through a list.
use Rattle.mg_access.specs.{Searching.{entry_at, opens, slot_opens, words_based}, declared.lists.Sought.Sought}
use Rattle.{mg_disk.specs.declared.disk.Disk.Ghosts, mg_model.specs.{Abbreviations.pairs_from, Access.{at, capabilities, pairs_of, pairs_under}}}
use Rattle.{mg_model.specs.{Access.{holds, reaches}, State.{Object, State}, declared.slots.Slot.Slot}, mg_volume.specs.{Calls.Reads, Held.VolumeHeld}}
use Rattle.{mg_volume.specs.{Meaning.now_of, Pairs.IsNextPair}, std.proofs.Common.{ℕ, zero, suc, ◌+◌, ◌-◌, ◌*◌, ◌<◌, ◌≤◌, ◌≡◌, ◌≢◌, ◌||◌, ◌&&◌}}
use Rattle.std.proofs.Common.{slice_index, Bool, true, false, List, [], ◌∷◌, Option, None, Some, refl, sym, ap, subst, ◌∙◌, arith}
use Rattle.std.{proofs.lemmas.{Bool.{eq-eqb, ne_eqb}, List.Folds.list_any-append}, specs.{List.list_any, Option.{ForSome, option_map_or}}}
use Rattle.std.specs.Prelude.{flat_map}

pairs_from-next : (words : List ℕ) (j n : ℕ) → j < n → pairs_from words j (n - j) ≡ entry_at words j ∷ pairs_from words (j + 1) (n - (j + 1))
pairs_from-next words j n h = let e : n - j ≡ suc (n - (j + 1)) = omega arith in ap (λ k. pairs_from words j k) e

list_any-pairs_from : (test : ℕ × ℕ → Bool) (words : List ℕ) (j n : ℕ) → j < n
    → list_any test (pairs_from words j (n - j)) ≡ (test (entry_at words j) || list_any test (pairs_from words (j + 1) (n - (j + 1))))
list_any-pairs_from test words j n h = ap (λ entries. list_any test entries) (pairs_from-next words j n h)

-- an entry that passes ends the search
pub entry-hit : (test : ℕ × ℕ → Bool) (words : List ℕ) (j n : ℕ) → j < n → true ≡ test (entry_at words j)
    → list_any test (pairs_of words) ≡ list_any test (pairs_from words j (n - j)) → true ≡ list_any test (pairs_of words)
entry-hit test words j n h hit same =
    sym (same ∙ list_any-pairs_from test words j n h ∙ ap (λ v. v || list_any test (pairs_from words (j + 1) (n - (j + 1)))) (sym hit))

-- one that does not leaves the later ones
pub entry-miss : (test : ℕ × ℕ → Bool) (words : List ℕ) (j n : ℕ) → j < n → false ≡ test (entry_at words j)
    → list_any test (pairs_of words) ≡ list_any test (pairs_from words j (n - j))
    → list_any test (pairs_of words) ≡ list_any test (pairs_from words (j + 1) (n - (j + 1)))
entry-miss test words j n h miss same =
    same ∙ list_any-pairs_from test words j n h ∙ ap (λ v. v || list_any test (pairs_from words (j + 1) (n - (j + 1)))) (sym miss)

-- a run of entries of which none passes leaves the later ones
any-past : (test : ℕ × ℕ → Bool) (words : List ℕ) (from d n : ℕ) → from + d ≤ n → ((j : ℕ) → from ≤ j → j < from + d → test (entry_at words j) ≡ false)
    → list_any test (pairs_from words from (n - from)) ≡ list_any test (pairs_from words (from + d) (n - (from + d)))
any-past test words from zero n within none = let same : from ≡ from + 0 = omega arith in ap (λ k. list_any test (pairs_from words k (n - k))) same
any-past test words from (suc d) n within none =
    let next : from + d + 1 ≡ from + suc d = omega arith in
    any-past test words from d n (omega arith) (λ j least below. none j least (omega arith))
    ∙ list_any-pairs_from test words (from + d) n (omega arith)
    ∙ ap (λ v. v || list_any test (pairs_from words (from + d + 1) (n - (from + d + 1)))) (none (from + d) (omega arith) (omega arith))
    ∙ ap (λ k. list_any test (pairs_from words k (n - k))) next

-- the next entry for the object that is sought, from a place on where the search is
module _ (sought : Sought) (words : List ℕ) (from n : ℕ)
    (rest : list_any (λ entry. opens sought entry) (pairs_of words) ≡ list_any (λ entry. opens sought entry) (pairs_from words from (n - from))) where
  -- those before it are for other objects
  others-past : (k : ℕ) → from ≤ k → k ≤ n → ((j : ℕ) → from ≤ j → j < k → slice_index words (2 + 2 * j) ≢ sought.object.base)
      → list_any (λ entry. opens sought entry) (pairs_of words) ≡ list_any (λ entry. opens sought entry) (pairs_from words k (n - k))
  others-past k least most others =
      let place : from + (k - from) ≡ k = omega arith in
      rest
      ∙ any-past (λ entry. opens sought entry) words from (k - from) n (omega arith)
      (λ j low below. ap (λ v. v && holds sought.period sought.object (slice_index words (3 + 2 * j)) sought.right) (ne_eqb _ _ (others j low (omega arith))))
      ∙ ap (λ i. list_any (λ entry. opens sought entry) (pairs_from words i (n - i))) place

  -- it opens the object if its password does
  found-opens : (found : ℕ × ℕ) → IsNextPair (λ index. slice_index words index) from n sought.object.base (Some found) → opens sought (entry_at words found.0) ≡ holds sought.period sought.object found.1 sought.right
  found-opens found next =
      ap (λ v. v && holds sought.period sought.object (slice_index words (3 + 2 * found.0)) sought.right) (eq-eqb _ _ next.is.0)
      ∙ ap (λ password. holds sought.period sought.object password sought.right) next.is.1

  pub next-hit : (found : ℕ × ℕ) → (from ≤ found.0) × (found.0 < n) → IsNextPair (λ index. slice_index words index) from n sought.object.base (Some found) → true ≡ holds sought.period sought.object found.1 sought.right
      → true ≡ list_any (λ entry. opens sought entry) (pairs_of words)
  next-hit found (least, below) next opened =
      entry-hit (λ entry. opens sought entry) words found.0 n below (opened ∙ sym (found-opens found next)) (others-past found.0 least (omega arith) next.none_before)

  pub next-miss : (found : ℕ × ℕ) → (from ≤ found.0) × (found.0 < n) → IsNextPair (λ index. slice_index words index) from n sought.object.base (Some found) → false ≡ holds sought.period sought.object found.1 sought.right
      → list_any (λ entry. opens sought entry) (pairs_of words) ≡ list_any (λ entry. opens sought entry) (pairs_from words (found.0 + 1) (n - (found.0 + 1)))
  next-miss found (least, below) next shut =
      entry-miss (λ entry. opens sought entry) words found.0 n below (shut ∙ sym (found-opens found next)) (others-past found.0 least (omega arith) next.none_before)

  -- and there may be none
  pub next-none : from ≤ n → IsNextPair (λ index. slice_index words index) from n sought.object.base None → false ≡ list_any (λ entry. opens sought entry) (pairs_of words)
  next-none least next =
      let end : n - n ≡ 0 = omega arith in
      sym (others-past n least (omega arith) next.none_before ∙ ap (λ k. list_any (λ entry. opens sought entry) (pairs_from words n k)) end)

-- a search through lists of entries, one list after another
list_any-flat_map : {X Y : Type 0} (test : Y → Bool) (f : X → List Y) (xs : List X) → list_any test (flat_map f xs) ≡ list_any (λ x. list_any test (f x)) xs
list_any-flat_map test f [] = refl
list_any-flat_map test f (x ∷ xs) = list_any-append test (f x) (flat_map f xs) ∙ ap (λ b. list_any test (f x) || b) (list_any-flat_map test f xs)

-- what these slots reach, when the object is found
pub reaches-at : (state : State) (slots : List Slot) (address : ℕ) (sought : Sought) (object : Object) → at state.objects address ≡ Some object → object.row ≡ sought.object → state.counters.period ≡ sought.period
    → reaches state.objects state.counters.period slots address sought.right ≡ list_any (λ slot. slot_opens state sought slot) slots
reaches-at state slots address sought object e row period =
    ap (λ p. reaches state.objects p slots address sought.right) period
    ∙ ap (λ found. option_map_or (λ (o : Object). list_any (λ (entry : ℕ × ℕ). opens (record { object = o.row; right = sought.right; period = sought.period }) entry) (capabilities state.objects sought.period slots)) found false) e
    ∙ ap (λ r. list_any (λ (entry : ℕ × ℕ). opens (record { object = r; right = sought.right; period = sought.period }) entry) (capabilities state.objects sought.period slots)) row
    ∙ list_any-flat_map (λ entry. opens sought entry) (λ slot. pairs_under state.objects sought.period slot) slots

-- the next entry after a run of reads is the next one before it
pub entry_before : {D : Type 0} (facts : Ghosts D) (a b : VolumeHeld) (d e : D) (s t : ℕ) (list from n base : ℕ) (sought : Sought) (found found' : Option (ℕ × ℕ)) → Reads facts a b d e s t → base ≡ sought.object.base → found ≡ found'
    → ForSome (facts.seen e) (λ image. IsNextPair (λ index. slice_index (words_based (now_of b image).objects list) index) from n base found)
    → ForSome (facts.seen d) (λ image. IsNextPair (λ index. slice_index (words_based (now_of a image).objects list) index) from n sought.object.base found')
entry_before facts a b d e s t list from n base sought found found' run same is told image seen =
    subst (λ (state : State). IsNextPair (λ index. slice_index (words_based state.objects list) index) from n sought.object.base found') (run.keeps.now image)
    (subst (λ (first : ℕ). IsNextPair (λ index. slice_index (words_based (now_of b image).objects list) index) from n first found') same
    (subst (λ o. IsNextPair (λ index. slice_index (words_based (now_of b image).objects list) index) from n base o) is (told image (run.writes.same ∙ seen))))
