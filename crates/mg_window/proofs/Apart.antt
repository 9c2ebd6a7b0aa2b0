-- Lemmas: bases stay apart.
use Rattle.{mg_window.specs.Attached.{Listed, are_apart, is_at, is_there, without}, std.proofs.Common.{refl, sym, ap, ◌∙◌, ⊎_elim}}
use Rattle.std.proofs.lemmas.Bool.{and_from, and_parts, both_ways, cases_Bool, eq-eqb, ne_eqb, not_from_false, not-true, or_from, or_parts}
use Rattle.std.{proofs.lemmas.List.Folds.list_any-append, specs.Prelude.{◌≡◌, ◌==◌, ◌&&◌, ◌||◌, ◌∷◌, ◌++◌, [], ℕ, zero, suc, false, not}}
use Rattle.std.specs.Prelude.{slice_index_or, slice_set, true}

module _ {D : Type 0} where
  -- one more, at a base that is not there
  there-more : (windows : Listed D) (base : ℕ) (device : D) (other : ℕ) → is_there windows other ≡ false → (base == other) ≡ false → is_there (windows ++ (base, device) ∷ []) other ≡ false
  there-more windows base device other none apart =
      list_any-append (is_at other) windows ((base, device) ∷ []) ∙ or_from (is_there windows other) ((base == other) || false) none (or_from (base == other) false apart refl)

  pub apart_more : (windows : Listed D) (base : ℕ) (device : D) → is_there windows base ≡ false → are_apart windows ≡ true → are_apart (windows ++ (base, device) ∷ []) ≡ true
  apart_more [] base device new apart = refl
  apart_more ((first, held) ∷ windows) base device new apart =
      let parts = or_parts (first == base) (is_there windows base) new in
      let those = and_parts (not (is_there windows first)) (are_apart windows) apart in
      let other : (base == first) ≡ false = ne_eqb base first (λ is. both_ways (first == base) parts.0 (eq-eqb first base (sym is))) in
      and_from (not (is_there (windows ++ (base, device) ∷ []) first)) (are_apart (windows ++ (base, device) ∷ []))
      (not_from_false (is_there (windows ++ (base, device) ∷ []) first) (there-more windows base device first (not-true (is_there windows first) those.0) other))
      (apart_more windows base device parts.1 those.1)

  -- another device at its base
  there-set : (windows : Listed D) (i : ℕ) (window : ℕ × D) (device : D) (base : ℕ) → slice_index_or windows i window ≡ window → is_there (slice_set windows i (window.0, device)) base ≡ is_there windows base
  there-set [] i window device base read = refl
  there-set (w ∷ windows) zero window device base read = ap (λ (v : ℕ × D). v.0 == base || is_there windows base) (sym read)
  there-set (w ∷ windows) (suc i) window device base read = ap (λ t. w.0 == base || t) (there-set windows i window device base read)

  pub apart_set : (windows : Listed D) (i : ℕ) (window : ℕ × D) (device : D) → slice_index_or windows i window ≡ window → are_apart (slice_set windows i (window.0, device)) ≡ are_apart windows
  apart_set [] i window device read = refl
  apart_set ((first, held) ∷ windows) zero window device read = ap (λ (v : ℕ × D). not (is_there windows v.0) && are_apart windows) (sym read)
  apart_set ((first, held) ∷ windows) (suc i) window device read =
      ap (λ t. not t && are_apart (slice_set windows i (window.0, device))) (there-set windows i window device first read)
      ∙ ap (λ t. not (is_there windows first) && t) (apart_set windows i window device read)

  -- those at other bases
  there-without : (windows : Listed D) (base other : ℕ) → is_there windows other ≡ false → is_there (without windows base) other ≡ false
  there-without [] base other none = refl
  there-without ((first, held) ∷ windows) base other none = ⊎_elim (here (there-without windows base other)) (gone (there-without windows base other)) (cases_Bool (not (first == base)))
    where
      parts : ((first == other) ≡ false) × (is_there windows other ≡ false)
      parts = or_parts (first == other) (is_there windows other) none

      here : (is_there windows other ≡ false → is_there (without windows base) other ≡ false) → not (first == base) ≡ true → is_there (without ((first, held) ∷ windows) base) other ≡ false
      here rest stays =
          let is : without ((first, held) ∷ windows) base ≡ (first, held) ∷ without windows base = rw stays refl in
          ap (λ w. is_there w other) is ∙ or_from (first == other) (is_there (without windows base) other) parts.0 (rest parts.1)

      gone : (is_there windows other ≡ false → is_there (without windows base) other ≡ false) → not (first == base) ≡ false → is_there (without ((first, held) ∷ windows) base) other ≡ false
      gone rest goes = let is : without ((first, held) ∷ windows) base ≡ without windows base = rw goes refl in ap (λ w. is_there w other) is ∙ rest parts.1

  pub apart_without : (windows : Listed D) (base : ℕ) → are_apart windows ≡ true → are_apart (without windows base) ≡ true
  apart_without [] base apart = refl
  apart_without ((first, held) ∷ windows) base apart = ⊎_elim (here (apart_without windows base)) (gone (apart_without windows base)) (cases_Bool (not (first == base)))
    where
      parts : (not (is_there windows first) ≡ true) × (are_apart windows ≡ true)
      parts = and_parts (not (is_there windows first)) (are_apart windows) apart

      here : (are_apart windows ≡ true → are_apart (without windows base) ≡ true) → not (first == base) ≡ true → are_apart (without ((first, held) ∷ windows) base) ≡ true
      here rest stays =
          let is : without ((first, held) ∷ windows) base ≡ (first, held) ∷ without windows base = rw stays refl in
          ap are_apart is
          ∙ and_from (not (is_there (without windows base) first)) (are_apart (without windows base))
          (not_from_false (is_there (without windows base) first) (there-without windows base first (not-true (is_there windows first) parts.0)))
          (rest parts.1)

      gone : (are_apart windows ≡ true → are_apart (without windows base) ≡ true) → not (first == base) ≡ false → are_apart (without ((first, held) ∷ windows) base) ≡ true
      gone rest goes = let is : without ((first, held) ∷ windows) base ≡ without windows base = rw goes refl in ap are_apart is ∙ rest parts.1
