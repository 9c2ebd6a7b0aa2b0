-- The texts of objects, each by its place, object by object.
use Rattle.{mg_model.specs.State.ObjectRow, mg_show.specs.Reached.by_place, std.proofs.Common.{◌≡◌, ℕ, suc, ◌+◌, ◌<◌, List, [], ◌∷◌, ◌++◌, flat_map}}
use Rattle.std.proofs.{Common.{length, take, sym, ap, refl, ◌∙◌, append_assoc, append-nil, arith, if◌then◌else◌}, lemmas.List.length-take}
use Rattle.std.{proofs.lemmas.List.take_more, specs.{List.HoldsAt, Prelude.{slice_index_or, Bool}}}

module _ {A : Type 0} (text : ℕ → ObjectRow → List A) where
  places-append : (j : ℕ) (xs ys : List (ℕ × ObjectRow)) → by_place text j (xs ++ ys) ≡ by_place text j xs ++ by_place text (j + length xs) ys
  places-append j [] ys = let e : j ≡ j + 0 = omega arith in ap (λ n. by_place text n ys) e
  places-append j (x ∷ xs) ys = grind (arith, (places-append (j + 1) xs ys), append_assoc)

  -- one object more
  pub places-more : (objects : List (ℕ × ObjectRow)) (i : ℕ) → i < length objects → (row : ObjectRow) → HoldsAt (λ (o : ℕ × ObjectRow). row ≡ o.1) objects i
      → by_place text 0 (take i objects) ++ text i row ≡ by_place text 0 (take (i + 1) objects)
  places-more objects i below row is =
      let o = slice_index_or objects i (0, row) in
      let e : 0 + length (take i objects) ≡ i = let l = length-take i objects in omega arith in
      ap (λ r. by_place text 0 (take i objects) ++ text i r) (is (0, row))
      ∙ ap (λ (rest : List A). by_place text 0 (take i objects) ++ rest) (sym (append-nil (text i o.1)))
      ∙ sym (ap (by_place text 0) (take_more objects i (0, row) below) ∙ places-append 0 (take i objects) (o ∷ []) ∙ ap (λ n. by_place text 0 (take i objects) ++ by_place text n (o ∷ [])) e)

  -- where the text by its place is a text of each object alone
  same_from : (own : ObjectRow → List A) (j : ℕ) (objects : List (ℕ × ObjectRow))
      → ((i : ℕ) → i < length objects → (d : ℕ × ObjectRow) → text (j + i) (slice_index_or objects i d).1 ≡ own (slice_index_or objects i d).1)
      → by_place text j objects ≡ flat_map (λ (o : ℕ × ObjectRow). own o.1) objects
  same_from own j [] are = refl
  same_from own j (o ∷ objects) are =
      let here = let e : j ≡ j + 0 = omega arith in ap (λ n. text n o.1) e ∙ are 0 (omega arith) o in
      let rest = same_from own (j + 1) objects (λ i below d. let e : j + 1 + i ≡ j + suc i = omega arith in ap (λ n. text n (slice_index_or objects i d).1) e ∙ are (suc i) (omega arith) d) in
      ap (λ (t : List A). t ++ by_place text (j + 1) objects) here ∙ ap (λ (t : List A). own o.1 ++ t) rest

  pub places-same : (own : ObjectRow → List A) (objects : List (ℕ × ObjectRow))
      → ((i : ℕ) → i < length objects → (d : ℕ × ObjectRow) → text i (slice_index_or objects i d).1 ≡ own (slice_index_or objects i d).1)
      → by_place text 0 objects ≡ flat_map (λ (o : ℕ × ObjectRow). own o.1) objects
  places-same own objects are = same_from own 0 objects (λ i below d. let e : 0 + i ≡ i = omega arith in ap (λ n. text n (slice_index_or objects i d).1) e ∙ are i below d)

-- one object more, whose text is there if it passes a test
pub places-next : {A : Type 0} (text : ℕ → ObjectRow → List A) (test : ℕ → Bool) (objects : List (ℕ × ObjectRow)) (i : ℕ) → i < length objects
    → (row : ObjectRow) → HoldsAt (λ (o : ℕ × ObjectRow). row ≡ o.1) objects i → (v : Bool) → v ≡ test i
    → by_place (λ i row. if test i then text i row else []) 0 (take i objects) ++ (if v then text i row else [])
    ≡ by_place (λ i row. if test i then text i row else []) 0 (take (i + 1) objects)
places-next text test objects i below row is v passes =
    ap (λ v. by_place (λ i row. if test i then text i row else []) 0 (take i objects) ++ (if v then text i row else [])) passes
    ∙ places-more (λ i row. if test i then text i row else []) objects i below row is
