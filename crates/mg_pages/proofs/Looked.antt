-- What is kept of a block once a cache has moved, removed or added an entry.
use Rattle.{lru.specs.LruCache.{LruCache, promoted, put_entries}, mg_pages.specs.Kept.{KeepsThis, kept_at}, std.proofs.Common.{arith, refl, sym, ap}}
use Rattle.std.{proofs.{Common.{◌∙◌, ⊎_elim, inl, inr}, lemmas.Bool.{both_ways, cases_Bool, eq-eqb, eqb-true, false≢true}}, specs.Map.lookup}
use Rattle.std.specs.{Map.{lookup_entry, remove_entry, set_value}, Option.option_map_or, Prelude.{◌≡◌, ◌≢◌, ◌⊎◌, ◌-◌, ℕ, zero, suc, true, false}}
use Rattle.std.specs.Prelude.{cond, List, [], ◌∷◌, take, Option, Some, None, IsSome, is_some, nat_eq}

look-here : (i x : ℕ) (b : List ℕ) (es : List (ℕ × List ℕ)) → nat_eq i x ≡ true → lookup (nat_eq i) ((x, b) ∷ es) ≡ Some b
look-here i x b es is = ap (λ t. cond t (Some b) (lookup (nat_eq i) es)) is

look-there : (i x : ℕ) (b : List ℕ) (es : List (ℕ × List ℕ)) → nat_eq i x ≡ false → lookup (nat_eq i) ((x, b) ∷ es) ≡ lookup (nat_eq i) es
look-there i x b es is = ap (λ t. cond t (Some b) (lookup (nat_eq i) es)) is

entry-here : (i x : ℕ) (b : List ℕ) (es : List (ℕ × List ℕ)) → nat_eq i x ≡ true → lookup_entry (nat_eq i) ((x, b) ∷ es) ≡ Some (x, b)
entry-here i x b es is = ap (λ t. cond t (Some (x, b)) (lookup_entry (nat_eq i) es)) is

entry-there : (i x : ℕ) (b : List ℕ) (es : List (ℕ × List ℕ)) → nat_eq i x ≡ false → lookup_entry (nat_eq i) ((x, b) ∷ es) ≡ lookup_entry (nat_eq i) es
entry-there i x b es is = ap (λ t. cond t (Some (x, b)) (lookup_entry (nat_eq i) es)) is

gone-here : (i x : ℕ) (b : List ℕ) (es : List (ℕ × List ℕ)) → nat_eq i x ≡ true → remove_entry (nat_eq i) ((x, b) ∷ es) ≡ es
gone-here i x b es is = ap (λ t. cond t es ((x, b) ∷ remove_entry (nat_eq i) es)) is

gone-there : (i x : ℕ) (b : List ℕ) (es : List (ℕ × List ℕ)) → nat_eq i x ≡ false → remove_entry (nat_eq i) ((x, b) ∷ es) ≡ (x, b) ∷ remove_entry (nat_eq i) es
gone-there i x b es is = ap (λ t. cond t es ((x, b) ∷ remove_entry (nat_eq i) es)) is

-- an entry that is taken out leaves what is kept of the other blocks
pub look-removed : (es : List (ℕ × List ℕ)) (k j : ℕ) → j ≢ k → lookup (nat_eq j) (remove_entry (nat_eq k) es) ≡ lookup (nat_eq j) es
look-removed [] k j other = refl
look-removed ((x, b) ∷ es) k j other = ⊎_elim here (there (look-removed es k j other)) (cases_Bool (nat_eq k x))
  where
    here : nat_eq k x ≡ true → lookup (nat_eq j) (remove_entry (nat_eq k) ((x, b) ∷ es)) ≡ lookup (nat_eq j) ((x, b) ∷ es)
    here is = grind (arith, eqb-true, gone-here, look-there, cases_Bool)

    there : lookup (nat_eq j) (remove_entry (nat_eq k) es) ≡ lookup (nat_eq j) es → nat_eq k x ≡ false → lookup (nat_eq j) (remove_entry (nat_eq k) ((x, b) ∷ es)) ≡ lookup (nat_eq j) ((x, b) ∷ es)
    there rest is = ap (lookup (nat_eq j)) (gone-there k x b es is) ∙ ap (λ o. cond (nat_eq j x) (Some b) o) rest

-- the entry that a search finds
look-entry : (es : List (ℕ × List ℕ)) (k x : ℕ) (b : List ℕ) → lookup_entry (nat_eq k) es ≡ Some (x, b) → (k ≡ x) × (lookup (nat_eq k) es ≡ Some b)
look-entry [] k x b is = cc
look-entry ((y, c) ∷ es) k x b is = ⊎_elim here (there (look-entry es k x b)) (cases_Bool (nat_eq k y))
  where
    first : {X : Type 0} (u v : X) → Some u ≡ Some v → u ≡ v
    first u v same = cc

    here : nat_eq k y ≡ true → (k ≡ x) × (lookup (nat_eq k) ((y, c) ∷ es) ≡ Some b)
    here at = grind (arith, first, entry-here, eqb-true, look-here)

    there : (lookup_entry (nat_eq k) es ≡ Some (x, b) → (k ≡ x) × (lookup (nat_eq k) es ≡ Some b)) → nat_eq k y ≡ false → (k ≡ x) × (lookup (nat_eq k) ((y, c) ∷ es) ≡ Some b)
    there rest at = grind (arith, entry-there, look-there)

look-none : (es : List (ℕ × List ℕ)) (k : ℕ) → lookup_entry (nat_eq k) es ≡ None → lookup (nat_eq k) es ≡ None
look-none [] k is = refl
look-none ((y, c) ∷ es) k is = ⊎_elim here (there (look-none es k)) (cases_Bool (nat_eq k y))
  where
    some-none : (e : ℕ × List ℕ) → Some e ≡ None → ⊥
    some-none e same = cc

    here : nat_eq k y ≡ true → lookup (nat_eq k) ((y, c) ∷ es) ≡ None
    here at = absurd (some-none (y, c) (sym (entry-here k y c es at) ∙ is))

    there : (lookup_entry (nat_eq k) es ≡ None → lookup (nat_eq k) es ≡ None) → nat_eq k y ≡ false → lookup (nat_eq k) ((y, c) ∷ es) ≡ None
    there rest at = look-there k y c es at ∙ rest (sym (entry-there k y c es at) ∙ is)

-- an entry that goes first leaves what is kept
module _ (es : List (ℕ × List ℕ)) (k i : ℕ) where
  moved : (o : Option (ℕ × List ℕ)) → lookup_entry (nat_eq k) es ≡ o → lookup (nat_eq i) (option_map_or (λ (e : ℕ × List ℕ). e ∷ remove_entry (nat_eq k) es) o es) ≡ lookup (nat_eq i) es
  moved None is = refl
  moved (Some (x, b)) is = ⊎_elim here there (cases_Bool (nat_eq i x))
    where
      found : (k ≡ x) × (lookup (nat_eq k) es ≡ Some b)
      found = look-entry es k x b is

      here : nat_eq i x ≡ true → lookup (nat_eq i) ((x, b) ∷ remove_entry (nat_eq k) es) ≡ lookup (nat_eq i) es
      here at = look-here i x b (remove_entry (nat_eq k) es) at ∙ sym found.1 ∙ ap (λ n. lookup (nat_eq n) es) (found.0 ∙ sym (eqb-true i x at))

      there : nat_eq i x ≡ false → lookup (nat_eq i) ((x, b) ∷ remove_entry (nat_eq k) es) ≡ lookup (nat_eq i) es
      there at = grind (arith, look-there, look-removed, both_ways, eq-eqb, found)

  pub look-promoted : kept_at (promoted (nat_eq k) es) i ≡ kept_at es i
  look-promoted = moved (lookup_entry (nat_eq k) es) refl

-- what is kept of the first entries was kept
pub look-taken : (n : ℕ) (es : List (ℕ × List ℕ)) (i : ℕ) (b : List ℕ) → lookup (nat_eq i) (take n es) ≡ Some b → lookup (nat_eq i) es ≡ Some b
look-taken zero es i b is = cc
look-taken (suc n) [] i b is = is
look-taken (suc n) ((x, c) ∷ es) i b is = ⊎_elim here (there (look-taken n es i b)) (cases_Bool (nat_eq i x))
  where
    here : nat_eq i x ≡ true → lookup (nat_eq i) ((x, c) ∷ es) ≡ Some b
    here at = look-here i x c es at ∙ sym (look-here i x c (take n es) at) ∙ is

    there : (lookup (nat_eq i) (take n es) ≡ Some b → lookup (nat_eq i) es ≡ Some b) → nat_eq i x ≡ false → lookup (nat_eq i) ((x, c) ∷ es) ≡ Some b
    there rest at = look-there i x c es at ∙ rest (sym (look-there i x c (take n es) at) ∙ is)

-- a block is added
module _ (c : LruCache ℕ (List ℕ)) (k : ℕ) (bytes : List ℕ) where
  some_same : (x y : List ℕ) → Some x ≡ Some y → x ≡ y
  some_same x y is = cc

  none_some : (x : List ℕ) → None ≡ Some x → ⊥
  none_some x is = cc

  abbrev after : Option (ℕ × List ℕ) → List (ℕ × List ℕ)
  after o = option_map_or (λ (e : ℕ × List ℕ). (e.0, bytes) ∷ remove_entry (nat_eq k) c.entries) o ((k, bytes) ∷ take (c.cap - 1) c.entries)

  put-cases : (o : Option (ℕ × List ℕ)) → lookup_entry (nat_eq k) c.entries ≡ o → KeepsThis k bytes c.entries (after o)
  put-cases None is i b found = ⊎_elim here there (cases_Bool (nat_eq i k))
    where
      here : nat_eq i k ≡ true → ((i ≡ k) × (b ≡ bytes)) ⊎ ((i ≢ k) × (kept_at c.entries i ≡ Some b))
      here at = inl (eqb-true i k at, some_same b bytes (sym found ∙ look-here i k bytes (take (c.cap - 1) c.entries) at))

      there : nat_eq i k ≡ false → ((i ≡ k) × (b ≡ bytes)) ⊎ ((i ≢ k) × (kept_at c.entries i ≡ Some b))
      there at = grind (arith, both_ways, eq-eqb, look-taken, look-there, found)
  put-cases (Some (x, old)) is i b found = ⊎_elim here there (cases_Bool (nat_eq i x))
    where
      was : (k ≡ x) × (lookup (nat_eq k) c.entries ≡ Some old)
      was = look-entry c.entries k x old is

      here : nat_eq i x ≡ true → ((i ≡ k) × (b ≡ bytes)) ⊎ ((i ≢ k) × (kept_at c.entries i ≡ Some b))
      here at = inl (eqb-true i x at ∙ sym was.0, some_same b bytes (sym found ∙ look-here i x bytes (remove_entry (nat_eq k) c.entries) at))

      there : nat_eq i x ≡ false → ((i ≡ k) × (b ≡ bytes)) ⊎ ((i ≢ k) × (kept_at c.entries i ≡ Some b))
      there at =
          let apart : i ≢ k = λ same. both_ways (nat_eq i x) at (eq-eqb i x (same ∙ was.0)) in
          inr (apart, sym (look-removed c.entries k i apart) ∙ sym (look-there i x bytes (remove_entry (nat_eq k) c.entries) at) ∙ found)

  pub look-put : KeepsThis k bytes c.entries (put_entries nat_eq c k bytes)
  look-put = put-cases (lookup_entry (nat_eq k) c.entries) refl

  -- when adding it is refused, nothing was kept of it
  pub look-refused : lookup (nat_eq k) c.entries ≡ None → KeepsThis k bytes c.entries c.entries
  look-refused none i b found = inr ((λ same. none_some b (sym none ∙ ap (λ n. lookup (nat_eq n) c.entries) (sym same) ∙ found)), found)

-- a block that is kept is written over
module _ (es : List (ℕ × List ℕ)) (k : ℕ) (bytes : List ℕ) where
  first-same : (x y : List ℕ) → Some x ≡ Some y → x ≡ y
  first-same x y is = cc

  set-cases : (o : Option (ℕ × List ℕ)) → IsSome (lookup (nat_eq k) es) → lookup_entry (nat_eq k) es ≡ o → KeepsThis k bytes es (set_value (nat_eq k) (option_map_or (λ (e : ℕ × List ℕ). e ∷ remove_entry (nat_eq k) es) o es) bytes)
  set-cases None found is = absurd (false≢true (ap is_some (sym (look-none es k is)) ∙ found))
  set-cases (Some (x, old)) found is = written-first
    where
      was : (k ≡ x) × (lookup (nat_eq k) es ≡ Some old)
      was = look-entry es k x old is

      written-first : KeepsThis k bytes es (set_value (nat_eq k) ((x, old) ∷ remove_entry (nat_eq k) es) bytes)
      written-first i b now = ⊎_elim here there (cases_Bool (nat_eq i x))
        where
          set : lookup (nat_eq i) ((x, bytes) ∷ remove_entry (nat_eq k) es) ≡ Some b
          set = ap (λ t. lookup (nat_eq i) (cond t ((x, bytes) ∷ remove_entry (nat_eq k) es) ((x, old) ∷ set_value (nat_eq k) (remove_entry (nat_eq k) es) bytes))) (sym (eq-eqb k x was.0)) ∙ now

          here : nat_eq i x ≡ true → ((i ≡ k) × (b ≡ bytes)) ⊎ ((i ≢ k) × (kept_at es i ≡ Some b))
          here at = inl (eqb-true i x at ∙ sym was.0, first-same b bytes (sym set ∙ look-here i x bytes (remove_entry (nat_eq k) es) at))

          there : nat_eq i x ≡ false → ((i ≡ k) × (b ≡ bytes)) ⊎ ((i ≢ k) × (kept_at es i ≡ Some b))
          there at = grind (arith, both_ways, eq-eqb, was, look-removed, look-there, set)

  pub look-set : (old : List ℕ) → lookup (nat_eq k) es ≡ Some old → KeepsThis k bytes es (set_value (nat_eq k) (promoted (nat_eq k) es) bytes)
  look-set old found = set-cases (lookup_entry (nat_eq k) es) (ap is_some found) refl
