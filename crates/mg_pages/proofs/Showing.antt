-- A cache that shows other values than it has is searched, ordered and written to as a cache that has them.
use Rattle.{lru.specs.LruCache.{LruCache, lru_cache, promoted, put_entries}, mg_pages.{proofs.Looked.{look-put, look-set}, specs.Kept.KeepsThis}}
use Rattle.{mg_pages.specs.Kept.{kept_at, shown}, std.{proofs.{Common.{arith, refl, ap, subst, sym, ◌∙◌}, lemmas.List.take-map}, specs.Map.lookup}}
use Rattle.std.specs.{Map.{lookup_entry, remove_entry, set_value}, Option.option_map_or, Prelude.{◌≡◌, ℕ, Bool, true, false, cond, List, [], ◌∷◌}}
use Rattle.std.specs.Prelude.{Option, Some, None, option_map, nat_eq}

-- what is done in both arms is done after the test
within : {X Y : Type 0} (g : X → Y) (t : Bool) (a b : X) → cond t (g a) (g b) ≡ g (cond t a b)
within g true a b = refl
within g false a b = refl

module _ {V : Type 0} (f : V → List ℕ) where
  abbrev one : ℕ × V → ℕ × List ℕ
  one e = (e.0, f e.1)

  module _ (test : ℕ → Bool) where
    pub lookup-shown : (es : List (ℕ × V)) → lookup test (shown f es) ≡ option_map f (lookup test es)
    lookup-shown [] = refl
    lookup-shown (e ∷ es) = ap (λ o. cond (test e.0) (Some (f e.1)) o) (lookup-shown es) ∙ within (option_map f) (test e.0) (Some e.1) (lookup test es)

    entry-shown : (es : List (ℕ × V)) → lookup_entry test (shown f es) ≡ option_map one (lookup_entry test es)
    entry-shown [] = refl
    entry-shown (e ∷ es) = ap (λ o. cond (test e.0) (Some (one e)) o) (entry-shown es) ∙ within (option_map one) (test e.0) (Some e) (lookup_entry test es)

    removed-shown : (es : List (ℕ × V)) → remove_entry test (shown f es) ≡ shown f (remove_entry test es)
    removed-shown [] = refl
    removed-shown (e ∷ es) = ap (λ l. cond (test e.0) (shown f es) (one e ∷ l)) (removed-shown es) ∙ within (shown f) (test e.0) es (e ∷ remove_entry test es)

    pub set-shown : (es : List (ℕ × V)) (v : V) → set_value test (shown f es) (f v) ≡ shown f (set_value test es v)
    set-shown [] v = refl
    set-shown (e ∷ es) v = ap (λ l. cond (test e.0) ((e.0, f v) ∷ shown f es) (one e ∷ l)) (set-shown es v) ∙ within (shown f) (test e.0) ((e.0, v) ∷ es) (e ∷ set_value test es v)

    -- an entry that goes first, by whether it was found
    front : (o : Option (ℕ × V)) (rest es : List (ℕ × V))
        → option_map_or (λ (e : ℕ × List ℕ). e ∷ shown f rest) (option_map one o) (shown f es) ≡ shown f (option_map_or (λ (e : ℕ × V). e ∷ rest) o es)
    front None rest es = refl
    front (Some e) rest es = refl

    pub promoted-shown : (es : List (ℕ × V)) → promoted test (shown f es) ≡ shown f (promoted test es)
    promoted-shown es = grind (arith, removed-shown, entry-shown, front)

  -- a value that is added
  placed : (o : Option (ℕ × V)) (v : V) (rest es : List (ℕ × V))
      → option_map_or (λ (e : ℕ × List ℕ). (e.0, f v) ∷ shown f rest) (option_map one o) (shown f es) ≡ shown f (option_map_or (λ (e : ℕ × V). (e.0, v) ∷ rest) o es)
  placed None v rest es = refl
  placed (Some e) v rest es = refl

  pub put-shown : (c : LruCache ℕ V) (k : ℕ) (v : V) → put_entries nat_eq (lru_cache (shown f c.entries) c.cap) k (f v) ≡ shown f (put_entries nat_eq c k v)
  put-shown c k v = grind (arith, removed-shown, entry-shown, take-map, placed)

  -- what is kept of a block, by what a search of the cache found
  pub kept-found : (es : List (ℕ × V)) (k : ℕ) (v : V) → Some v ≡ lookup (nat_eq k) es → kept_at (shown f es) k ≡ Some (f v)
  kept-found es k v found = lookup-shown (nat_eq k) es ∙ ap (option_map f) (sym found)

  pub kept-none : (es : List (ℕ × V)) (k : ℕ) → None ≡ lookup (nat_eq k) es → kept_at (shown f es) k ≡ None
  kept-none es k none = lookup-shown (nat_eq k) es ∙ ap (option_map f) (sym none)

  -- a value that is written over, and one that is added
  pub written-shown : (es : List (ℕ × V)) (k : ℕ) (old new : V) → Some old ≡ lookup (nat_eq k) es
      → KeepsThis k (f new) (shown f es) (shown f (set_value (nat_eq k) (promoted (nat_eq k) es) new))
  written-shown es k old new found =
      subst (λ now. KeepsThis k (f new) (shown f es) now) (ap (λ l. set_value (nat_eq k) l (f new)) (promoted-shown (nat_eq k) es) ∙ set-shown (nat_eq k) (promoted (nat_eq k) es) new)
      (look-set (shown f es) k (f new) (f old) (kept-found es k old found))

  pub put-kept : (c : LruCache ℕ V) (k : ℕ) (v : V) → KeepsThis k (f v) (shown f c.entries) (shown f (put_entries nat_eq c k v))
  put-kept c k v = subst (λ now. KeepsThis k (f v) (shown f c.entries) now) (put-shown c k v) (look-put (lru_cache (shown f c.entries) c.cap) k (f v))
