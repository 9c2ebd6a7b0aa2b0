-- Lemmas on what reads give before and after.
use Rattle.std.{proofs.Common.{refl, subst, sym}, specs.Prelude.{◌≡◌, ℕ, Option, None, Some, option_map}}
use Rattle.mg_disk.specs.{Disk.{Image, SameBut, SeenBut}, Reads.Becomes}

some_inj : (a b : Image) → Some a ≡ Some b → a ≡ b
some_inj a b is = cc

none_some : (a : Image) → ◌≡◌ {A = Option Image} None (Some a) → ⊥
none_some a is = cc

module _ (R : Image → Image → Type 0) where
  -- the image that reads gave, of one that they give
  pub becomes-of : (told now : Option Image) (b : Image) → Becomes R told now → now ≡ Some b → (a : Image) × (told ≡ Some a) × R a b
  becomes-of told None b is at = absurd (none_some b at)
  becomes-of None (Some y) b is at = absurd is
  becomes-of (Some x) (Some y) b is at = (x, refl, subst (R x) (some_inj y b at) is)

  -- the image that they give, of one that they gave
  pub becomes-to : (told now : Option Image) (a : Image) → Becomes R told now → told ≡ Some a → (b : Image) × (now ≡ Some b) × R a b
  becomes-to None now a is at = absurd (none_some a at)
  becomes-to (Some x) None a is at = absurd is
  becomes-to (Some x) (Some y) a is at = (y, refl, subst (λ i. R i y) (some_inj x a at) is)

  -- calls before or after it that change nothing
  pub becomes-after : (told mid now : Option Image) → mid ≡ told → Becomes R mid now → Becomes R told now
  becomes-after told mid now same = subst (λ o. Becomes R o now) same

  pub becomes-kept : (told mid now : Option Image) → now ≡ mid → Becomes R told mid → Becomes R told now
  becomes-kept told mid now same = subst (Becomes R told) (sym same)

  -- reads give what they gave
  pub becomes-same : (told now : Option Image) → now ≡ told → ((a : Image) → told ≡ Some a → R a a) → Becomes R told now
  becomes-same told now is same = subst (Becomes R told) (sym is) (itself told same)
    where
      itself : (o : Option Image) → ((a : Image) → o ≡ Some a → R a a) → Becomes R o o
      itself None each = tt
      itself (Some x) each = each x refl

  -- what reads give changed in one way
  pub becomes-changed : (change : Image → Image) (told now : Option Image) → now ≡ option_map change told → ((a : Image) → told ≡ Some a → R a (change a)) → Becomes R told now
  becomes-changed change told now is each = subst (Becomes R told) (sym is) (changed told each)
    where
      changed : (o : Option Image) → ((a : Image) → o ≡ Some a → R a (change a)) → Becomes R o (option_map change o)
      changed None all = tt
      changed (Some x) all = all x refl

module _ (R S : Image → Image → Type 0) where
  pub becomes-wider : (told now : Option Image) → ((a b : Image) → told ≡ Some a → now ≡ Some b → R a b → S a b) → Becomes R told now → Becomes S told now
  becomes-wider None None sub is = is
  becomes-wider None (Some y) sub is = is
  becomes-wider (Some x) None sub is = is
  becomes-wider (Some x) (Some y) sub is = sub x y refl refl is

  -- one after another
  pub becomes-then : (T : Image → Image → Type 0) (told mid now : Option Image) → ((a b c : Image) → told ≡ Some a → R a b → S b c → T a c) → Becomes R told mid → Becomes S mid now → Becomes T told now
  becomes-then T None None None join first second = tt
  becomes-then T None None (Some z) join first second = second
  becomes-then T None (Some y) now join first second = absurd first
  becomes-then T (Some x) None now join first second = absurd first
  becomes-then T (Some x) (Some y) None join first second = absurd second
  becomes-then T (Some x) (Some y) (Some z) join first second = join x y z refl first second

-- that only some places differ is one such relation
pub becomes-seen : (places : ℕ → Type 0) (told now : Option Image) → SeenBut places told now → Becomes (SameBut places) told now
becomes-seen places None None is = is
becomes-seen places None (Some y) is = is
becomes-seen places (Some x) None is = is
becomes-seen places (Some x) (Some y) is = is
