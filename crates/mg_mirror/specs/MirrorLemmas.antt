-- Lemmas on what such a disk gives, and on what a stop leaves of it.
use Rattle.std.proofs.{Common.{refl, sym, ap, ◌∙◌, subst, inl, inr, ⊎_elim, arith, min}, Math.Nat.min-le_left}
use Rattle.std.proofs.{Math.{Nat.min-eq_left, Seq.take-set-lt}, lemmas.{Bool.Decides.leb_tells, List.length-take}}
use Rattle.std.{proofs.lemmas.List.{get_or-take, get_or_past, Elements.All-take}, specs.{Option.ForSome, Prelude.◌≡◌}}
use Rattle.std.specs.Prelude.{◌⊎◌, ◌&&◌, ◌<◌, ◌≤◌, ℕ, Bool, IsTrue, true, false, List, [], length, take, Option, Some}
use Rattle.std.specs.Prelude.{None, option_map, slice_set}
use Rattle.mg_disk.specs.{BlockBytes.IsBytes, Disk.{Image, AreBytes, block_at, SameBut, SeenBut, OnlySeen}}
use Rattle.mg_mirror.specs.{Mirror.{CutOf, seen_of, told_cut}, declared.mirror.Side.{Side, TheVariants.{Left, Right}}}

-- both told, and the image is the first one's
pub record BothTold (n : ℕ) (l r : Option Image) (image : Image) : Type 0 where
  pub first : Image
  pub second : Image
  pub first_is : l ≡ Some first
  pub second_is : r ≡ Some second
  pub cut : image ≡ take n first

le_or_lt : (n k : ℕ) → (k < n) ⊎ (n ≤ k)
le_or_lt n k = ⊎_elim (λ t. inr t.1) (λ t. inl t.1) (leb_tells n k)

some_inj : {A : Type 0} (x y : A) → Some x ≡ Some y → y ≡ x
some_inj x y is = cc

none_some : {A : Type 0} (y : A) → None ≡ Some y → ⊥
none_some y is = cc

pub both_told : (n : ℕ) (l r : Option Image) (image : Image) → told_cut n l r ≡ Some image → BothTold n l r image
both_told n (Some x) (Some y) image is = record { first = x; second = y; first_is = refl; second_is = refl; cut = some_inj (take n x) image is }
both_told n (Some x) None image is = absurd (none_some image is)
both_told n None r image is = absurd (none_some image is)

-- a block of a cut image
pub cut_block : (n i : ℕ) (x : Image) → i < n → block_at (take n x) i ≡ block_at x i
cut_block n i x inside = get_or-take n x i [] inside

-- as much is told: what a call leaves of a side, whatever it answers
abbrev pub IsToldAs : Option Image → Option Image → Type 0
IsToldAs (Some x) (Some y) = Unit {0}
IsToldAs None None = Unit {0}
IsToldAs (Some x) None = ⊥
IsToldAs None (Some y) = ⊥

pub told_map : (f : Image → Image) (r r' : Option Image) → r' ≡ option_map f r → IsToldAs r r'
told_map f r r' is = subst (IsToldAs r) (sym is) (mapped r)
  where
    mapped : (r : Option Image) → IsToldAs r (option_map f r)
    mapped (Some x) = tt
    mapped None = tt

pub told_but : (places : ℕ → Type 0) (r r' : Option Image) → SeenBut places r r' → IsToldAs r r'
told_but places (Some x) (Some y) same = tt
told_but places None None same = tt
told_but places (Some x) None same = same
told_but places None (Some y) same = same

-- a write of the first is a write of what it gives, cut
pub cut_set : (n i : ℕ) (b : List ℕ) (l r l' r' : Option Image) → i < n → l' ≡ option_map (λ image. slice_set image i b) l → IsToldAs r r'
    → told_cut n l' r' ≡ option_map (λ image. slice_set image i b) (told_cut n l r)
cut_set n i b l r l' r' inside is like = ap (λ o. told_cut n o r') is ∙ by_cases l r r' like
  where
    by_cases : (l r r' : Option Image) → IsToldAs r r' → told_cut n (option_map (λ image. slice_set image i b) l) r' ≡ option_map (λ image. slice_set image i b) (told_cut n l r)
    by_cases (Some x) (Some y) (Some z) like = ap (λ o. Some o) (take-set-lt n x i b inside)
    by_cases (Some x) None None like = refl
    by_cases (Some x) (Some y) None like = absurd like
    by_cases (Some x) None (Some z) like = absurd like
    by_cases None r r' like = refl

-- images that are the same but at some places, cut
pub same_cut : (n : ℕ) (places : ℕ → Type 0) (x y : Image) → SameBut places x y → SameBut places (take n x) (take n y)
same_cut n places x y same = record { count = length-take n y ∙ ap (min n) same.count ∙ sym (length-take n x); others = others }
  where
    others : (k : ℕ) → (places k → ⊥) → block_at (take n y) k ≡ block_at (take n x) k
    others k out = ⊎_elim within past (le_or_lt n k)
      where
        within : k < n → block_at (take n y) k ≡ block_at (take n x) k
        within below = cut_block n k y below ∙ same.others k out ∙ sym (cut_block n k x below)

        past : n ≤ k → block_at (take n y) k ≡ block_at (take n x) k
        past above =
            get_or_past (take n y) k [] (omega (arith, length-take n y, min-le_left n (length y)))
            ∙ sym (get_or_past (take n x) k [] (omega (arith, length-take n x, min-le_left n (length x))))

-- a side that is at what it gives, while both are told
pub only_cut : (n : ℕ) (l r : Option Image) (images : Image → Type 0) (c : Image) → OnlySeen l images → (y : Image) → r ≡ Some y → CutOf n images c → told_cut n l r ≡ Some c
only_cut n l r images c only y told left =
    ap (λ o. told_cut n o r) (only left.whole left.is_one) ∙ ap (λ o. told_cut n (Some left.whole) o) told ∙ ap (λ x. Some x) (sym left.cut)

cut_long : (n lc : ℕ) (l r : Option Image) (image : Image) → n ≤ lc → ForSome l (λ x. length x ≡ lc) → told_cut n l r ≡ Some image → length image ≡ n
cut_long n lc l r image within long is =
    let b = both_told n l r image is in
    ap length b.cut ∙ length-take n b.first ∙ min-eq_left (let e = long b.first b.first_is in omega arith)

cut_bytes : (n : ℕ) (l r : Option Image) → ForSome l AreBytes → ForSome (told_cut n l r) AreBytes
cut_bytes n l r are image is =
    let b = both_told n l r image is in
    subst AreBytes (sym b.cut) (All-take IsBytes n b.first (are b.first b.first_is))

false_true : false ≡ true → ⊥
false_true is = cc

-- both sides have at least n blocks, so what reads give has n
pub seen_long : (n lc rc : ℕ) (alone : Option Side) (l r : Option Image) → n ≤ lc → n ≤ rc → ForSome l (λ x. length x ≡ lc) → ForSome r (λ x. length x ≡ rc)
    → ForSome (seen_of n alone l r) (λ x. length x ≡ n)
seen_long n lc rc None l r a b p q image is = cut_long n lc l r image a p is
seen_long n lc rc (Some Left) l r a b p q image is = cut_long n lc l r image a p is
seen_long n lc rc (Some Right) l r a b p q image is = cut_long n rc r l image b q is

-- what both sides give are bytes, and so are they cut
pub seen_bytes : (n : ℕ) (alone : Option Side) (l r : Option Image) → ForSome l AreBytes → ForSome r AreBytes → ForSome (seen_of n alone l r) AreBytes
seen_bytes n None l r p q = cut_bytes n l r p
seen_bytes n (Some Left) l r p q = cut_bytes n l r p
seen_bytes n (Some Right) l r p q = cut_bytes n r l q

-- what both sides tell is told
pub and_left : (a b : Bool) → IsTrue (a && b) → IsTrue a
and_left true b is = refl
and_left false b is = is

pub and_right : (a b : Bool) → IsTrue (a && b) → IsTrue b
and_right true b is = is
and_right false b is = absurd (false_true is)
