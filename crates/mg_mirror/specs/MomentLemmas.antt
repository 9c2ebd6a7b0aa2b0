-- Time passes for a mirror when it passes for its sides.
use Rattle.std.{proofs.Common.{refl, sym, ◌∙◌, subst, inl, inr, ⊎_elim}, specs.Prelude.{◌≡◌, ◌⊎◌, ℕ, Bool, IsTrue}}
use Rattle.std.specs.Prelude.{take, Option, Some, None, IsSomeAnd}
use Rattle.mg_disk.specs.Disk.{Image, Moment, Time, At, Both, Alone, GoesOn, no_image, TornAt, OnlySeen}
use Rattle.mg_mirror.specs.Mirror.{told_cut, seen_of, moment_of, Been, CutOf, LeftSince, two_times}
use Rattle.mg_mirror.specs.{MirrorLemmas.{same_cut, only_cut}, declared.mirror.Side.{Side, TheVariants.{Left, Right}}}

-- fresh images of a side are fresh ones of the mirror, once cut
abbrev pub Cuts : ℕ → Bool → (Image → Type 0) → (Image → Type 0) → Type 0
Cuts n told F H = (d : Image) → IsTrue told → F d → H (take n d)

-- one run after another
pub goes_then : (a b c : Time) (F G : Image → Type 0) → GoesOn a b F → GoesOn b c G → ((x : Image) → G x → F x) → GoesOn a c F
goes_then a b c F G first second sub = record {
  begins = first.begins;
  past = λ t was. second.past t (first.past t was);
  keeps = λ t x was left. second.keeps t x (first.past t was) (first.keeps t x was left);
  nothing_else = λ t x was left. ⊎_elim (first.nothing_else t x was) (λ g. inr (sub x g)) (second.nothing_else t x (first.past t was) left);
  now = λ x left. ⊎_elim (first.now x) (λ g. inr (sub x g)) (second.now x left);
}

-- an image of a side that is old or fresh, cut, is an old or a fresh one of the mirror
cut_cases : (n : ℕ) (told : Bool) (new old F H : Image → Type 0) (c : Image) (Old : Type 0) → IsTrue told → Cuts n told F H → (CutOf n old c → Old) → CutOf n new c
    → ((d : Image) → new d → old d ⊎ F d) → Old ⊎ H c
cut_cases n told new old F H c Old tells cuts keep left else = ⊎_elim older fresh (else left.whole left.is_one)
  where
    older : old left.whole → Old ⊎ H c
    older o = inl (keep (record { whole = left.whole; is_one = o; cut = left.cut }))

    fresh : F left.whole → Old ⊎ H c
    fresh f = inr (subst H (sym left.cut) (cuts left.whole tells f))

is_some : (o : Option Image) (P : Image → Type 0) → IsSomeAnd o P → (x : Image) × (o ≡ Some x)
is_some (Some x) P p = (x, refl)
is_some None P p = absurd p

-- a side is in use
abbrev pub IsLeftInUse : Option Side → Type 0
IsLeftInUse None = Unit {0}
IsLeftInUse (Some Left) = Unit {0}
IsLeftInUse (Some Right) = ⊥

abbrev pub IsRightInUse : Option Side → Type 0
IsRightInUse None = Unit {0}
IsRightInUse (Some Left) = ⊥
IsRightInUse (Some Right) = Unit {0}

still_cut : (n : ℕ) (old new : Image → Type 0) (c : Image) → ((d : Image) → old d → new d) → CutOf n old c → CutOf n new c
still_cut n old new c keep left = record { whole = left.whole; is_one = keep left.whole left.is_one; cut = left.cut }

module _ (n : ℕ) (told : Bool) (l l' r r' : Time) (F G H : Image → Type 0) where
  -- the sides that are in use stay the same
  pub goes_same : (alone : Option Side) → GoesOn l l' F → GoesOn r r' G → Cuts n told F H → Cuts n told G H
      → GoesOn (two_times n alone told l r) (two_times n alone told l' r') H
  goes_same alone a b f g = record { begins = begins alone; past = past alone; keeps = keeps alone; nothing_else = nothing_else alone; now = now alone }
    where
      begins : (alone : Option Side) → Been alone l.has_been r.has_been (moment_of alone l.moment r.moment)
      begins None = (a.begins, b.begins)
      begins (Some Left) = a.begins
      begins (Some Right) = b.begins

      past : (alone : Option Side) (t : Moment) → Been alone l.has_been r.has_been t → Been alone l'.has_been r'.has_been t
      past alone (At k) was = was
      past alone (Both x y) was = (a.past x was.0, b.past y was.1)
      past None (Alone x) was = was
      past (Some Left) (Alone x) was = a.past x was
      past (Some Right) (Alone x) was = b.past x was

      keeps : (alone : Option Side) (t : Moment) (c : Image) → Been alone l.has_been r.has_been t → LeftSince n alone told l.left_since r.left_since t c → LeftSince n alone told l'.left_since r'.left_since t c
      keeps alone (At k) c was left = left
      keeps alone (Both x y) c was left = (
        left.0,
        ⊎_elim (λ d. inl (still_cut n (l.left_since x) (l'.left_since x) c (λ i o. a.keeps x i was.0 o) d)) (λ d. inr (still_cut n (r.left_since y) (r'.left_since y) c (λ i o. b.keeps y i was.1 o) d)) left.1,
      )
      keeps None (Alone x) c was left = absurd was
      keeps (Some Left) (Alone x) c was left = (left.0, still_cut n (l.left_since x) (l'.left_since x) c (λ i o. a.keeps x i was o) left.1)
      keeps (Some Right) (Alone x) c was left = (left.0, still_cut n (r.left_since x) (r'.left_since x) c (λ i o. b.keeps x i was o) left.1)

      nothing_else : (alone : Option Side) (t : Moment) (c : Image) → Been alone l.has_been r.has_been t → LeftSince n alone told l'.left_since r'.left_since t c → LeftSince n alone told l.left_since r.left_since t c ⊎ H c
      nothing_else alone (At k) c was left = absurd was
      nothing_else alone (Both x y) c was left =
          ⊎_elim (λ d. cut_cases n told (l'.left_since x) (l.left_since x) F H c (LeftSince n alone told l.left_since r.left_since (Both x y) c) left.0 f (λ o. (left.0, inl o)) d (λ i e. a.nothing_else x i was.0 e))
          (λ d. cut_cases n told (r'.left_since y) (r.left_since y) G H c (LeftSince n alone told l.left_since r.left_since (Both x y) c) left.0 g (λ o. (left.0, inr o)) d (λ i e. b.nothing_else y i was.1 e))
          left.1
      nothing_else None (Alone x) c was left = absurd was
      nothing_else (Some Left) (Alone x) c was left = cut_cases n told (l'.left_since x) (l.left_since x) F H c (LeftSince n (Some Left) told l.left_since r.left_since (Alone x) c) left.0 f (λ o. (left.0, o)) left.1 (λ i e. a.nothing_else x i was e)
      nothing_else (Some Right) (Alone x) c was left = cut_cases n told (r'.left_since x) (r.left_since x) G H c (LeftSince n (Some Right) told l.left_since r.left_since (Alone x) c) left.0 g (λ o. (left.0, o)) left.1 (λ i e. b.nothing_else x i was e)

      now : (alone : Option Side) (c : Image) → LeftSince n alone told l'.left_since r'.left_since (moment_of alone l'.moment r'.moment) c → LeftSince n alone told l.left_since r.left_since (moment_of alone l.moment r.moment) c ⊎ H c
      now None c left =
          ⊎_elim (λ d. cut_cases n told (l'.left_since l'.moment) (l.left_since l.moment) F H c (LeftSince n None told l.left_since r.left_since (Both l.moment r.moment) c) left.0 f (λ o. (left.0, inl o)) d a.now)
          (λ d. cut_cases n told (r'.left_since r'.moment) (r.left_since r.moment) G H c (LeftSince n None told l.left_since r.left_since (Both l.moment r.moment) c) left.0 g (λ o. (left.0, inr o)) d b.now)
          left.1
      now (Some Left) c left = cut_cases n told (l'.left_since l'.moment) (l.left_since l.moment) F H c (LeftSince n (Some Left) told l.left_since r.left_since (Alone l.moment) c) left.0 f (λ o. (left.0, o)) left.1 a.now
      now (Some Right) c left = cut_cases n told (r'.left_since r'.moment) (r.left_since r.moment) G H c (LeftSince n (Some Right) told l.left_since r.left_since (Alone r.moment) c) left.0 g (λ o. (left.0, o)) left.1 b.now

module _ (n : ℕ) (told : Bool) (l r : Time) where
  -- a side is dropped: no time goes by
  pub goes_alone : (side : Side) → l.has_been l.moment → r.has_been r.moment → GoesOn (two_times n None told l r) (two_times n (Some side) told l r) no_image
  goes_alone side left_been right_been = record { begins = (left_been, right_been); past = past; keeps = keeps; nothing_else = nothing_else; now = now side }
    where
      past : (t : Moment) → Been None l.has_been r.has_been t → Been (Some side) l.has_been r.has_been t
      past (At k) was = was
      past (Both x y) was = was
      past (Alone x) was = absurd was

      keeps : (t : Moment) (c : Image) → Been None l.has_been r.has_been t → LeftSince n None told l.left_since r.left_since t c → LeftSince n (Some side) told l.left_since r.left_since t c
      keeps (At k) c was left = left
      keeps (Both x y) c was left = left
      keeps (Alone x) c was left = absurd was

      nothing_else : (t : Moment) (c : Image) → Been None l.has_been r.has_been t → LeftSince n (Some side) told l.left_since r.left_since t c → LeftSince n None told l.left_since r.left_since t c ⊎ no_image c
      nothing_else (At k) c was left = inl left
      nothing_else (Both x y) c was left = inl left
      nothing_else (Alone x) c was left = absurd was

      now : (side : Side) (c : Image) → LeftSince n (Some side) told l.left_since r.left_since (moment_of (Some side) l.moment r.moment) c → LeftSince n None told l.left_since r.left_since (Both l.moment r.moment) c ⊎ no_image c
      now Left c left = inl (left.0, inl left.1)
      now Right c left = inl (left.0, inr left.1)

  -- what is fresh at a write of a side is fresh at one of the mirror
  pub torn_left : (places : ℕ → Type 0) (alone : Option Side) → IsLeftInUse alone → Cuts n told (TornAt places (l.left_since l.moment)) (TornAt places (LeftSince n alone told l.left_since r.left_since (moment_of alone l.moment r.moment)))
  torn_left places None used d tells t = (take n t.0, (tells, inl (record { whole = t.0; is_one = t.1; cut = refl })), same_cut n places t.0 d t.2)
  torn_left places (Some Left) used d tells t = (take n t.0, (tells, record { whole = t.0; is_one = t.1; cut = refl }), same_cut n places t.0 d t.2)
  torn_left places (Some Right) used d tells t = absurd used

  pub torn_right : (places : ℕ → Type 0) (alone : Option Side) → IsRightInUse alone → Cuts n told (TornAt places (r.left_since r.moment)) (TornAt places (LeftSince n alone told l.left_since r.left_since (moment_of alone l.moment r.moment)))
  torn_right places None used d tells t = (take n t.0, (tells, inr (record { whole = t.0; is_one = t.1; cut = refl })), same_cut n places t.0 d t.2)
  torn_right places (Some Right) used d tells t = (take n t.0, (tells, record { whole = t.0; is_one = t.1; cut = refl }), same_cut n places t.0 d t.2)
  torn_right places (Some Left) used d tells t = absurd used

  -- the laws of the trait
  pub been_now : (alone : Option Side) → l.has_been l.moment → r.has_been r.moment → Been alone l.has_been r.has_been (moment_of alone l.moment r.moment)
  been_now None left right = (left, right)
  been_now (Some Left) left right = left
  been_now (Some Right) left right = right

  pub counted_now : (alone : Option Side) → ((t : Moment) (c : Image) → l.has_been t → l.left_since l.moment c → l.left_since t c) → ((t : Moment) (c : Image) → r.has_been t → r.left_since r.moment c → r.left_since t c)
      → (t : Moment) (c : Image) → Been alone l.has_been r.has_been t → LeftSince n alone told l.left_since r.left_since (moment_of alone l.moment r.moment) c → LeftSince n alone told l.left_since r.left_since t c
  counted_now alone a b (At k) c was left = absurd was
  counted_now None a b (Both x y) c was left =
      (left.0, ⊎_elim (λ d. inl (still_cut n (l.left_since l.moment) (l.left_since x) c (λ i o. a x i was.0 o) d)) (λ d. inr (still_cut n (r.left_since r.moment) (r.left_since y) c (λ i o. b y i was.1 o) d)) left.1)
  counted_now (Some Left) a b (Both x y) c was left = (left.0, inl (still_cut n (l.left_since l.moment) (l.left_since x) c (λ i o. a x i was.0 o) left.1))
  counted_now (Some Right) a b (Both x y) c was left = (left.0, inr (still_cut n (r.left_since r.moment) (r.left_since y) c (λ i o. b y i was.1 o) left.1))
  counted_now None a b (Alone x) c was left = absurd was
  counted_now (Some Left) a b (Alone x) c was left = (left.0, still_cut n (l.left_since l.moment) (l.left_since x) c (λ i o. a x i was o) left.1)
  counted_now (Some Right) a b (Alone x) c was left = (left.0, still_cut n (r.left_since r.moment) (r.left_since x) c (λ i o. b x i was o) left.1)

  pub seen_stays : (alone : Option Side) (sl sr : Option Image) → (IsTrue told → IsSomeAnd sl (l.left_since l.moment)) → (IsTrue told → IsSomeAnd sr (r.left_since r.moment))
      → IsTrue told → IsSomeAnd (seen_of n alone sl sr) (LeftSince n alone told l.left_since r.left_since (moment_of alone l.moment r.moment))
  seen_stays alone sl sr a b tells = stays alone sl sr (a tells) (b tells)
    where
      stays : (alone : Option Side) (sl sr : Option Image) → IsSomeAnd sl (l.left_since l.moment) → IsSomeAnd sr (r.left_since r.moment) → IsSomeAnd (seen_of n alone sl sr) (LeftSince n alone told l.left_since r.left_since (moment_of alone l.moment r.moment))
      stays None (Some x) (Some y) p q = (tells, inl (record { whole = x; is_one = p; cut = refl }))
      stays (Some Left) (Some x) (Some y) p q = (tells, record { whole = x; is_one = p; cut = refl })
      stays (Some Right) (Some x) (Some y) p q = (tells, record { whole = y; is_one = q; cut = refl })
      stays alone None sr p q = absurd p
      stays alone (Some x) None p q = absurd q

  -- after a good sync of the sides in use a stop leaves what reads give
  pub only_both : (sl sr : Option Image) → told_cut n sl sr ≡ told_cut n sr sl → (IsTrue told → IsSomeAnd sl (l.left_since l.moment)) → (IsTrue told → IsSomeAnd sr (r.left_since r.moment))
      → OnlySeen sl (l.left_since l.moment) → OnlySeen sr (r.left_since r.moment) → OnlySeen (told_cut n sl sr) (LeftSince n None told l.left_since r.left_since (Both l.moment r.moment))
  only_both sl sr same a b p q c left =
      ⊎_elim (λ d. let y = is_some sr (r.left_since r.moment) (b left.0) in only_cut n sl sr (l.left_since l.moment) c p y.0 y.1 d)
      (λ d. let x = is_some sl (l.left_since l.moment) (a left.0) in same ∙ only_cut n sr sl (r.left_since r.moment) c q x.0 x.1 d)
      left.1

  pub only_left : (sl sr : Option Image) → (IsTrue told → IsSomeAnd sr (r.left_since r.moment)) → OnlySeen sl (l.left_since l.moment) → OnlySeen (told_cut n sl sr) (LeftSince n (Some Left) told l.left_since r.left_since (Alone l.moment))
  only_left sl sr b p c left = let y = is_some sr (r.left_since r.moment) (b left.0) in only_cut n sl sr (l.left_since l.moment) c p y.0 y.1 left.1

  pub only_right : (sl sr : Option Image) → (IsTrue told → IsSomeAnd sl (l.left_since l.moment)) → OnlySeen sr (r.left_since r.moment) → OnlySeen (told_cut n sr sl) (LeftSince n (Some Right) told l.left_since r.left_since (Alone r.moment))
  only_right sl sr a q c left = let x = is_some sl (l.left_since l.moment) (a left.0) in only_cut n sr sl (r.left_since r.moment) c q x.0 x.1 left.1
