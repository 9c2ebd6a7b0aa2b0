-- A call of a mirror, from the calls of its sides.
use Rattle.mg_disk.specs.{Disk.{Image, GoesOn, HasBlocks, InRange, SameBut, SeenBut, TornAt, block_at, no_image}, Runs.time_none, Stops.TimeGoes}
use Rattle.{mg_disk.specs.declared.disk.Disk.Ghosts, mg_mirror.specs.Mirror.{told_cut, seen_of, SameWhileBoth, moment_of, LeftSince, two_times}}
use Rattle.mg_mirror.specs.{MirrorLemmas.{IsToldAs, told_map, both_told, cut_block, cut_set}, MomentLemmas.{Cuts, goes_then, goes_same, goes_alone}}
use Rattle.{mg_mirror.specs.{MomentLemmas.{torn_left, torn_right}, declared.mirror.Side.{Side, TheVariants.{Left, Right}}}, std.proofs.Common.refl}
use Rattle.std.proofs.{Common.{sym, ap, ◌∙◌, subst, ⊎_elim, arith}, Math.Nat.min-le_left, lemmas.Bool.{cases_lt, Decides.nat_tests}}
use Rattle.std.{proofs.lemmas.List.{ext_get_or, length-take}, specs.{Option.ForSome, Prelude.{◌≡◌, ◌≢◌, ◌⊎◌, ◌+◌, ◌-◌, ◌<◌, ◌≤◌, ◌&&◌, ℕ, List, []}}}
use Rattle.std.specs.Prelude.{get_or, length, min, take, Option, Some, None, option_map, slice_set}

pub told_same : (o : Option Image) → IsToldAs o o
told_same (Some x) = tt
told_same None = tt

module _ {D E : Type 0} (d : Ghosts D) (e : Ghosts E) (n : ℕ) where
  -- what a stop may leave of a mirror of these sides
  abbrev pub LeftOf : Option Side → D → E → Image → Type 0
  LeftOf alone left right c = LeftSince n alone (d.tells_stops left && e.tells_stops right) (d.time left).left_since (e.time right).left_since (moment_of alone (d.time left).moment (e.time right).moment) c

  -- time passes for a mirror, from these sides to those
  abbrev pub Goes : Option Side → Option Side → D → D → E → E → (Image → Type 0) → Type 0
  Goes alone alone' left left' right right' H =
      GoesOn (two_times n alone (d.tells_stops left && e.tells_stops right) (d.time left) (e.time right))
      (two_times n alone' (d.tells_stops left' && e.tells_stops right') (d.time left') (e.time right')) H

  -- time passed for the two sides, and the same are in use
  pub goes_along : (alone : Option Side) (left left' : D) (right right' : E) (F G H : Image → Type 0) → d.tells_stops left' ≡ d.tells_stops left → e.tells_stops right' ≡ e.tells_stops right
      → TimeGoes d left left' F → TimeGoes e right right' G → Cuts n (d.tells_stops left && e.tells_stops right) F H → Cuts n (d.tells_stops left && e.tells_stops right) G H
      → Goes alone alone left left' right right' H
  goes_along alone left left' right right' F G H p q a b f g = grind (arith, goes_same)

  -- and one side was dropped
  pub goes_dropped : (alone : Option Side) (side : Side) (left left' : D) (right right' : E) (H : Image → Type 0) → alone ≡ None → (d.time left').has_been (d.time left').moment → (e.time right').has_been (e.time right').moment
      → Goes alone alone left left' right right' H → Goes alone (Some side) left left' right right' H
  goes_dropped alone side left left' right right' H is left_been right_been goes = grind (arith, goes_then, goes_alone)

  -- a write at some places of both sides, of the left one, of the right one
  pub write_both : (alone : Option Side) (left left' : D) (right right' : E) (places : ℕ → Type 0) → alone ≡ None → d.tells_stops left' ≡ d.tells_stops left → e.tells_stops right' ≡ e.tells_stops right
      → TimeGoes d left left' (TornAt places ((d.time left).left_since (d.time left).moment)) → TimeGoes e right right' (TornAt places ((e.time right).left_since (e.time right).moment)) → Goes alone alone left left' right right' (TornAt places (LeftOf alone left right))
  write_both alone left left' right right' places is p q a b =
      subst (λ now. Goes now now left left' right right' (TornAt places (LeftOf now left right))) (sym is)
      (goes_along None left left' right right' (TornAt places ((d.time left).left_since (d.time left).moment)) (TornAt places ((e.time right).left_since (e.time right).moment)) (TornAt places (LeftOf None left right)) p q a b
      (torn_left n (d.tells_stops left && e.tells_stops right) (d.time left) (e.time right) places None tt)
      (torn_right n (d.tells_stops left && e.tells_stops right) (d.time left) (e.time right) places None tt))

  pub write_left : (alone : Option Side) (left left' : D) (right : E) (places : ℕ → Type 0) → alone ≡ Some Left → (e.time right).has_been (e.time right).moment → d.tells_stops left' ≡ d.tells_stops left
      → TimeGoes d left left' (TornAt places ((d.time left).left_since (d.time left).moment)) → Goes alone alone left left' right right (TornAt places (LeftOf alone left right))
  write_left alone left left' right places is been p a =
      subst (λ now. Goes now now left left' right right (TornAt places (LeftOf now left right))) (sym is)
      (goes_along (Some Left) left left' right right (TornAt places ((d.time left).left_since (d.time left).moment)) no_image (TornAt places (LeftOf (Some Left) left right)) p refl a (time_none e right no_image been)
      (torn_left n (d.tells_stops left && e.tells_stops right) (d.time left) (e.time right) places (Some Left) tt)
      (λ x tells none. absurd none))

  pub write_right : (alone : Option Side) (left : D) (right right' : E) (places : ℕ → Type 0) → alone ≡ Some Right → (d.time left).has_been (d.time left).moment → e.tells_stops right' ≡ e.tells_stops right
      → TimeGoes e right right' (TornAt places ((e.time right).left_since (e.time right).moment)) → Goes alone alone left left right right' (TornAt places (LeftOf alone left right))
  write_right alone left right right' places is been q b =
      subst (λ now. Goes now now left left right right' (TornAt places (LeftOf now left right))) (sym is)
      (goes_along (Some Right) left left right right' no_image (TornAt places ((e.time right).left_since (e.time right).moment)) (TornAt places (LeftOf (Some Right) left right)) refl q (time_none d left no_image been) b
      (λ x tells none. absurd none)
      (torn_right n (d.tells_stops left && e.tells_stops right) (d.time left) (e.time right) places (Some Right) tt))

  -- a call that writes nothing on the sides that it reaches
  pub quiet_along : (alone : Option Side) (left left' : D) (right right' : E) → d.tells_stops left' ≡ d.tells_stops left → e.tells_stops right' ≡ e.tells_stops right
      → TimeGoes d left left' no_image → TimeGoes e right right' no_image → Goes alone alone left left' right right' no_image
  quiet_along alone left left' right right' p q a b = goes_along alone left left' right right' no_image no_image no_image p q a b (λ x tells none. none) (λ x tells none. none)

-- What reads give after a write, by the sides in use.
module _ (n i : ℕ) (b : List ℕ) (inside : i < n) where
  pub wrote_left : (alone : Option Side) (l r l' r' : Option Image) → (alone ≡ None) ⊎ (alone ≡ Some Left) → l' ≡ option_map (λ image. slice_set image i b) l → IsToldAs r r'
      → told_cut n l' r' ≡ option_map (λ image. slice_set image i b) (seen_of n alone l r)
  wrote_left alone l r l' r' is put like = grind (arith, nat_tests, cut_set)

  pub wrote_both : (alone : Option Side) (l r l' r' : Option Image) → alone ≡ None → l' ≡ option_map (λ image. slice_set image i b) l → r' ≡ option_map (λ image. slice_set image i b) r
      → seen_of n alone l' r' ≡ option_map (λ image. slice_set image i b) (seen_of n alone l r)
  wrote_both alone l r l' r' none put put' = grind (arith, cut_set, told_map)

  pub wrote_only_left : (alone : Option Side) (l r l' : Option Image) → alone ≡ Some Left → l' ≡ option_map (λ image. slice_set image i b) l
      → seen_of n alone l' r ≡ option_map (λ image. slice_set image i b) (seen_of n alone l r)
  wrote_only_left alone l r l' is put = grind (arith, cut_set, told_same)

  pub wrote_only_right : (alone : Option Side) (l r r' : Option Image) → alone ≡ Some Right → r' ≡ option_map (λ image. slice_set image i b) r
      → seen_of n alone l r' ≡ option_map (λ image. slice_set image i b) (seen_of n alone l r)
  wrote_only_right alone l r r' is put = grind (arith, cut_set, told_same)

  -- only the right one took it
  pub wrote_right : (alone : Option Side) (l r l' r' : Option Image) → alone ≡ None → told_cut n l r ≡ told_cut n r l → r' ≡ option_map (λ image. slice_set image i b) r → IsToldAs l l'
      → told_cut n r' l' ≡ option_map (λ image. slice_set image i b) (seen_of n alone l r)
  wrote_right alone l r l' r' none same put like = grind (arith, cut_set)

-- both sides still give the same after a write of both
pub same_after : (n i : ℕ) (b : List ℕ) (alone : Option Side) (l r l' r' : Option Image) → i < n → SameWhileBoth n alone l r
    → l' ≡ option_map (λ image. slice_set image i b) l → r' ≡ option_map (λ image. slice_set image i b) r → SameWhileBoth n alone l' r'
same_after n i b alone l r l' r' inside same put put' none =
    cut_set n i b l r l' r' inside put (told_map (λ image. slice_set image i b) r r' put')
    ∙ ap (option_map (λ image. slice_set image i b)) (same none)
    ∙ sym (cut_set n i b r l r' l' inside put' (told_map (λ image. slice_set image i b) l l' put))

-- Blocks that follow one another: what reads give of them, by the sides in use.
module _ (n first : ℕ) (blocks : Image) where
  has_cut : (l r : Option Image) → first + length blocks ≤ n → ForSome l (HasBlocks first blocks) → ForSome (told_cut n l r) (HasBlocks first blocks)
  has_cut l r within has image is k below = grind (arith, both_told, cut_block)

  pub has_left : (alone : Option Side) (l r : Option Image) → first + length blocks ≤ n → alone ≢ Some Right → ForSome l (HasBlocks first blocks) → ForSome (seen_of n alone l r) (HasBlocks first blocks)
  has_left None l r within used has = has_cut l r within has
  has_left (Some Left) l r within used has = has_cut l r within has
  has_left (Some Right) l r within used has = absurd (used refl)

  pub has_right : (alone : Option Side) (l r : Option Image) → first + length blocks ≤ n → alone ≢ Some Left → SameWhileBoth n alone l r → ForSome r (HasBlocks first blocks) → ForSome (seen_of n alone l r) (HasBlocks first blocks)
  has_right None l r within used same has = λ image is. has_cut r l within has image (sym (same refl) ∙ is)
  has_right (Some Right) l r within used same has = has_cut r l within has
  has_right (Some Left) l r within used same has = absurd (used refl)

  -- both sides still give the same after a write of both
  cut_alike : (x y x' y' : Image) → take n x ≡ take n y → SameBut (InRange first (length blocks)) x x' → SameBut (InRange first (length blocks)) y y' → HasBlocks first blocks x' → HasBlocks first blocks y' → take n x' ≡ take n y'
  cut_alike x y x' y' same on_x on_y put put' = ext_get_or [] (take n x') (take n y') long each
    where
      long : length (take n x') ≡ length (take n y')
      long = length-take n x' ∙ ap (min n) on_x.count ∙ sym (length-take n x) ∙ ap length same ∙ length-take n y ∙ ap (min n) (sym on_y.count) ∙ sym (length-take n y')

      here : (k : ℕ) → first ≤ k → k < first + length blocks → block_at x' k ≡ block_at y' k
      here k low high =
          let place : first + (k - first) ≡ k = omega arith in
          let P : ℕ → Type 0 = λ j. block_at x' j ≡ block_at y' j in
          subst P place (put (k - first) (omega arith) ∙ sym (put' (k - first) (omega arith)))

      elsewhere : (k : ℕ) → k < n → (InRange first (length blocks) k → ⊥) → block_at x' k ≡ block_at y' k
      elsewhere k below out = on_x.others k out ∙ sym (cut_block n k x below) ∙ ap (λ image. block_at image k) same ∙ cut_block n k y below ∙ sym (on_y.others k out)

      at : (k : ℕ) → k < n → block_at x' k ≡ block_at y' k
      at k below =
          ⊎_elim (λ low. elsewhere k below (λ in_range. let from = in_range.from in omega arith))
          (λ from. ⊎_elim (λ high. here k from high) (λ past. elsewhere k below (λ in_range. let before = in_range.before in omega arith)) (cases_lt k (first + length blocks))) (cases_lt k first)

      each : (k : ℕ) → k < length (take n x') → get_or (take n x') k [] ≡ get_or (take n y') k []
      each k inside =
          let below : k < n = omega (arith, length-take n x', min-le_left n (length x')) in
          cut_block n k x' below ∙ at k below ∙ sym (cut_block n k y' below)

  pub alike_after : (alone : Option Side) (l r l' r' : Option Image) → SameWhileBoth n alone l r → SeenBut (InRange first (length blocks)) l l' → SeenBut (InRange first (length blocks)) r r'
      → ForSome l' (HasBlocks first blocks) → ForSome r' (HasBlocks first blocks) → SameWhileBoth n alone l' r'
  alike_after alone l r l' r' same on_l on_r put put' none = grind (arith, cut_alike)
