-- How a call over a mirror finds it, from how it finds SIDE's disk.
use Rattle.{mg_commands.specs.{History.{Finds, LeftBy, Runs}, HistoryLemmas.runs_hold}, mg_disk.specs.Disk.{Alone, Image, Moment}}
use Rattle.{mg_disk.specs.Stops.MightHaveLeft, mg_mirror.specs.{Mirror.{CutOf, LeftSince, moment_of, told_cut}, declared.mirror.Side.Side}}
use Rattle.{mg_mirror.specs.declared.mirror.Side.TheVariants.{Left, Right}, mg_mirror_session.{proofs.Opening.and_true, specs.Headline.OfSide}}
use Rattle.mg_mirror_session.specs.{Headline.seen_on, History.{FindsSide, IsUsed, MirrorCall, MirrorsFollow, Ran, run_of}, Mirrored.{Two, mirror}}
use Rattle.{mg_model.specs.State.State, std.{proofs.Common.{true≢false, refl, sym, subst, inl, inr, ⊎_elim}, specs.Prelude.{ℕ, ◌≡◌, ◌&&◌, Bool}}}
use Rattle.std.specs.Prelude.{IsTrue, take, Option, Some, None, IsSome, IsSomeAnd}
use Rattle.mg_disk.specs.declared.disk.Disk as disks
use Rattle.mg_io.specs.declared.traits.Sink as sinks
use Rattle.mg_io.specs.declared.traits.Source as sources
use Rattle.mg_commands.specs.History as history

-- the first one is told, and so is the second
cut_told : (n : ℕ) (a b : Option Image) (P : Image → Type 0) → IsSome b → IsSomeAnd a (λ x. P (take n x)) → IsSomeAnd (told_cut n a b) P
cut_told n (Some x) (Some y) P told is = is
cut_told n (Some x) None P told is = absurd (true≢false (sym told))
cut_told n None b P told is = absurd is

-- what reads of a mirror give, from what those of SIDE's disk do
side_reads : {D E : Type 0} (d : disks.Ghosts D) (e : disks.Ghosts E) (from : Side) (left : D) (right : E) (n : ℕ) (seen : Option Image) (P : Image → Type 0)
    → OfSide from (seen ≡ told_cut n (d.seen left) (e.seen right)) (seen ≡ told_cut n (e.seen right) (d.seen left)) → IsSome (d.seen left) × IsSome (e.seen right) → IsSomeAnd (seen_on d e from left right) (λ x. P (take n x)) → IsSomeAnd seen P
side_reads d e Left left right n seen P is both found = subst (λ o. IsSomeAnd o P) (sym is) (cut_told n (d.seen left) (e.seen right) P both.1 found)
side_reads d e Right left right n seen P is both found = subst (λ o. IsSomeAnd o P) (sym is) (cut_told n (e.seen right) (d.seen left) P both.0 found)

-- what a stop may leave of a mirror, from what it might have left of SIDE's disk
side_leaves : (from : Side) (of_left of_right now P : Image → Type 0) → OfSide from ((c : Image) → now c → of_left c) ((c : Image) → now c → of_right c) → ((c : Image) → OfSide from (of_left c) (of_right c) → P c) → (c : Image) → now c → P c
side_leaves Left of_left of_right now P found each c may = each c (found c may)
side_leaves Right of_left of_right now P found each c may = each c (found c may)

-- what a stop since a moment may leave of a side in use it may leave of the mirror
module _ (n : ℕ) (was alone : Option Side) (told : Bool) (l r : Moment) (ls rs : Moment → Image → Type 0) (c : Image) where
  left_since : IsUsed Left was alone → IsTrue told → CutOf n (ls l) c → LeftSince n alone told ls rs (moment_of was l r) c
  left_since used is cut =
      ⊎_elim (λ none. subst (λ o. LeftSince n alone told ls rs (moment_of o l r) c) (sym none) (is, inl cut))
      (λ both. subst (λ o. LeftSince n alone told ls rs (moment_of o l r) c) (sym both.0) (subst (λ o. LeftSince n o told ls rs (Alone l) c) (sym both.1) (is, cut))) used

  right_since : IsUsed Right was alone → IsTrue told → CutOf n (rs r) c → LeftSince n alone told ls rs (moment_of was l r) c
  right_since used is cut =
      ⊎_elim (λ none. subst (λ o. LeftSince n alone told ls rs (moment_of o l r) c) (sym none) (is, inr cut))
      (λ both. subst (λ o. LeftSince n alone told ls rs (moment_of o l r) c) (sym both.0) (subst (λ o. LeftSince n o told ls rs (Alone r) c) (sym both.1) (is, cut))) used

module _ {D E S K : Type 0} (d : disks.Ghosts D) (e : disks.Ghosts E) (i : sources.Ghosts S) (o : sinks.Ghosts K) where
  finds : (s : State) (runs : Runs (Two D E) S K) (m : MirrorCall D E S K) (ran : Ran d e i o m) → FindsSide d e i o s runs m ran.opened.blocks → Finds (mirror d e) i o s runs (run_of d e i o m ran)
  finds s runs m ran side = record {
    reads = side_reads d e m.from m.left m.right ran.opened.blocks ((mirror d e).seen ran.opened) (LeftBy (mirror d e) i o s runs) ran.opens.told side.both_told side.reads;
    no_others = side_leaves m.from (CutOf ran.opened.blocks (MightHaveLeft d m.left)) (CutOf ran.opened.blocks (MightHaveLeft e m.right)) (MightHaveLeft (mirror d e) ran.opened) (LeftBy (mirror d e) i o s runs) ran.opens.found side.no_others;
    told = side.told;
    keeps = ran.keeps.lines;
    still = λ u. refl;
  }

  module _ (left_told : (disk : D) (t : Moment) (c : Image) → (d.time disk).left_since t c → IsTrue (d.tells_stops disk)) (right_told : (disk : E) (t : Moment) (c : Image) → (e.time disk).left_since t c → IsTrue (e.tells_stops disk)) where
    left_cut : (s : State) (runs : Runs (Two D E) S K) (m : MirrorCall D E S K) (ran : Ran d e i o m) → IsUsed Left ran.opened.alone m.alone → IsTrue (e.tells_stops m.right')
        → (c : Image) → CutOf ran.opened.blocks ((d.time m.left').left_since (d.time ran.opened.left).moment) c → LeftBy (mirror d e) i o s (history.CutOff runs (run_of d e i o m ran)) c
    left_cut s runs m ran used told c cut =
        subst (λ (two : Two D E). ((mirror d e).time two).left_since ((mirror d e).time ran.opened).moment c) (sym ran.closes)
        (left_since ran.opened.blocks ran.opened.alone m.alone (d.tells_stops m.left' && e.tells_stops m.right') (d.time ran.opened.left).moment (e.time ran.opened.right).moment (d.time m.left').left_since (e.time m.right').left_since c used
        (and_true (d.tells_stops m.left') (e.tells_stops m.right') (left_told m.left' (d.time ran.opened.left).moment cut.whole cut.is_one) told) cut)

    right_cut : (s : State) (runs : Runs (Two D E) S K) (m : MirrorCall D E S K) (ran : Ran d e i o m) → IsUsed Right ran.opened.alone m.alone → IsTrue (d.tells_stops m.left')
        → (c : Image) → CutOf ran.opened.blocks ((e.time m.right').left_since (e.time ran.opened.right).moment) c → LeftBy (mirror d e) i o s (history.CutOff runs (run_of d e i o m ran)) c
    right_cut s runs m ran used told c cut =
        subst (λ (two : Two D E). ((mirror d e).time two).left_since ((mirror d e).time ran.opened).moment c) (sym ran.closes)
        (right_since ran.opened.blocks ran.opened.alone m.alone (d.tells_stops m.left' && e.tells_stops m.right') (d.time ran.opened.left).moment (e.time ran.opened.right).moment (d.time m.left').left_since (e.time m.right').left_since c used
        (and_true (d.tells_stops m.left') (e.tells_stops m.right') told (right_told m.right' (e.time ran.opened.right).moment cut.whole cut.is_one)) cut)

    pub mirrors_follow : MirrorsFollow d e i o
    mirrors_follow = record {
      hold = runs_hold (mirror d e) i o;
      finds = finds;
      left_ended = λ s runs m ran used told c cut. ran.left_held used told c cut;
      right_ended = λ s runs m ran used told c cut. ran.right_held used told c cut;
      left_cut = left_cut;
      right_cut = right_cut;
    }
