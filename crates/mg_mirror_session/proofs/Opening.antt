-- A mirror that was opened, as the promise speaks of it.
use Rattle.mg_disk.specs.{Disk.Image, Runs.{nothing_none, nothing_then}, Stops.{CountGoes, MightHaveLeft, WritesNothing}}
use Rattle.{mg_faults.specs.Faults.count_none, mg_mirror.specs.{Mirror.{CutOf, told_cut}, declared.mirror.Side.{Side, TheVariants.{Left, Right}}}}
use Rattle.mg_mirror_session.{proofs.Copying.copy_since, specs.{Headline.{CopyHolds, IsOpenedFrom, OfSide, seen_on}, Mirrored.{Two, mirror}}}
use Rattle.std.{proofs.Common.{refl, sym, subst, ◌∙◌, ap, ⊎_elim}, specs.Prelude.{ℕ, ◌≡◌, ◌≢◌, ◌&&◌, Bool, true, false, IsTrue, min, take}}
use Rattle.std.specs.Prelude.{option_map, Option, Some, None, IsSomeAnd}
use Rattle.mg_disk.specs.declared.disk.Disk as disks

false_true : false ≡ true → ⊥
false_true is = cc

pub and_true : (a b : Bool) → IsTrue a → IsTrue b → IsTrue (a && b)
and_true true b is_a is_b = is_b
and_true false b is_a is_b = absurd (false_true is_a)

-- what holds whichever side it is
pub of_side : (from : Side) (P Q : Type 0) → (from ≡ Left → P) → (from ≡ Right → Q) → OfSide from P Q
of_side Left P Q p q = p refl
of_side Right P Q p q = q refl

-- where both are told, the first blocks of the one are
both_told : (n : ℕ) (o p : Option Image) (P Q : Image → Type 0) → IsSomeAnd o P → IsSomeAnd p Q → told_cut n o p ≡ option_map (take n) o
both_told n (Some x) (Some y) P Q o p = refl
both_told n None p P Q o q = absurd o
both_told n (Some x) None P Q o q = absurd q

module _ {D E : Type 0} (d : disks.Ghosts D) (e : disks.Ghosts E) (left_stays : (disk : D) → IsTrue (d.tells_stops disk) → IsSomeAnd (d.seen disk) ((d.time disk).left_since (d.time disk).moment))
    (right_stays : (disk : E) → IsTrue (e.tells_stops disk) → IsSomeAnd (e.seen disk) ((e.time disk).left_since (e.time disk).moment)) where
  pub opened_from : (from : Side) (left : D) (right : E) (opened : Two D E)
      → (from ≡ Left → (mirror d e).seen opened ≡ told_cut opened.blocks (d.seen left) (e.seen right)) → (from ≡ Right → (mirror d e).seen opened ≡ told_cut opened.blocks (e.seen right) (d.seen left))
      → (from ≡ Left → (c : Image) → MightHaveLeft (mirror d e) opened c → CutOf opened.blocks (MightHaveLeft d left) c) → (from ≡ Right → (c : Image) → MightHaveLeft (mirror d e) opened c → CutOf opened.blocks (MightHaveLeft e right) c)
      → opened.blocks ≡ min (d.block_count left) (e.block_count right) → (from ≡ Left → opened.alone ≢ Some Right) → (from ≡ Right → opened.alone ≢ Some Left)
      → (from ≡ Left → WritesNothing d left opened.left) → (from ≡ Right → WritesNothing e right opened.right)
      → (from ≡ Left → CopyHolds e opened.blocks (d.seen left) right opened.right) → (from ≡ Right → CopyHolds d opened.blocks (e.seen right) left opened.left) → IsOpenedFrom d e from left right opened
  opened_from from left right opened left_reads right_reads left_found right_found blocks left_serves right_serves left_kept right_kept right_copied left_copied = record {
    blocks = blocks;
    told = of_side from _ _ left_reads right_reads;
    reads = reads from left_reads right_reads;
    serves = of_side from _ _ left_serves right_serves;
    kept = of_side from _ _ left_kept right_kept;
    copied = of_side from _ _ right_copied left_copied;
    found = of_side from _ _ left_found right_found;
  }
    where
      reads : (from : Side) → (from ≡ Left → (mirror d e).seen opened ≡ told_cut opened.blocks (d.seen left) (e.seen right)) → (from ≡ Right → (mirror d e).seen opened ≡ told_cut opened.blocks (e.seen right) (d.seen left))
          → IsTrue (d.tells_stops left) → IsTrue (e.tells_stops right) → (mirror d e).seen opened ≡ option_map (take opened.blocks) (seen_on d e from left right)
      reads Left on_left on_right l r = on_left refl ∙ both_told opened.blocks (d.seen left) (e.seen right) _ _ (left_stays left l) (right_stays right r)
      reads Right on_left on_right l r = on_right refl ∙ both_told opened.blocks (e.seen right) (d.seen left) _ _ (right_stays right r) (left_stays left l)

-- a disk that was read, or left alone
pub record OnlyRead {D : Type 0} (d : disks.Ghosts D) (old new : D) : Type 0 where
  pub writes : WritesNothing d old new
  pub blocks : d.block_count new ≡ d.block_count old
  pub tells : d.tells_stops new ≡ d.tells_stops old
  pub count : CountGoes d old new

pub left_alone : {D : Type 0} (d : disks.Ghosts D) (old new : D) → (d.time old).has_been (d.time old).moment → new ≡ old → OnlyRead d old new
left_alone d old new been same =
    subst (OnlyRead d old) (sym same) (record { writes = nothing_none d old been; blocks = refl; tells = refl; count = count_none (d.faults old) (d.is_spent old) })

-- A mirror of two disks of which one was read before it was opened.
module _ {D E : Type 0} (d : disks.Ghosts D) (e : disks.Ghosts E) (left left' : D) (right right' : E) (on_left : OnlyRead d left left') (on_right : OnlyRead e right right') where
  pub same_blocks : min (d.block_count left') (e.block_count right') ≡ min (d.block_count left) (e.block_count right)
  same_blocks = ap (λ n. min n (e.block_count right')) on_left.blocks ∙ ap (min (d.block_count left)) on_right.blocks

  pub same_seen : (from : Side) → seen_on d e from left' right' ≡ seen_on d e from left right
  same_seen Left = on_left.writes.same
  same_seen Right = on_right.writes.same

  pub opened_since : (from : Side) (opened : Two D E) → (d.time left).has_been (d.time left).moment → (e.time right).has_been (e.time right).moment → IsOpenedFrom d e from left' right' opened → IsOpenedFrom d e from left right opened
  opened_since from opened left_been right_been opens = record {
    blocks = opens.blocks ∙ same_blocks;
    reads = λ l r. opens.reads (on_left.tells ∙ l) (on_right.tells ∙ r) ∙ ap (option_map (take opened.blocks)) (same_seen from);
    told = told from opens.told;
    serves = opens.serves;
    kept = kept from opens.kept;
    copied = copied from opens.copied;
    found = found from opens.found;
  }
    where
      copied : (from : Side) → OfSide from (CopyHolds e opened.blocks (d.seen left') right' opened.right) (CopyHolds d opened.blocks (e.seen right') left' opened.left)
          → OfSide from (CopyHolds e opened.blocks (d.seen left) right opened.right) (CopyHolds d opened.blocks (e.seen right) left opened.left)
      copied Left h = copy_since e opened.blocks (d.seen left) (d.seen left') right right' opened.right on_left.writes.same right_been on_right.writes h
      copied Right h = copy_since d opened.blocks (e.seen right) (e.seen right') left left' opened.left on_right.writes.same left_been on_left.writes h

      told : (from : Side) → OfSide from ((mirror d e).seen opened ≡ told_cut opened.blocks (d.seen left') (e.seen right')) ((mirror d e).seen opened ≡ told_cut opened.blocks (e.seen right') (d.seen left'))
          → OfSide from ((mirror d e).seen opened ≡ told_cut opened.blocks (d.seen left) (e.seen right)) ((mirror d e).seen opened ≡ told_cut opened.blocks (e.seen right) (d.seen left))
      told Left h = h ∙ ap (λ o. told_cut opened.blocks o (e.seen right')) on_left.writes.same ∙ ap (told_cut opened.blocks (d.seen left)) on_right.writes.same
      told Right h = h ∙ ap (λ o. told_cut opened.blocks o (d.seen left')) on_right.writes.same ∙ ap (told_cut opened.blocks (e.seen right)) on_left.writes.same

      kept : (from : Side) → OfSide from (WritesNothing d left' opened.left) (WritesNothing e right' opened.right) → OfSide from (WritesNothing d left opened.left) (WritesNothing e right opened.right)
      kept Left h = nothing_then d left left' opened.left on_left.writes h
      kept Right h = nothing_then e right right' opened.right on_right.writes h

      -- what a disk that was read may leave it might have left before
      before : {X : Type 0} (x : disks.Ghosts X) (old new : X) → WritesNothing x old new → (c : Image) → CutOf opened.blocks (MightHaveLeft x new) c → CutOf opened.blocks (MightHaveLeft x old) c
      before x old new writes c is = record { whole = is.whole; is_one = ⊎_elim (λ was. was) (λ none. absurd none) (writes.stops.now is.whole is.is_one); cut = is.cut }

      found : (from : Side) → OfSide from ((c : Image) → MightHaveLeft (mirror d e) opened c → CutOf opened.blocks (MightHaveLeft d left') c) ((c : Image) → MightHaveLeft (mirror d e) opened c → CutOf opened.blocks (MightHaveLeft e right') c)
          → OfSide from ((c : Image) → MightHaveLeft (mirror d e) opened c → CutOf opened.blocks (MightHaveLeft d left) c) ((c : Image) → MightHaveLeft (mirror d e) opened c → CutOf opened.blocks (MightHaveLeft e right) c)
      found Left h = λ c may. before d left left' on_left.writes c (h c may)
      found Right h = λ c may. before e right right' on_right.writes c (h c may)
