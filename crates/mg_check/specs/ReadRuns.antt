-- Lemmas on how runs of reads join.
use Rattle.std.{proofs.Common.{refl, sym, ap, subst, ◌∙◌, arith}, specs.{Option.ForSome, Prelude.{◌≡◌, ℕ, length}}}
use Rattle.std.specs.Prelude.{OnErr, Option, Result, Err, Some}
use Rattle.{mg_check.specs.Reads.{CanRead, contents}, mg_disk.specs.{Disk.Image, PlaceLemmas.HasFirst, Reads.OnlyRead}}
use Rattle.mg_disk.specs.{Reads.{OnlyReads, OnlyReadsBy}, Runs.{nothing_none, nothing_then}, Stops.CountRose}
use Rattle.{mg_disk.specs.declared.disk.Disk.Ghosts, mg_faults.specs.Faults.{count_none, count_then, then_rose}}
use Rattle.mg_model.specs.Words.{and_then}

-- what was read, without the answer
pub only_of : {D T E : Type 0} {facts : Ghosts D} {old new : D} {result : Result T E} → OnlyReads facts old new result → OnlyRead facts old new
only_of reads = record { writes = reads.writes; count = reads.calls.count; blocks = reads.calls.blocks }

pub only_by : {D : Type 0} {facts : Ghosts D} {old new : D} {failed : Type 0} → OnlyReadsBy facts old new failed → OnlyRead facts old new
only_by reads = record { writes = reads.writes; count = reads.calls.count; blocks = reads.calls.blocks }

module _ {D : Type 0} (facts : Ghosts D) where
  pub only_none : (disk : D) → (facts.time disk).has_been (facts.time disk).moment → OnlyRead facts disk disk
  only_none disk been = record { writes = nothing_none facts disk been; count = count_none (facts.faults disk) (facts.is_spent disk); blocks = refl }

  pub only_then : (old mid new : D) → OnlyRead facts old mid → OnlyRead facts mid new → OnlyRead facts old new
  only_then old mid new a b = record {
    writes = nothing_then facts old mid new a.writes b.writes;
    count = count_then (facts.faults old) (facts.faults mid) (facts.faults new) (facts.is_spent old) (facts.is_spent mid) (facts.is_spent new) a.count b.count;
    blocks = b.blocks ∙ a.blocks;
  }

  pub caused : (old new : D) (failed : Type 0) → OnlyRead facts old new → (failed → CountRose facts old new) → OnlyReadsBy facts old new failed
  caused old new failed reads cause = record { writes = reads.writes; calls = record { count = reads.count; blocks = reads.blocks; cause = cause } }

  -- reads and then others, whose failure is the same
  pub by_then : (old mid new : D) (here failed : Type 0) → (failed → here) → OnlyRead facts old mid → OnlyReadsBy facts mid new here → OnlyReadsBy facts old new failed
  by_then old mid new here failed is a b =
      caused old new failed (only_then old mid new a (only_by b))
      (λ f. then_rose (facts.faults old) (facts.faults mid) (facts.faults new) (facts.is_spent old) (facts.is_spent mid) (facts.is_spent new) a.count (b.calls.cause (is f)))

  -- the last of some reads failed
  pub failed_then : {T E : Type 0} (result : Result T E) (fault : E) (old mid new : D) (failed : Type 0) → result ≡ Err fault → OnlyRead facts old mid → OnlyReads facts mid new result → OnlyReadsBy facts old new failed
  failed_then result fault old mid new failed is a b =
      caused old new failed (only_then old mid new a (only_of b))
      (λ f.
      then_rose (facts.faults old) (facts.faults mid) (facts.faults new) (facts.is_spent old) (facts.is_spent mid) (facts.is_spent new) a.count
      (subst (λ r. OnErr r (CountRose facts mid new)) is b.calls.cause))

  pub still_read : (need : ℕ) (Fits : Image → Type 0) (old new : D) → CanRead facts need Fits old → OnlyRead facts old new → CanRead facts need Fits new
  still_read need Fits old new can only = record {
    room = let r = can.room in let e = only.blocks in omega arith;
    fits = λ image told. can.fits image (sym only.writes.same ∙ told);
  }

  pub same_contents : (of : Image → Option Image) (old new : D) → OnlyRead facts old new → contents facts of new ≡ contents facts of old
  same_contents of old new only = ap (λ seen. and_then seen of) only.writes.same

  pub told_contents : (of : Image → Option Image) (old new : D) (image r : Image) → OnlyRead facts old new → facts.seen old ≡ Some image → of image ≡ Some r → contents facts of new ≡ Some r
  told_contents of old new image r only told is = same_contents of old new only ∙ ap (λ seen. and_then seen of) told ∙ is

-- what lasts while blocks of contents are read one by one
pub record AreRead {D : Type 0} (facts : Ghosts D) (of : Image → Option Image) (first : ℕ) (blocks : Image) (n count : ℕ) (old new : D) : Type 0 where
  pub read : ForSome (facts.seen old) (λ image. ForSome (of image) (HasFirst first blocks n))
  pub same_count : length blocks ≡ count
  pub reads : OnlyRead facts old new
