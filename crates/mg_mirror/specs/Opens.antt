-- What opening a mirror from the disk on one side gives.
use Rattle.std.specs.Prelude.{◌≡◌, ◌≢◌, ◌&&◌, min, Some, Result, IfOk, IfErr}
use Rattle.mg_disk.specs.{Disk.Image, Stops.{WritesNothing, CountRose}, declared.disk.Disk.Ghosts}
use Rattle.mg_mirror.specs.{Copy.LeavesCopy, Mirror.{CutOf, told_cut}, declared.mirror.Mirror.Mirror}
use Rattle.mg_mirror.specs.declared.mirror.{MirrorFailed.MirrorFailed, Side.{Side, TheVariants.{Left, Right}}}
use Rattle.mg_mirror.specs.declared.mirror.Opened as counts

-- A mirror of two disks that is opened from the one on a side; or both disks as they are, if that one failed.
pub record Opens {D E K : Type 0} (d : Ghosts D) (e : Ghosts E) (k : counts.Ghosts K D E) (facts : Ghosts (Mirror D E K d e k)) (from : Side) (left : D) (right : E)
    (result : Result (Mirror D E K d e k) (MirrorFailed D E)) : Type 0 where
  -- Its reads are told exactly if those of both disks are, whether or not stops are: they give the first blocks of that disk.
  pub left_reads : from ≡ Left → IfOk result (λ m. facts.seen m ≡ told_cut (facts.block_count m) (d.seen left) (e.seen right))
  pub right_reads : from ≡ Right → IfOk result (λ m. facts.seen m ≡ told_cut (facts.block_count m) (e.seen right) (d.seen left))
  -- A stop now leaves of the mirror one of the images that it might have left of that disk, cut to the mirror's blocks.
  pub left_found : from ≡ Left → IfOk result (λ m. (c : Image) → (facts.time m).left_since (facts.time m).moment c → CutOf (facts.block_count m) ((d.time left).left_since (d.time left).moment) c)
  pub right_found : from ≡ Right → IfOk result (λ m. (c : Image) → (facts.time m).left_since (facts.time m).moment c → CutOf (facts.block_count m) ((e.time right).left_since (e.time right).moment) c)
  -- No call of the mirror failed yet. It has as many blocks as the smaller disk. What a stop leaves of it is told exactly if that is
  -- told of both disks.
  pub no_faults : IfOk result (λ m. facts.faults m ≡ 0)
  pub blocks : IfOk result (λ m. facts.block_count m ≡ min (d.block_count left) (e.block_count right))
  pub tells : IfOk result (λ m. facts.tells_stops m ≡ (d.tells_stops left && e.tells_stops right))
  -- That disk is in use.
  pub left_serves : from ≡ Left → IfOk result (λ m. m.alone ≢ Some Right)
  pub right_serves : from ≡ Right → IfOk result (λ m. m.alone ≢ Some Left)
  -- Nothing was written on it, whatever opening answers.
  pub left_kept : from ≡ Left → IfOk result (λ m. WritesNothing d left m.left)
  pub right_kept : from ≡ Right → IfOk result (λ m. WritesNothing e right m.right)
  pub left_back : from ≡ Left → IfErr result (λ disks. WritesNothing d left disks.left)
  pub right_back : from ≡ Right → IfErr result (λ disks. WritesNothing e right disks.right)
  -- On the other disk, whatever opening answers and whatever was pending there, a stop within the copy leaves, of the blocks that the
  -- mirror has, those that it might have left before but for block 0, a closed block 0, or those of that disk but for block 0.
  pub right_copy : from ≡ Left → IfOk result (λ m. LeavesCopy e (min (d.block_count left) (e.block_count right)) (d.seen left) right m.right)
  pub left_copy : from ≡ Right → IfOk result (λ m. LeavesCopy d (min (d.block_count left) (e.block_count right)) (e.seen right) left m.left)
  pub right_torn : from ≡ Left → IfErr result (λ disks. LeavesCopy e (min (d.block_count left) (e.block_count right)) (d.seen left) right disks.right)
  pub left_torn : from ≡ Right → IfErr result (λ disks. LeavesCopy d (min (d.block_count left) (e.block_count right)) (e.seen right) left disks.left)
  -- Opening fails only if the count of that disk rose.
  pub left_cause : from ≡ Left → IfErr result (λ disks. CountRose d left disks.left)
  pub right_cause : from ≡ Right → IfErr result (λ disks. CountRose e right disks.right)
