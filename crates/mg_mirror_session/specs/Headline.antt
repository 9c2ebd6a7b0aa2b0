-- What a run over a mirror promises. An object that does not tell its content has None for it; a promise on content is then empty.
use Rattle.std.specs.{Option.ForSome, Prelude.{ℕ, ◌≡◌, ◌≢◌, ◌⊎◌, IsTrue, List, [], ◌∷◌, ◌++◌, codes, min, take}}
use Rattle.std.specs.Prelude.{option_map, Option, Some, None}
use Rattle.mg_commands.specs.Headline.{EndsRun, OnVolume, PrintsLast, RunKeeps, UsageKeeps, check_line, session_of}
use Rattle.mg_disk.specs.{Disk.Image, Stops.{FromLeft, Leaves, MightHaveLeft, WritesNothing}}
use Rattle.{mg_layout.specs.MayFormat.{IsNoState, opened}, mg_mirror.specs.Mirror.{CutOf, told_cut}}
use Rattle.mg_mirror.specs.declared.mirror.Side.{Side, TheVariants.{Left, Right}}
use Rattle.{mg_mirror_session.specs.{Judged.first_fault, Mirrored.{Two, mirror}}, mg_model.specs.Lines.lines}
use Rattle.mg_model.specs.{Print.replies_text, Volume.{NotVolume, VolumeRead, volume}}
use Rattle.mg_serve.specs.Sessions.{DiskRose, DiskUse, IfShort, IsDoneOrMemory, MayLeave, OfInput, Prints, PrintsPrefix}
use Rattle.mg_serve.specs.Sessions.{SinkRose, SinkUse, SourceRose, SourceUse, use_of, left_now}
use Rattle.mg_serve.specs.declared.status.Status.{Status}
use Rattle.mg_disk.specs.declared.disk.Disk as disks
use Rattle.mg_io.specs.declared.traits.Sink as sinks
use Rattle.mg_serve.specs.declared.status.Status.TheVariants as status

-- The side that the mirror is opened from

-- what holds of the left disk, or of the right one
abbrev pub OfSide : Side → Type 0 → Type 0 → Type 0
OfSide Left of_left of_right = of_left
OfSide Right of_left of_right = of_right

-- what reads of the disk on that side give
abbrev pub seen_on : {D E : Type 0} → disks.Ghosts D → disks.Ghosts E → Side → D → E → Option Image
seen_on d e Left left right = d.seen left
seen_on d e Right left right = e.seen right

-- what reads of a mirror give that is opened from that side: that disk's first blocks, as many as the smaller disk has
abbrev pub seen_behind : {D E : Type 0} → disks.Ghosts D → disks.Ghosts E → Side → D → E → Option Image
seen_behind d e from left right = option_map (take (min (d.block_count left) (e.block_count right))) (seen_on d e from left right)

-- The copy

-- What a stop within the copy may leave of the other disk, in its first n blocks, where it held an image and SIDE's disk x: no volume,
-- what its blocks after the gate spelled before, or what those of x spell.
abbrev pub MayHold : ℕ → Image → Image → Image → Type 0
MayHold n image x c =
    (volume (take n c) ≡ NotVolume)
    ⊎ ((volume (take n c) ≡ volume (opened (take n image))) ⊎ (volume (take n c) ≡ volume (take n x)))

-- At each moment in which what a disk tells is copied to this one, whatever was pending on it, an image that a stop may leave of it comes
-- so from one that a stop might have left before.
abbrev pub CopyHolds : {E : Type 0} → disks.Ghosts E → ℕ → Option Image → E → E → Type 0
CopyHolds e n from to to' = ForSome from (λ x. Leaves e to to' (FromLeft e to (λ image. MayHold n image x)))

-- The mirror

-- A mirror as it was opened from the disk on that side.
pub record IsOpenedFrom {D E : Type 0} (d : disks.Ghosts D) (e : disks.Ghosts E) (from : Side) (left : D) (right : E)
    (opened : Two D E) : Type 0 where
  -- It has as many blocks as the smaller disk.
  pub blocks : opened.blocks ≡ min (d.block_count left) (e.block_count right)
  -- Its reads are told exactly where those of both disks are, whether or not stops are: they give the first blocks of that disk.
  pub told : OfSide from ((mirror d e).seen opened ≡ told_cut opened.blocks (d.seen left) (e.seen right))
      ((mirror d e).seen opened ≡ told_cut opened.blocks (e.seen right) (d.seen left))
  -- So they do where both disks tell of stops.
  pub reads : IsTrue (d.tells_stops left) → IsTrue (e.tells_stops right) →
      (mirror d e).seen opened ≡ option_map (take opened.blocks) (seen_on d e from left right)
  -- That disk is in use, and nothing was written on it.
  pub serves : OfSide from (opened.alone ≢ Some Right) (opened.alone ≢ Some Left)
  pub kept : OfSide from (WritesNothing d left opened.left) (WritesNothing e right opened.right)
  -- To the other one it was copied.
  pub copied : OfSide from (CopyHolds e opened.blocks (d.seen left) right opened.right)
      (CopyHolds d opened.blocks (e.seen right) left opened.left)
  -- A stop now leaves of the mirror one of the images that it might have left of that disk, cut to its blocks.
  pub found : OfSide from ((c : Image) → MightHaveLeft (mirror d e) opened c → CutOf opened.blocks (MightHaveLeft d left) c)
      ((c : Image) → MightHaveLeft (mirror d e) opened c → CutOf opened.blocks (MightHaveLeft e right) c)

-- The last line

-- the line that names the one side in use, where one is
abbrev pub last_line : Option Side → List ℕ
last_line None = []
last_line (Some Left) = codes "alone left" ++ 10 ∷ []
last_line (Some Right) = codes "alone right" ++ 10 ∷ []

-- What is put once a run has ended so, and how the whole ends.
pub record PutsSide {K : Type 0} (to : sinks.Ghosts K) (ran : Status) (alone : Option Side) (result : Status)
    (replied sink' : K) : Type 0 where
  -- After a run that is done the line of the side is put, or the sink fails in it; after one that ended early nothing more is put.
  pub last : PrintsLast to ran (last_line alone) result replied sink'
  -- Nor while both sides are in use.
  pub both : alone ≡ None → (result ≡ ran) × (sink' ≡ replied)

-- A session over a mirror

-- A session over a mirror: the side that the mirror is opened from, how it ended, the one side that is still in use then, its disks, its
-- source and its sink, and the counter of words as it began and as it ended.
pub record MirrorSession (D E S K : Type 0) : Type 1 where
  pub from : Side
  pub result : Status
  pub alone : Option Side
  pub left : DiskUse D
  pub right : DiskUse E
  pub source : SourceUse S
  pub sink : SinkUse K
  pub steps : ℕ
  pub steps' : ℕ

abbrev pub session_over : {D E S K : Type 0} → Side → Status → Option Side → DiskUse D → DiskUse E → SourceUse S → SinkUse K → ℕ → ℕ
    → MirrorSession D E S K
session_over from result alone left right source sink steps steps' = record {
  from = from;
  result = result;
  alone = alone;
  left = left;
  right = right;
  source = source;
  sink = sink;
  steps = steps;
  steps' = steps';
}

-- what a mirror of its disks tells
abbrev pub both : {D E S K : Type 0} → MirrorSession D E S K → disks.Ghosts (Two D E)
both m = mirror m.left.facts m.right.facts

-- what holds of what reads of the disk on its side give, and of what they would give of the mirror
abbrev pub OfSideRead : {D E S K : Type 0} → MirrorSession D E S K → (Image → Type 0) → Type 0
OfSideRead m P = ForSome (seen_on m.left.facts m.right.facts m.from m.left.old m.right.old) P

abbrev pub OfMirrorRead : {D E S K : Type 0} → MirrorSession D E S K → (Image → Type 0) → Type 0
OfMirrorRead m P = ForSome (seen_behind m.left.facts m.right.facts m.from m.left.old m.right.old) P

-- nothing is written on a disk
abbrev pub IsUnwritten : {D : Type 0} → DiskUse D → Type 0
IsUnwritten d = WritesNothing d.facts d.old d.new

-- the blocks that a mirror of its disks has
abbrev pub blocks_of_both : {D E S K : Type 0} → MirrorSession D E S K → ℕ
blocks_of_both m = min (m.left.facts.block_count m.left.old) (m.right.facts.block_count m.right.old)

-- What a command keeps that runs over a mirror

-- The disk on the side that the mirror was to be opened from failed meanwhile: no mirror, no write on it, some of it copied to the other
-- one, and nothing else was done.
pub record IsNotOpened {D E S K : Type 0} (m : MirrorSession D E S K) : Type 0 where
  pub status : m.result ≡ status.Disk
  pub none : m.alone ≡ None
  pub failed : OfSide m.from (DiskRose m.left) (DiskRose m.right)
  pub kept : OfSide m.from (IsUnwritten m.left) (IsUnwritten m.right)
  pub copied : OfSide m.from
      (CopyHolds m.right.facts (blocks_of_both m) (m.left.facts.seen m.left.old) m.right.old m.right.new)
      (CopyHolds m.left.facts (blocks_of_both m) (m.right.facts.seen m.right.old) m.left.old m.left.new)
  pub nothing : (m.source.new ≡ m.source.old) × (m.sink.new ≡ m.sink.old) × (m.steps' ≡ m.steps)

-- The first two blocks that the mirror was to have tell of no volume: no mirror, no write on either disk, nothing was taken, and the
-- line of it was put.
pub record IsRefused {D E S K : Type 0} (m : MirrorSession D E S K) : Type 0 where
  -- They tell of this kind of none, and the mirror would have held none of this kind.
  pub kind : VolumeRead
  pub fault : OfMirrorRead m (λ image. first_fault image ≡ Some kind)
  pub is : OfMirrorRead m (λ image. volume image ≡ kind)
  pub no_state : IsNoState kind
  -- Its line was put, or the sink failed in it.
  pub line : ((m.result ≡ status.NoVolume) × Prints m.sink (check_line kind))
      ⊎ ((m.result ≡ status.Sink) × PrintsPrefix m.sink (check_line kind) × SinkRose m.sink)
  pub none : m.alone ≡ None
  -- SIDE's disk was read alone, and the other one was left alone.
  pub kept : OfSide m.from
      (IsUnwritten m.left × (m.right.new ≡ m.right.old)) (IsUnwritten m.right × (m.left.new ≡ m.left.old))
  pub nothing : (m.source.new ≡ m.source.old) × (m.steps' ≡ m.steps)

-- The lines ran on a mirror.
pub record RanOnMirror {D E S K : Type 0} (m : MirrorSession D E S K) : Type 0 where
  -- The mirror as it was opened, and as it was at the end: its disks are those that are given back, and its side in use is the one
  -- that is told.
  pub opened : Two D E
  pub opens : IsOpenedFrom m.left.facts m.right.facts m.from m.left.old m.right.old opened
  -- Its first two blocks told of no fault.
  pub no_fault : OfMirrorRead m (λ image. first_fault image ≡ None)
  pub failed : ℕ
  pub closed : Two D E
  pub closes : closed ≡ record { left = m.left.new; right = m.right.new; blocks = opened.blocks; alone = m.alone; failed = failed }
  -- A disk that was dropped within the copy is left as the copy left it.
  pub dropped_right : opened.alone ≡ Some Left → m.right.new ≡ opened.right
  pub dropped_left : opened.alone ≡ Some Right → m.left.new ≡ opened.left
  -- How the run ended, and the sink once all replies were put.
  pub ran : Status
  pub replied : K
  -- Of the mirror the run keeps what `run` keeps of a disk, in batches of one reply.
  pub keeps : RunKeeps (session_of 1 ran (use_of (both m) opened closed) m.source
      (use_of m.sink.facts m.sink.old replied) m.steps m.steps')
  -- Then the line of the side is put.
  pub ends : PutsSide m.sink.facts ran m.alone m.result replied m.sink.new
  -- What was put is a prefix of the replies to the whole input and that line; at the end it is all of them.
  pub prefix : OnVolume ((both m).seen opened) (λ state. OfInput m.source (λ input.
      PrintsPrefix m.sink (replies_text state (lines input) ++ last_line m.alone)))
  pub done : m.result ≡ status.Done → OnVolume ((both m).seen opened) (λ state. OfInput m.source (λ input.
      (left_now m.source ≡ Some []) × Prints m.sink (replies_text state (lines input) ++ last_line m.alone)))
  -- What a stop may leave now of a disk that is in use, cut to the mirror's blocks, it may leave of the mirror: what is kept of the
  -- mirror is kept of that disk.
  pub left_held : m.alone ≢ Some Right → IsTrue (m.right.facts.tells_stops m.right.new) →
      (c : Image) → CutOf opened.blocks (MayLeave m.left) c → MayLeave (use_of (both m) opened closed) c
  pub right_held : m.alone ≢ Some Left → IsTrue (m.left.facts.tells_stops m.left.new) →
      (c : Image) → CutOf opened.blocks (MayLeave m.right) c → MayLeave (use_of (both m) opened closed) c
  -- The run failed at the disk only where the counts of both disks rose since the call began.
  pub both_failed : m.result ≡ status.Disk → DiskRose m.left × DiskRose m.right
  -- Where they did not, no call of the source or the sink failed, reads give a volume and the input is not too long, all is done, or
  -- memory was wanting.
  pub complete : OnVolume ((both m).seen opened) (λ _. (DiskRose m.left × DiskRose m.right → ⊥) → (SourceRose m.source → ⊥)
      → (SinkRose m.sink → ⊥) → IfShort m.source (IsDoneOrMemory m.result))

-- What `LEFT mirror RIGHT SIDE` keeps.
pub record MirrorKeeps {D E S K : Type 0} (m : MirrorSession D E S K) : Type 0 where
  -- The lines ran on a mirror, unless the disk on SIDE failed while it was opened, or its first two blocks tell of no volume.
  pub how : IsNotOpened m ⊎ (IsRefused m ⊎ RanOnMirror m)
  -- Where SIDE's first two blocks tell of no volume, or those that the mirror was to have do, nothing is written on either disk, at
  -- each status.
  pub side_judged : OfSideRead m (λ image. first_fault image ≢ None → IsUnwritten m.left × IsUnwritten m.right)
  pub judged : OfMirrorRead m (λ image. first_fault image ≢ None → IsUnwritten m.left × IsUnwritten m.right)
  -- It ends in one of the ways of `run`.
  pub which : EndsRun m.result
  -- The disk is told to have failed only where the count of SIDE's disk rose.
  pub disk_failed : m.result ≡ status.Disk → OfSide m.from (DiskRose m.left) (DiskRose m.right)
  -- One side is told to stand alone only where the count of the other one's disk rose.
  pub right_failed : m.alone ≡ Some Left → DiskRose m.right
  pub left_failed : m.alone ≡ Some Right → DiskRose m.left
  -- The sink failed only where its count rose.
  pub sink_failed : m.result ≡ status.Sink → SinkRose m.sink

-- What is kept where the words are no such: both disks and the source are left alone, no side is told, and the counter
-- of words does not rise.
pub record NoMirrorKeeps {D E S K : Type 0} (to : sinks.Ghosts K) (result : Status) (alone : Option Side)
    (left left' : D) (right right' : E) (source source' : S) (sink sink' : K) (steps steps' : ℕ) : Type 0 where
  pub usage : UsageKeeps {D = D × E} to result (left, right) (left', right') source source' sink sink'
  pub none : alone ≡ None
  pub steps_alone : steps' ≡ steps
