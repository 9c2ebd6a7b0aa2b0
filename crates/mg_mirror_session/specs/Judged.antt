-- What the first two blocks of an image tell: that it holds no volume, and which kind of none.
use Rattle.std.specs.{Option.ForSome, Prelude.{◌≡◌, if◌then◌else◌, Option, Some, None, Result, IfOk, OnOk, OnErr}}
use Rattle.{mg_check.specs.declared.examining.OpenFault.OpenFault, mg_disk.specs.Disk.{HasBlocks, Image}}
use Rattle.{mg_disk.specs.Stops.{CountGoes, CountRose, WritesNothing}, mg_model.specs.Layout.super_block}
use Rattle.mg_model.specs.{Replay.block_of, Spelling.{BadSuper, NotSuper, OldSuper, Spells, SuperRead, super_read}}
use Rattle.mg_model.specs.Volume.{Damaged, NotVolume, OldVolume, VolumeRead, has_open_gate}
use Rattle.mg_check.specs.declared.examining.OpenFault.TheVariants as fault
use Rattle.mg_disk.specs.declared.disk.Disk as disks

-- the kind of none that a superblock tells of, if it does
abbrev pub super_fault : SuperRead → Option VolumeRead
super_fault NotSuper = Some NotVolume
super_fault OldSuper = Some OldVolume
super_fault BadSuper = Some Damaged
super_fault (Spells settings) = None

-- The kind of none that the first two blocks of an image tell of: the gate, which has to be open, and the superblock. None where they
-- tell of no fault; then the blocks behind them say whether it holds a volume.
unfoldable pub first_fault : Image → Option VolumeRead
first_fault image = if has_open_gate image then super_fault (super_read (block_of image super_block)) else Some NotVolume

-- a fault of opening is of this kind, or neither is one
abbrev pub IsKind : Option OpenFault → Option VolumeRead → Type 0
IsKind None kind = kind ≡ None
IsKind (Some fault.Not) kind = kind ≡ Some NotVolume
IsKind (Some fault.Old) kind = kind ≡ Some OldVolume
IsKind (Some fault.Damaged) kind = kind ≡ Some Damaged
IsKind (Some fault.Disk) kind = ⊥
IsKind (Some fault.Memory) kind = ⊥

-- The first blocks of a disk were read, nothing was written on it, and what the first two tell is said.
pub record IsJudged {D F : Type 0} (d : disks.Ghosts D) (old new : D) (first : Image) (result : Result (Option OpenFault) F) : Type 0 where
  pub read : OnOk result (ForSome (d.seen old) (HasBlocks 0 first))
  pub kind : IfOk result (λ said. IsKind said (first_fault first))
  pub writes : WritesNothing d old new
  pub blocks : d.block_count new ≡ d.block_count old
  pub tells : d.tells_stops new ≡ d.tells_stops old
  pub count : CountGoes d old new
  pub cause : OnErr result (CountRose d old new)
