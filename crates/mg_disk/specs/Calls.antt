-- The calls of the trait, each as one word: what a disk's own method says, besides what it says of the disk's kind.
use Rattle.std.specs.{Option.ForSome, Prelude.{◌≡◌, ℕ, List, Result, OnOk, OnErr, length, option_map, slice_set}}
use Rattle.mg_disk.specs.Disk.{HasBlocks, Image, InRange, block_at, SeenBut, only_place, no_image, TornAt}
use Rattle.mg_disk.specs.{Stops.{NothingPending, TimeGoes, CountGoes, CountRose}, declared.disk.Disk.Ghosts}

module _ {D T E : Type 0} (facts : Ghosts D) (old new : D) where
  -- whatever a call answers
  pub record KeepsRules (fresh : Image → Type 0) (result : Result T E) : Type 0 where
    pub stops : TimeGoes facts old new fresh
    pub blocks : facts.block_count new ≡ facts.block_count old
    pub tells : facts.tells_stops new ≡ facts.tells_stops old
    pub count : CountGoes facts old new
    pub cause : OnErr result (CountRose facts old new)

  -- a read of block i
  pub record IsRead (i : ℕ) (out : List ℕ) (result : Result T E) : Type 0 where
    pub block : OnOk result (ForSome (facts.seen old) (λ image. out ≡ block_at image i))
    pub seen : facts.seen new ≡ facts.seen old
    pub rules : KeepsRules no_image result

  -- a write of block i
  pub record IsWrite (i : ℕ) (from : List ℕ) (result : Result T E) : Type 0 where
    pub written : OnOk result (facts.seen new ≡ option_map (λ image. slice_set image i from) (facts.seen old))
    pub unknown : OnErr result (SeenBut (only_place i) (facts.seen old) (facts.seen new))
    pub rules : KeepsRules (TornAt (only_place i) ((facts.time old).left_since (facts.time old).moment)) result

  -- a read of `count` blocks next to each other, the first of them at this place
  pub record IsReadRun (first count : ℕ) (out : Image) (result : Result T E) : Type 0 where
    pub read : OnOk result (ForSome (facts.seen old) (HasBlocks first out))
    pub room : length out ≡ count
    pub seen : facts.seen new ≡ facts.seen old
    pub rules : KeepsRules no_image result

  -- a write of blocks next to each other, the first of them at this place
  pub record IsWriteRun (first : ℕ) (from : Image) (result : Result T E) : Type 0 where
    pub written : OnOk result (ForSome (facts.seen new) (HasBlocks first from))
    pub unknown : SeenBut (InRange first (length from)) (facts.seen old) (facts.seen new)
    pub rules : KeepsRules (TornAt (InRange first (length from)) ((facts.time old).left_since (facts.time old).moment)) result

  -- a sync
  pub record IsSync (result : Result T E) : Type 0 where
    pub durable : OnOk result (NothingPending facts new)
    pub seen : facts.seen new ≡ facts.seen old
    pub rules : KeepsRules no_image result
