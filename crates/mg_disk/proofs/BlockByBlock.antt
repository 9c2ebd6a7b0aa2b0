-- What lasts while blocks are read or written next to each other, one call for each block.
use Rattle.mg_disk.specs.{Disk.{Image, InRange, SeenBut, TornAt, no_image}, PlaceLemmas.HasFirst, Stops.{CountGoes, TimeGoes}}
use Rattle.{mg_disk.specs.declared.disk.Disk.Ghosts, std.specs.{Option.ForSome, Prelude.{◌≡◌, ℕ, length}}}

module _ {D : Type 0} (facts : Ghosts D) where
  -- the first n blocks were written, and no other place was
  pub record ArePutSoFar (first : ℕ) (from : Image) (n : ℕ) (old new : D) : Type 0 where
    pub put : ForSome (facts.seen new) (HasFirst first from n)
    pub seen : SeenBut (InRange first n) (facts.seen old) (facts.seen new)
    pub stops : TimeGoes facts old new (TornAt (InRange first n) ((facts.time old).left_since (facts.time old).moment))
    pub blocks : facts.block_count new ≡ facts.block_count old
    pub tells : facts.tells_stops new ≡ facts.tells_stops old
    pub count : CountGoes facts old new

  -- the first n blocks were read
  pub record AreReadSoFar (first : ℕ) (out : Image) (n room : ℕ) (old new : D) : Type 0 where
    pub read : ForSome (facts.seen old) (HasFirst first out n)
    pub length_is : length out ≡ room
    pub seen : facts.seen new ≡ facts.seen old
    pub stops : TimeGoes facts old new no_image
    pub blocks : facts.block_count new ≡ facts.block_count old
    pub tells : facts.tells_stops new ≡ facts.tells_stops old
    pub count : CountGoes facts old new
