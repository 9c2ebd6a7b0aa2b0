-- Images of a kind, and changes of one.
use Rattle.std.{proofs.Common.{sym, ap, ◌∙◌, subst}, specs.Prelude.{◌≡◌, ℕ, List, length, replicate, Contains, Some}}
use Rattle.std.specs.{Prelude.Vec, Vec.vec_len}
use Rattle.mg_disk.specs.Disk.{Image, block_at, SameBut, AreBytes}

-- a block of zeros
abbrev pub zero_block : List ℕ
zero_block = replicate 4096 0

-- `blocks` blocks of zeros
abbrev pub zeros_of : ℕ → Image
zeros_of blocks = replicate blocks zero_block

-- a block of gates
abbrev pub gates_block : List ℕ
gates_block = replicate 4096 0xA5

-- this image with gates at these places
pub record IsGated (places : List ℕ) (old new : Image) : Type 0 where
  pub elsewhere : SameBut (Contains places) old new
  pub gates : (k : ℕ) → Contains places k → block_at new k ≡ gates_block

some_inj : {A : Type 0} (x y : A) → Some x ≡ Some y → y ≡ x
some_inj x y is = cc

-- a vector shows as many blocks as it has
pub told_count : {Z : Type 0} (v : Vec (List ℕ) Z) (image : Image) → Some v.items ≡ Some image → length image ≡ vec_len v
told_count v image is = ap length (some_inj v.items image is) ∙ sym v.ok.0

-- the blocks that are shown are bytes
pub told_bytes : (blocks : Image) → AreBytes blocks → (image : Image) → Some blocks ≡ Some image → AreBytes image
told_bytes blocks are image is = subst AreBytes (sym (some_inj blocks image is)) are
