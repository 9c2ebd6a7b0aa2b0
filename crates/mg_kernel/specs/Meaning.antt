-- What a kernel is, as functions of the value and an image. The layers above see these words by their names.
use Rattle.std.{proofs.Common.ap, specs.{Option.ForSome, Prelude.{◌≡◌, ◌≤◌, ℕ, Bool, List, Option}}}
use Rattle.{mg_access.specs.Known.rows_know, mg_disk.specs.{Disk.Image, Stops.NothingPending}}
use Rattle.{mg_disk.specs.declared.disk.Disk.Ghosts, mg_kernel.specs.declared.kernel.Kernel.Kernel}
use Rattle.mg_model.specs.{Keys.Key, State.State, Volume.{Is, volume}, WellFormed.IsWellFormed}
use Rattle.{mg_model.specs.declared.{rights.Right.Right, seats.Seat.Seat}, mg_vcache.specs.Seats.{AllBacked, is_kept}}
use Rattle.mg_volume.specs.StateLemmas as laws
use Rattle.mg_volume.specs.Meaning as held

-- the machine's state
unfoldable pub now_of : Kernel → Image → State
now_of k image = held.now_of k.volume image

-- the image is a volume, what the kernel holds is what the image spells and what is staged, and the state is well formed
pub record Spelled (k : Kernel) (image : Image) : Type 0 where
  pub fitting : held.IsSpelledBy k.volume image
  pub formed : IsWellFormed (held.now_of k.volume image)

unfoldable pub IsSpelledBy : Kernel → Image → Type 0
IsSpelledBy k image = Spelled k image

-- the blocks that are staged, each with its bytes, and how many they are
unfoldable pub staged_in : Kernel → List (ℕ × List ℕ)
staged_in k = held.staged_in k.volume

unfoldable pub staged_of : Kernel → ℕ
staged_of k = held.staged_of k.volume

-- no commit has failed
unfoldable pub is_live : Kernel → Bool
is_live k = held.is_live k.volume

-- how many blocks the volume needs
unfoldable pub total_of : Kernel → ℕ
total_of k = held.total_of k.volume

-- how many words were read and written, modulo 2^64
unfoldable pub words_in : Kernel → ℕ
words_in k = held.words_in k.volume

-- the seats of the validation cache
unfoldable pub seats_in : Kernel → List (Option Seat)
seats_in k = k.cache

-- whether a key is kept
unfoldable pub keeps_key : Kernel → Key → Bool
keeps_key k key = is_kept k.cache key

-- whether the key of an access of a thread to an address with a right is kept; the rows that are held give the object
unfoldable pub knows : Kernel → ℕ → ℕ → Right → Bool
knows k t address right = rows_know (held.objects_in k.volume) k.cache t address right

-- The kernel stands on the disk: nothing is pending, it fits what reads give, and each right that is kept is one that the
-- state gives.
pub record StandsOn {D : Type 0} (facts : Ghosts D) (k : Kernel) (disk : D) : Type 0 where
  pub room : total_of k ≤ facts.block_count disk
  pub settled : NothingPending facts disk
  pub fits : ForSome (facts.seen disk) (λ image. IsSpelledBy k image)
  pub backed : ForSome (facts.seen disk) (λ image. AllBacked (now_of k image) (seats_in k))

-- when nothing is staged the kernel's state is what is kept
pub now_kept : (k : Kernel) (image : Image) → IsSpelledBy k image → staged_of k ≡ 0 → volume image ≡ Is (now_of k image)
unfolding IsSpelledBy staged_of now_of
now_kept k image is none = laws.now_kept k.volume image is.fitting none

-- if what is staged stays, its number stays
pub same_number : (a b : Kernel) → staged_in b ≡ staged_in a → staged_of b ≡ staged_of a
unfolding staged_in staged_of
same_number a b same = laws.same_number a.volume b.volume same

-- when the seats stay, each key stays kept
pub same_keys : (a b : Kernel) → seats_in b ≡ seats_in a → (key : Key) → keeps_key b key ≡ keeps_key a key
unfolding seats_in keeps_key
same_keys a b same key = ap (λ seats. is_kept seats key) same
