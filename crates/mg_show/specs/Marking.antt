-- A mark for each object of what capabilities give: a byte of rights, or a rank, which is one more than the fewest steps to the object.
use Rattle.std.specs.{List.{AllWithin, list_any}, Option.ForSome, Prelude.{◌≡◌, ℕ, ◌<◌, ◌≤◌, ◌==◌, ◌&&◌, ◌||◌, nat_le}}
use Rattle.std.specs.Prelude.{not, Bool, List, length, map, None, Option, slice_index, slice_index_or}
use Rattle.{mg_check.specs.Reads.contents, mg_disk.specs.Disk.Image, mg_model.specs.State.ObjectRow}
use Rattle.{mg_model.specs.declared.slots.Slot.Slot, mg_show.specs.Writing.{Held, Reads}}
use Rattle.mg_disk.specs.declared.disk.Disk as disks

-- slots as capabilities
abbrev pub named_by : List Slot → List (ℕ × ℕ)
named_by slots = map (λ (slot : Slot). (slot.base, slot.password)) slots

-- whether a capability that names the object gives it this: a right, or that it is reached in fewer than so many steps
abbrev pub given : {Key : Type 0} → (ObjectRow → ℕ → Key → Bool) → List (ℕ × ℕ) → ObjectRow → Key → Bool
given gives capabilities row key = list_any (λ (entry : ℕ × ℕ). entry.0 == row.base && gives row entry.1 key) capabilities

-- whether an object with this rank is reached in fewer than n steps; rank 0 is that of one that is not reached so far
abbrev pub is_within : ℕ → ℕ → Bool
is_within rank n = not (rank == 0) && nat_le rank n

-- what is named gets a rank
abbrev pub gives_rank : ℕ → ObjectRow → ℕ → ℕ → Bool
gives_rank rank row password n = nat_le rank n

-- a mark for each object has what it had and what the capabilities give
pub record Marks {Key : Type 0} (has : ℕ → Key → Bool) (gives : ObjectRow → ℕ → Key → Bool) (objects : List (ℕ × ObjectRow))
    (capabilities : List (ℕ × ℕ)) (marks marks' : List ℕ) : Type 0 where
  pub long : length marks' ≡ length marks
  pub are : (i : ℕ) → i < length objects → (d : ℕ × ObjectRow) → (key : Key)
      → has (slice_index marks' i) key ≡ (has (slice_index marks i) key || given gives capabilities (slice_index_or objects i d).1 key)

-- What a call that reads finds of the contents, unless a read fails.
pub record Learns {D : Type 0} (facts : disks.Ghosts D) (of : Image → Option Image) (P : Image → Type 0) (disk disk' : D) (out out' : Held)
    : Type 0 where
  pub is : out'.fault ≡ None → ForSome (contents facts of disk) P
  pub reads : Reads facts disk disk' out out'

-- What a call that reads lists does to the marks: without a fault they have what the capabilities of the contents give.
pub record Finds {D Key : Type 0} (facts : disks.Ghosts D) (of : Image → Option Image) (has : ℕ → Key → Bool)
    (gives : ObjectRow → ℕ → Key → Bool) (objects : List (ℕ × ObjectRow)) (capabilities : Image → List (ℕ × ℕ)) (disk disk' : D)
    (marks marks' : List ℕ) (out out' : Held) : Type 0 where
  pub learns : Learns facts of (λ r. Marks has gives objects (capabilities r) marks marks') disk disk' out out'
  pub long : length marks' ≡ length marks

-- the object with this base is the one at place i, and no other
pub record IsPlaceOf (objects : List (ℕ × ObjectRow)) (base i : ℕ) : Type 0 where
  pub within : i < length objects
  pub is : (d : ℕ × ObjectRow) → (slice_index_or objects i d).1.base ≡ base
  pub only : (j : ℕ) → j < length objects → (d : ℕ × ObjectRow) → (slice_index_or objects j d).1.base ≡ base → j ≡ i

-- so many objects begin before an address, and the others at it or behind it
pub record IsCut (objects : List (ℕ × ObjectRow)) (base n : ℕ) : Type 0 where
  pub within : n ≤ length objects
  pub before : AllWithin (λ (o : ℕ × ObjectRow). o.1.base < base) objects 0 n
  pub behind : AllWithin (λ (o : ℕ × ObjectRow). base ≤ o.1.base) objects n (length objects)
