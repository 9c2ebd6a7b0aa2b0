-- What a stop within the copy leaves of the other disk, as the promise speaks of it.
use Rattle.mg_disk.specs.{Disk.{Image, SameBut, only_place}, PlaceLemmas.same_as, Runs.{leaves_quiet, leaves_then, leaves_wider, leaves_yet}}
use Rattle.{mg_disk.specs.Stops.{FromLeft, WritesNothing}, mg_layout.specs.GateLemmas.gate_alone, mg_mirror.specs.Copy.{LeavesCopy, MayCopy}}
use Rattle.mg_mirror.specs.{Copy.first_byte, declared.mirror.Side.{Side, TheVariants.{Left, Right}}}
use Rattle.mg_mirror_session.{proofs.FirstFault.{fault-closed, fault-short}, specs.{Headline.{CopyHolds, MayHold}, Judged.first_fault, Ran.out_left}}
use Rattle.{mg_mirror_session.specs.Ran.out_right, mg_model.specs.{Layout.{gate_block, gate_open}, Volume.{IsOpened, NotVolume, gate_byte, volume}}}
use Rattle.{mg_model.specs.VolumeLemmas.{volume-closed, volume-same_behind, volume-short}, std.proofs.Common.{refl, sym, ap, ◌∙◌, inl, inr, ⊎_elim}}
use Rattle.std.proofs.{Common.arith, Math.Nat.min-le_left, lemmas.{Bool.{cases_eq, cases_lt}, List.{get_or-take, length-take}}}
use Rattle.std.specs.{Option.ForSome, Prelude.{ℕ, ◌≡◌, ◌⊎◌, ◌≤◌, List, [], length, slice_index, take, Option, Some, None}}
use Rattle.mg_disk.specs.declared.disk.Disk as disks

some_none : {A : Type 0} (x : A) → Some x ≡ None → ⊥
some_none x is = cc

-- an image whose first two blocks tell of no fault has an open gate
is_opened : (image : Image) → first_fault image ≡ None → IsOpened image
is_opened image none = record {
  long = ⊎_elim (λ short. absurd (some_none NotVolume (sym (fault-short image short) ∙ none))) (λ long. long) (cases_lt (length image) 2);
  gate = ⊎_elim (λ is. is) (λ closed. absurd (some_none NotVolume (sym (fault-closed image closed) ∙ none))) (cases_eq (gate_byte image) gate_open);
}

-- a closed block 0 is a closed gate, cut too
cut_closed : (n : ℕ) (c : Image) → first_byte c ≡ 0 → volume (take n c) ≡ NotVolume
cut_closed n c zero = ⊎_elim (λ short. volume-short (take n c) short) long (cases_lt (length (take n c)) 2)
  where
    long : 2 ≤ length (take n c) → volume (take n c) ≡ NotVolume
    long more =
        let count = length-take n c in
        let low = min-le_left n (length c) in
        let gate : gate_byte (take n c) ≡ 0 = ap (λ (block : List ℕ). slice_index block 0) (get_or-take n c gate_block [] (omega arith)) ∙ zero in
        volume-closed (take n c) (λ is. let both : 0 ≡ gate_open = sym gate ∙ is in omega arith)

-- what has all blocks of x but block 0
as_copied : (x c : Image) → IsOpened x → SameBut (only_place 0) x c → (volume c ≡ NotVolume) ⊎ (volume c ≡ volume x)
as_copied x c opened same = ⊎_elim opens (λ not. inl (volume-closed c not)) (cases_eq (gate_byte c) gate_open)
  where
    opens : gate_byte c ≡ gate_open → (volume c ≡ NotVolume) ⊎ (volume c ≡ volume x)
    opens gate = ⊎_elim (λ short. inl (volume-short c short)) (λ long. inr (volume-same_behind c x (record { long = long; gate = gate }) opened same.count (λ k low. same.others k (λ e. omega arith)))) (cases_lt (length c) 2)

holds_before : (n : ℕ) (image x c : Image) → SameBut (only_place 0) (take n image) (take n c) → MayHold n image x c
holds_before n image x c same = ⊎_elim (λ none. inl none) (λ before. inr (inl before)) (gate_alone (take n image) (take n c) same)

holds : (n : ℕ) (image x c : Image) → IsOpened (take n x) → MayCopy n image x c → MayHold n image x c
holds n image x c opened may =
    ⊎_elim (holds_before n image x c) (λ more. ⊎_elim (λ zero. inl (cut_closed n c zero)) (λ same. ⊎_elim (λ none. inl none) (λ copied. inr (inr copied)) (as_copied (take n x) (take n c) opened same)) more) may

module _ {E : Type 0} (e : disks.Ghosts E) (n : ℕ) where
  pub copy_holds : (from : Option Image) (to to' : E) → ForSome from (λ x. first_fault (take n x) ≡ None) → LeavesCopy e n from to to' → CopyHolds e n from to to'
  copy_holds from to to' none leaves x read =
      leaves_wider e to to' (FromLeft e to (λ image. MayCopy n image x)) (FromLeft e to (λ image. MayHold n image x)) (leaves x read) (λ c may. (may.0, may.1, holds n may.0 x c (is_opened (take n x) (none x read)) may.2))

  -- nothing was written
  pub copy_none : (from : Option Image) (to to' : E) → (e.time to).has_been (e.time to).moment → WritesNothing e to to' → CopyHolds e n from to to'
  copy_none from to to' been none x read =
      leaves_quiet e to to to' (FromLeft e to (λ image. MayHold n image x))
      (leaves_yet e to (FromLeft e to (λ image. MayHold n image x)) been (λ c left. (c, left, holds_before n c x c (same_as (only_place 0) (take n c) (take n c) refl)))) none.stops

  -- both disks were read before, or left alone
  pub copy_since : (was from : Option Image) (to mid to' : E) → from ≡ was → (e.time to).has_been (e.time to).moment → WritesNothing e to mid → CopyHolds e n from mid to' → CopyHolds e n was to to'
  copy_since was from to mid to' same been none leaves x read =
      leaves_then e to mid to' (FromLeft e mid (λ image. MayHold n image x)) (FromLeft e to (λ image. MayHold n image x)) (copy_none was to mid been none x read) (leaves x (same ∙ read))
      (λ c may. (may.0, ⊎_elim (λ before. before) (λ none. absurd none) (none.stops.now may.0 may.1), may.2))

none_some : {A : Type 0} (x : A) → None ≡ Some x → ⊥
none_some x is = cc

some_is : {A : Type 0} (x y : A) → Some x ≡ Some y → x ≡ y
some_is x y is = cc

pub left_stayed : {D : Type 0} (alone : Option Side) (disk last : D) → ForSome (out_left alone disk) (λ d. last ≡ d) → alone ≡ Some Right → last ≡ disk
left_stayed alone disk last known is = known disk (ap (λ a. out_left a disk) is)

pub right_stayed : {E : Type 0} (alone : Option Side) (disk last : E) → ForSome (out_right alone disk) (λ e. last ≡ e) → alone ≡ Some Left → last ≡ disk
right_stayed alone disk last known is = known disk (ap (λ a. out_right a disk) is)
