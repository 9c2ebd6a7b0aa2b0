-- What the first two blocks of an image tell of the whole of it.
use Rattle.{mg_disk.specs.Disk.{HasBlocks, Image}, mg_mirror_session.specs.Judged.{first_fault, super_fault}, mg_model.specs.Layout.gate_open}
use Rattle.mg_model.specs.{Layout.super_block, Replay.block_of, Spelling.{BadSuper, NotSuper, OldSuper, Spells, SuperRead, super_read}}
use Rattle.{mg_model.specs.Volume.{Damaged, NotVolume, OldVolume, VolumeRead, gate_byte, has_open_gate, volume, volume_behind}, std.proofs.Common.sym}
use Rattle.std.proofs.{Common.{ap, subst, ◌∙◌, ⊎_elim, arith}, lemmas.Bool.{and_left, and_right, cases_lt, eq-eqb, le-leb, lt-leb, ne_eqb}}
use Rattle.std.{proofs.lemmas.List.{get_or-take, length-take-le}, specs.Prelude.{◌≡◌, ◌≢◌, ◌<◌, ◌≤◌, ◌+◌, ◌==◌, ◌&&◌, ℕ, nat_le, Bool, true, false}}
use Rattle.std.specs.Prelude.{List, [], if◌then◌else◌, length, min, slice_index, take, Option, Some, None}

some_inj : {A : Type 0} (x y : A) → Some x ≡ Some y → x ≡ y
some_inj x y is = cc

none_some : {A : Type 0} (y : A) → None ≡ Some y → ⊥
none_some y is = cc

-- where they tell of a fault, the image holds no volume, of that kind
behind_fault : (image : Image) (super : SuperRead) (kind : VolumeRead) → super_fault super ≡ Some kind → volume_behind image super ≡ kind
behind_fault image NotSuper kind is = some_inj NotVolume kind is
behind_fault image OldSuper kind is = some_inj OldVolume kind is
behind_fault image BadSuper kind is = some_inj Damaged kind is
behind_fault image (Spells settings) kind is = absurd (none_some kind is)

gated_fault : (image : Image) (gated : Bool) (super : SuperRead) (kind : VolumeRead) → (if gated then super_fault super else Some NotVolume) ≡ Some kind
    → (if gated then volume_behind image super else NotVolume) ≡ kind
gated_fault image true super kind is = behind_fault image super kind is
gated_fault image false super kind is = some_inj NotVolume kind is

pub fault_volume : (image : Image) (kind : VolumeRead) → first_fault image ≡ Some kind → volume image ≡ kind
unfolding first_fault volume
fault_volume image kind is = gated_fault image (has_open_gate image) (super_read (block_of image super_block)) kind is

-- the cases
fault_by : Bool → List ℕ → Option VolumeRead
fault_by gated block = if gated then super_fault (super_read block) else Some NotVolume

pub fault-short : (image : Image) → length image < 2 → first_fault image ≡ Some NotVolume
unfolding first_fault fault_by
fault-short image short = ap (λ b. fault_by b (block_of image super_block)) (and_left (nat_le 2 (length image)) (gate_byte image == gate_open) (lt-leb 2 (length image) short))

pub fault-closed : (image : Image) → gate_byte image ≢ gate_open → first_fault image ≡ Some NotVolume
unfolding first_fault fault_by
fault-closed image closed = ap (λ b. fault_by b (block_of image super_block)) (and_right (nat_le 2 (length image)) (gate_byte image == gate_open) (ne_eqb (gate_byte image) gate_open closed))

pub fault-behind : (image : Image) → 2 ≤ length image → gate_byte image ≡ gate_open → first_fault image ≡ super_fault (super_read (block_of image super_block))
unfolding first_fault
fault-behind image long opened =
    let two = le-leb 2 (length image) long in
    let gate = eq-eqb (gate_byte image) gate_open opened in
    rw (two, gate)

-- images with the same first two blocks
pub fault-same : (a b : Image) → 2 ≤ length a → 2 ≤ length b → ((k : ℕ) → k < 2 → block_of a k ≡ block_of b k) → first_fault a ≡ first_fault b
unfolding first_fault fault_by
fault-same a b long long' each =
    ap (λ two. fault_by (two && gate_byte a == gate_open) (block_of a super_block)) (le-leb 2 (length a) long ∙ sym (le-leb 2 (length b) long'))
    ∙ ap (λ (gate : List ℕ). fault_by (nat_le 2 (length b) && slice_index gate 0 == gate_open) (block_of a super_block)) (each 0 (omega arith))
    ∙ ap (λ block. fault_by (has_open_gate b) block) (each super_block (omega arith))

-- a run of first blocks, cut where the smaller disk ends
pub fault-read : (n room : ℕ) (first image : Image) → 2 ≤ room → length first ≡ min n room → n ≤ length image → HasBlocks 0 first image → first_fault first ≡ first_fault (take n image)
fault-read n room first image some is within read = ⊎_elim short enough (cases_lt n 2)
  where
    taken : length (take n image) ≡ n
    taken = length-take-le n image within

    short : n < 2 → first_fault first ≡ first_fault (take n image)
    short few = fault-short first (omega arith) ∙ sym (fault-short (take n image) (omega (arith, taken)))

    enough : 2 ≤ n → first_fault first ≡ first_fault (take n image)
    enough more = fault-same first (take n image) (omega arith) (omega (arith, taken)) each
      where
        each : (k : ℕ) → k < 2 → block_of first k ≡ block_of (take n image) k
        each k low =
            let place : 0 + k ≡ k = omega arith in
            sym (get_or-take n image k [] (omega arith) ∙ subst (λ j. block_of image j ≡ block_of first k) place (read k (omega arith)))

-- where those of an image tell of a fault, those of its first blocks do
pub fault-cut : (n : ℕ) (image : Image) → n ≤ length image → first_fault image ≢ None → first_fault (take n image) ≢ None
fault-cut n image within some = ⊎_elim short enough (cases_lt n 2)
  where
    taken : length (take n image) ≡ n
    taken = length-take-le n image within

    short : n < 2 → first_fault (take n image) ≢ None
    short few is = none_some NotVolume (sym is ∙ fault-short (take n image) (omega (arith, taken)))

    enough : 2 ≤ n → first_fault (take n image) ≢ None
    enough more is = some (fault-same image (take n image) (omega arith) (omega (arith, taken)) (λ k low. sym (get_or-take n image k [] (omega arith))) ∙ is)

-- and what is said of a run of first blocks
pub said-spelled : (blocks : Image) (super : SuperRead) (kind : Option VolumeRead) → 2 ≤ length blocks → gate_byte blocks ≡ gate_open → super_read (block_of blocks super_block) ≡ super → super_fault super ≡ kind → first_fault blocks ≡ kind
said-spelled blocks super kind long opened spells is = fault-behind blocks long opened ∙ ap super_fault spells ∙ is
