-- An image that differs from another one in its gate alone: it is no volume, or spells the same as the other's blocks after
-- the gate.
use Rattle.std.proofs.{Common.{inl, inr, sym, ap, ◌∙◌, ⊎_elim, arith}, lemmas.Bool.{cases_eq, cases_lt}}
use Rattle.std.{proofs.lemmas.List.{get_or-set_other, get_or-set_same, length-set}, specs.Prelude.{◌≡◌, ◌⊎◌, ℕ, ◌≤◌}}
use Rattle.std.specs.Prelude.{List, [], ◌∷◌, drop, length, slice_index}
use Rattle.{mg_disk.specs.Disk.{Image, SameBut, only_place}, mg_layout.specs.MayFormat.opened}
use Rattle.mg_model.specs.{Layout.{gate_block, gate_open}, Replay.block_of, Volume.{NotVolume, gate_byte, volume}}
use Rattle.mg_model.specs.VolumeLemmas.{volume-closed, volume-same_behind, volume-short}

pub gate_alone : (image c : Image) → SameBut (only_place gate_block) image c → (volume c ≡ NotVolume) ⊎ (volume c ≡ volume (opened image))
gate_alone image c same = ⊎_elim opens (λ not. inl (volume-closed c not)) (cases_eq (gate_byte c) gate_open)
  where
    gate : List ℕ
    gate = gate_open ∷ drop 1 (block_of image gate_block)

    opens : gate_byte c ≡ gate_open → (volume c ≡ NotVolume) ⊎ (volume c ≡ volume (opened image))
    opens is = ⊎_elim (λ short. inl (volume-short c short)) long (cases_lt (length c) 2)
      where
        long : 2 ≤ length c → (volume c ≡ NotVolume) ⊎ (volume c ≡ volume (opened image))
        long l =
            let count = same.count in
            let set = length-set image gate_block gate in
            let first : block_of (opened image) gate_block ≡ gate = get_or-set_same image gate_block gate [] (omega arith) in
            inr (volume-same_behind c (opened image) (record { long = l; gate = is })
            (record { long = omega arith; gate = ap (λ (block : List ℕ). slice_index block 0) first })
            (same.count ∙ sym set)
            (λ k low. same.others k (λ e. omega arith) ∙ sym (get_or-set_other image gate_block k gate [] (λ e. omega arith))))
