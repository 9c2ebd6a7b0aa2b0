-- A lemma: a number that is written into a block leaves the bytes beside it.
use Rattle.std.proofs.{Common.{sym, ap, ◌∙◌, ⊎_elim, arith}, lemmas.{List.drop-take, Slice.drop-put_mid}}
use Rattle.std.{proofs.lemmas.Slice.take-put_mid_below, specs.{Int.{from_le_bytes, w64}, Prelude.{◌≡◌, ◌⊎◌, ◌+◌, ◌≤◌}}}
use Rattle.std.specs.Prelude.{ℕ, List, drop, length, take}
use Rattle.mg_model.specs.Bytes.{bytes_at, number_at}
use borrow.Rule.Slice.PartMut.{put_mid}

pub beside : (old bytes : List ℕ) (at k b : ℕ) → k ≡ 8 → length bytes ≡ 8 → at + 8 ≤ length old → (b + 8 ≤ at) ⊎ (at + 8 ≤ b) → number_at (put_mid at k old bytes) b ≡ number_at old b
beside old bytes at k b eight long room apart = ap (from_le_bytes w64) (⊎_elim before behind apart)
  where
    before : b + 8 ≤ at → bytes_at (put_mid at k old bytes) b 8 ≡ bytes_at old b 8
    before low =
        sym (drop-take b 8 (put_mid at k old bytes))
        ∙ ap (drop b) (take-put_mid_below at k old bytes (b + 8) low (omega arith))
        ∙ drop-take b 8 old

    behind : at + 8 ≤ b → bytes_at (put_mid at k old bytes) b 8 ≡ bytes_at old b 8
    behind high = ap (take 8) (drop-put_mid at k old bytes b (omega arith) (omega arith) (omega arith))
