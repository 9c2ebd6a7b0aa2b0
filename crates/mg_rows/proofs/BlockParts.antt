-- What is written into a part of a block is there, and the parts beside it are as they were.
use Rattle.{mg_model.specs.Bytes.bytes_at, std.proofs.{Common.{sym, ap, ◌∙◌, ⊎_elim, arith}, lemmas.List.{drop-take, drop_at, length-take, take_at}}}
use Rattle.std.{proofs.lemmas.Slice.{drop-put_mid, take-put_mid_below}, specs.Prelude.{◌≡◌, ◌⊎◌, ◌+◌, ◌≤◌, ℕ, List, drop, length, take}}
use borrow.Rule.Slice.PartMut.{put_mid}

pub beside : (old bytes : List ℕ) (at k n b : ℕ) → k ≡ n → length bytes ≡ n → at + n ≤ length old → (b + n ≤ at) ⊎ (at + n ≤ b) → bytes_at (put_mid at k old bytes) b n ≡ bytes_at old b n
beside old bytes at k n b size long room apart = ⊎_elim before behind apart
  where
    before : b + n ≤ at → bytes_at (put_mid at k old bytes) b n ≡ bytes_at old b n
    before low =
        sym (drop-take b n (put_mid at k old bytes))
        ∙ ap (drop b) (take-put_mid_below at k old bytes (b + n) low (omega arith))
        ∙ drop-take b n old

    behind : at + n ≤ b → bytes_at (put_mid at k old bytes) b n ≡ bytes_at old b n
    behind high = ap (take n) (drop-put_mid at k old bytes b (omega arith) (omega arith) (omega arith))

pub there : (old bytes : List ℕ) (at k n : ℕ) → length bytes ≡ n → at ≤ length old → bytes_at (put_mid at k old bytes) at n ≡ bytes
there old bytes at k n long room = grind (arith, length-take, drop_at, take_at)
