-- A lemma that crates above need: each password that is drawn is a number of 64 bits.
use Rattle.std.proofs.{Common.{ℕ, ◌+◌, ◌*◌, ◌^◌, ◌<◌, List, arith}, Math.Nat.mod-lt}
use Rattle.{mg_model.specs.{Draw.{password_drawn, stream_word}, Ranges.IsWord}, rand_chacha.specs.Block.block_word}

stream_word-below : (n : ℕ) (key : List ℕ) (counter nonce k : ℕ) → block_word n key counter nonce k < 2 ^ 32
unfolding block_word
stream_word-below n key counter nonce k = mod-lt _ (omega arith)

pub drawn-IsWord : (seed : List ℕ) (k : ℕ) → IsWord (password_drawn seed k)
drawn-IsWord seed k =
    let low : stream_word seed (2 * k) < 2 ^ 32 = stream_word-below _ _ _ _ _ in
    let high : stream_word seed (2 * k + 1) < 2 ^ 32 = stream_word-below _ _ _ _ _ in
    omega arith
