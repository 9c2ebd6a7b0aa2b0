-- The passwords of a seed: the key stream of RFC 8439's block function with nonce 0, two words a password.
use Rattle.std.specs.Prelude.{ℕ, ◌+◌, ◌*◌, ◌^◌, List}
use Rattle.rand_chacha.specs.ChaCha.{key_of, word_at as key_stream_word}

-- word n of the key stream of a seed: its blocks have 10 double rounds each, and their nonce is 0
abbrev pub stream_word : List ℕ → ℕ → ℕ
stream_word seed n = key_stream_word 10 (key_of seed) 0 n

-- the k-th password: word 2k is its low half, word 2k + 1 its high half
abbrev pub password_drawn : List ℕ → ℕ → ℕ
password_drawn seed k = stream_word seed (2 * k) + stream_word seed (2 * k + 1) * 2 ^ 32
