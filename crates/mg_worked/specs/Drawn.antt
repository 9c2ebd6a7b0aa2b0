-- The first passwords of the seed of 32 zeros.
use Rattle.std.specs.Prelude.{◌≡◌, ℕ, List, [], ◌∷◌, map, replicate}

abbrev pub zero_seed : List ℕ
zero_seed = replicate 32 0

-- The 64 bytes of test vector 1 in RFC 8439, appendix A.1, are the first eight passwords, each in 8 bytes.
abbrev pub DrawsFirst : (List ℕ → ℕ → ℕ) → Type 0
DrawsFirst draw =
    map (draw zero_seed) (0 ∷ 1 ∷ 2 ∷ 3 ∷ 4 ∷ 5 ∷ 6 ∷ 7 ∷ [])
    ≡ 0x903df1a0ade0b876 ∷ 0x28bd8653e56a5d40 ∷ 0x1aed8da0b819d2bd ∷ 0xc70d778bccef36a8 ∷ 0x8d4857517c5941da ∷ 0x374ad8b83fe02477 ∷ 0x1ca11815f4b8436a ∷ 0x8665eeb269b687c3 ∷ []
