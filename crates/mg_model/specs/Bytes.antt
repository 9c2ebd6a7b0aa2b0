-- Numbers and rows as bytes. All numbers are little-endian.
use Rattle.std.specs.{Int.{from_le_bytes, to_le_bytes, w64}, List.list_all, Prelude.{ℕ, zero, suc, ◌+◌, ◌-◌, ◌==◌}}
use Rattle.std.specs.Prelude.{Bool, List, [], ◌∷◌, ◌++◌, drop, flat_map, length, replicate, take, map}

-- numbers in 8 bytes each
abbrev pub words_bytes : List ℕ → List ℕ
words_bytes ns = flat_map (λ n. to_le_bytes w64 n) ns

-- filled up with zeros to n bytes
abbrev pub padded_to : ℕ → List ℕ → List ℕ
padded_to n bytes = bytes ++ replicate (n - length bytes) 0

-- n bytes from an offset on
abbrev pub bytes_at : List ℕ → ℕ → ℕ → List ℕ
bytes_at bytes offset n = take n (drop offset bytes)

-- the number in the 8 bytes at an offset
abbrev pub number_at : List ℕ → ℕ → ℕ
number_at bytes offset = from_le_bytes w64 (bytes_at bytes offset 8)

-- n offsets that are a step apart, from this one on
abbrev pub offsets_by : ℕ → ℕ → ℕ → List ℕ
offsets_by step offset zero = []
offsets_by step offset (suc n) = offset ∷ offsets_by step (offset + step) n

-- n numbers from an offset on
abbrev pub numbers_at : List ℕ → ℕ → ℕ → List ℕ
numbers_at bytes offset n = map (λ o. number_at bytes o) (offsets_by 8 offset n)

abbrev pub are_zeros : List ℕ → Bool
are_zeros bytes = list_all (λ b. b == 0) bytes

-- the 512 words of a block
abbrev pub block_words : List ℕ → List ℕ
block_words block = numbers_at block 0 512
