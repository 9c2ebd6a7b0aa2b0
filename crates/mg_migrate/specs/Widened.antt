-- The bytes of an object's row of version 1 moved to where this version has them, with untils of passwords that never end.
use Rattle.std.specs.Prelude.{ℕ, ◌&&◌, nat_le, Bool, List, ◌++◌, drop, replicate, take}
use Rattle.{mg_migrate.specs.Layout1.{object1_end, password1_limit}, mg_model.specs.Bytes.{are_zeros, bytes_at}}
use Rattle.mg_model.specs.{Bytes.{number_at, padded_to, words_bytes}, Limits.{entry_point_limit, never}}

-- no more passwords and entries than a row may have, and zeros after the columns
abbrev pub may_widen : List ℕ → Bool
may_widen bytes = nat_le (number_at bytes 32) password1_limit && nat_le (number_at bytes 40) entry_point_limit && are_zeros (drop object1_end bytes)

abbrev pub untils : ℕ → List ℕ
untils count = padded_to 256 (words_bytes (replicate count never))

abbrev pub joined : List ℕ → List ℕ → List ℕ → List ℕ → ℕ → List ℕ
joined head passwords rights entries count =
    head ++ ((passwords ++ replicate 128 0) ++ ((rights ++ replicate 16 0) ++ (entries ++ (untils count ++ replicate 272 0))))

abbrev pub widened : List ℕ → List ℕ
widened bytes = joined (take 80 bytes) (bytes_at bytes 80 128) (bytes_at bytes 208 16) (bytes_at bytes 224 128) (number_at bytes 32)
