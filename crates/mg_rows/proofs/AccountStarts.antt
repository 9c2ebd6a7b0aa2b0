-- The rows that a block of accounts begins with, spelled one after the other.
use Rattle.mg_model.specs.{Bytes.{bytes_at, padded_to}, BytesLemmas.bytes_at-behind, Spelling.account_read, declared.accounts.AccRow.AccRow}
use Rattle.{mg_rows.{proofs.Padded.padded_twice, specs.Blocks.account_in}, std.proofs.Common.{refl, sym, ap, ◌∙◌, arith, below_more, get_or}}
use Rattle.std.proofs.{Common.length-append, lemmas.{Bool.{ltb-true, ltb-false}, List.{drop-take, drop-replicate, take-append-le, take-replicate}}}
use Rattle.std.{proofs.lemmas.{List.take_all, Option.{slice_get-get_or, slice_get_past}}, specs.Prelude.{◌≡◌, ◌≤◌, ◌<◌, ◌+◌, ◌*◌, ◌-◌, ℕ, Bool, true}}
use Rattle.std.specs.Prelude.{false, List, ◌++◌, drop, take, length, replicate, nat_lt, slice_get, Some}

-- the first n rows from a place on are spelled in these bytes
pub record AreRows (rows : List AccRow) (first n : ℕ) (bytes : List ℕ) : Type 0 where
  pub long : length bytes ≡ 64 * n
  pub each : (j : ℕ) → j < n → account_in bytes j ≡ Some (slice_get rows (first + j))

within : (bytes more : List ℕ) (from n : ℕ) → from + n ≤ length bytes → bytes_at (bytes ++ more) from n ≡ bytes_at bytes from n
within bytes more from n room = sym (drop-take from n (bytes ++ more)) ∙ ap (drop from) (take-append-le (from + n) bytes more room) ∙ drop-take from n bytes

-- a row more
pub row_more : (rows : List AccRow) (first n : ℕ) (bytes more : List ℕ) (row : AccRow) → AreRows rows first n bytes → length more ≡ 64 → first + n < length rows → account_read more ≡ Some (Some (get_or rows (first + n) row)) → AreRows rows first (n + 1) (bytes ++ more)
row_more rows first n bytes more row done size room read = record {
  long = let a = length-append bytes more in let b = done.long in omega arith;
  each = below_more _ _
      (λ j low. ap account_read (within bytes more (64 * j) 64 (omega (arith, done.long))) ∙ done.each j low)
      (ap account_read here ∙ read ∙ ap Some (sym (slice_get-get_or rows (first + n) row room)));
}
  where
    here : bytes_at (bytes ++ more) (64 * n) 64 ≡ more
    here =
        let at : 64 * n ≡ 64 * n + 0 = omega arith in
        ap (λ o. bytes_at (bytes ++ more) o 64) at ∙ bytes_at-behind bytes more (64 * n) 0 64 done.long ∙ take_all 64 more (omega (arith, size))

-- after the last row of the list there are zeros, which are free rows
pub rows_padded : (rows : List AccRow) (first n : ℕ) (bytes : List ℕ) → AreRows rows first n bytes → n ≤ 8 → length rows ≤ first + n → (j : ℕ) → j < 64 → account_in (padded_to 4096 (padded_to 512 bytes)) j ≡ Some (slice_get rows (first + j))
rows_padded rows first n bytes done few all j low = ap (λ b. account_in b j) (padded_twice 512 4096 bytes (omega (arith, done.long)) (omega arith)) ∙ by_place (nat_lt j n) refl
  where
    zeros : List ℕ
    zeros = replicate (4096 - length bytes) 0

    by_place : (v : Bool) → nat_lt j n ≡ v → account_in (bytes ++ zeros) j ≡ Some (slice_get rows (first + j))
    by_place true lower = let less : j < n = ltb-true j n lower in ap account_read (within bytes zeros (64 * j) 64 (omega (arith, done.long))) ∙ done.each j less
    by_place false lower =
        let past : n ≤ j = ltb-false j n lower in
        let size = done.long in
        let at : 64 * j ≡ 64 * n + 64 * (j - n) = omega arith in
        let left : 64 ≤ 4096 - length bytes - 64 * (j - n) = omega arith in
        let free : bytes_at (bytes ++ zeros) (64 * j) 64 ≡ replicate 64 0 =
        ap (λ o. bytes_at (bytes ++ zeros) o 64) at
        ∙ bytes_at-behind bytes zeros (64 * n) (64 * (j - n)) 64 size
        ∙ ap (take 64) (drop-replicate (64 * (j - n)) (4096 - length bytes) 0)
        ∙ take-replicate 64 (4096 - length bytes - 64 * (j - n)) 0 left in
        ap account_read free ∙ ap Some (sym (slice_get_past rows (first + j) (omega arith)))
