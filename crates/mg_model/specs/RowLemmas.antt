-- Lemmas that crates above need: rows are read back from the place where they were written, and a table of one live row and
-- free rows after it has that row alone.
use Rattle.std.proofs.{Common.{refl, sym, ap, subst, ◌∙◌, arith}, lemmas.{Bool.{and_from, and_parts}, List.append-nil}}
use Rattle.std.proofs.lemmas.List.{drop-drop, drop_at, length-replicate, replicate-append-replicate}
use Rattle.std.{proofs.lemmas.{List.Elements.All-replicate, Nat.from_le_bytes-to_le_bytes_8}, specs.Int.from_le_bytes}
use Rattle.std.specs.{Int.{to_le_bytes, w64}, Prelude.{◌≡◌, ℕ, zero, suc, ◌+◌, ◌-◌, ◌*◌, ◌<◌, ◌≤◌, ◌==◌, ◌&&◌, Bool}}
use Rattle.std.specs.Prelude.{true, false, All, List, [], ◌∷◌, ◌++◌, drop, if◌then◌else◌, length, replicate, take, Some}
use Rattle.std.specs.Prelude.{None}
use Rattle.mg_model.specs.{Abbreviations.{free_or, live_if, table_entries, with_live}, Bytes.{are_zeros, block_words}}
use Rattle.mg_model.specs.{Bytes.{bytes_at, numbers_at, words_bytes}, BytesLemmas.{numbers_at-first, same_bytes-refl}}
use Rattle.mg_model.specs.{Ranges.IsWord, Replay.block_of, Spelling.{Read, account_bytes, account_fields, account_read}}
use Rattle.mg_model.specs.Spelling.{globals_bytes, globals_fields, globals_read, object_bytes, object_fields}
use Rattle.mg_model.specs.{Spelling.{object_read, thread_bytes, thread_fields, thread_read}, State.Counters}
use Rattle.mg_model.specs.{State.{ObjectRow, ThreadRow}, Tests.{are_counters, is_object_row, is_thread_row}}
use Rattle.mg_model.specs.{Volume.live_rows, Words.{and_then, same_bytes}, declared.accounts.AccRow.AccRow}

-- a row that keeps its rule and has its bytes
pub read-live : {R : Type 0} (fields : List ℕ → R) (rule : R → Bool) (write : R → List ℕ) (bytes : List ℕ) (row : R)
    → are_zeros bytes ≡ false → fields bytes ≡ row → rule row ≡ true → write row ≡ bytes
    → free_or bytes (live_if (rule (fields bytes)) (write (fields bytes)) bytes (fields bytes)) ≡ Some (Some row)
read-live {R} fields rule write bytes row some same keeps spelled =
    let P : R → Type 0 = λ f. free_or bytes (live_if (rule f) (write f) bytes f) ≡ Some (Some row) in
    let whole : (rule row && same_bytes (write row) bytes) ≡ true = and_from (rule row) (same_bytes (write row) bytes) keeps (ap (λ w. same_bytes w bytes) spelled ∙ same_bytes-refl bytes) in
    subst P (sym same)
    (ap (λ t. if t then Some None else live_if (rule row) (write row) bytes row) some ∙ ap (λ t. if t then Some (Some row) else None) whole)

pub account-live : (bytes : List ℕ) (row : AccRow) → are_zeros bytes ≡ false → account_fields bytes ≡ row → account_bytes row ≡ bytes → account_read bytes ≡ Some (Some row)
account-live bytes row some same spelled = read-live account_fields (λ _. true) account_bytes bytes row some same refl spelled

pub thread-live : (bytes : List ℕ) (row : ThreadRow) → are_zeros bytes ≡ false → thread_fields bytes ≡ row → is_thread_row row ≡ true → thread_bytes row ≡ bytes → thread_read bytes ≡ Some (Some row)
thread-live bytes row some same keeps spelled = read-live thread_fields is_thread_row thread_bytes bytes row some same keeps spelled

pub object-live : (bytes : List ℕ) (row : ObjectRow) → are_zeros bytes ≡ false → object_fields bytes ≡ row → is_object_row row ≡ true → object_bytes row ≡ bytes → object_read bytes ≡ Some (Some row)
object-live bytes row some same keeps spelled = read-live object_fields is_object_row object_bytes bytes row some same keeps spelled

pub globals-read : (bytes : List ℕ) (counters : Counters) → globals_fields bytes ≡ counters → are_counters counters ≡ true → globals_bytes counters ≡ bytes → globals_read bytes ≡ Some counters
globals-read bytes counters same keeps spelled =
    let P : Counters → Type 0 = λ f. (if are_counters f && same_bytes (globals_bytes f) bytes then Some f else None) ≡ Some counters in
    let whole : (are_counters counters && same_bytes (globals_bytes counters) bytes) ≡ true =
    and_from (are_counters counters) (same_bytes (globals_bytes counters) bytes) keeps (ap (λ w. same_bytes w bytes) spelled ∙ same_bytes-refl bytes) in
    subst P (sym same) (ap (λ t. if t then Some counters else None) whole)

-- zeros
pub are_zeros-replicate : (n : ℕ) → are_zeros (replicate n 0) ≡ true
are_zeros-replicate zero = refl
are_zeros-replicate (suc n) = are_zeros-replicate n

pub are_zeros-drop : (k : ℕ) (bytes : List ℕ) → are_zeros bytes ≡ true → are_zeros (drop k bytes) ≡ true
are_zeros-drop zero bytes are = are
are_zeros-drop (suc k) [] are = refl
are_zeros-drop (suc k) (b ∷ bytes) are = are_zeros-drop k bytes (and_parts (b == 0) (are_zeros bytes) are).1

pub are_zeros-take : (k : ℕ) (bytes : List ℕ) → are_zeros bytes ≡ true → are_zeros (take k bytes) ≡ true
are_zeros-take zero bytes are = refl
are_zeros-take (suc k) [] are = refl
are_zeros-take (suc k) (b ∷ bytes) are = let parts = and_parts (b == 0) (are_zeros bytes) are in and_from (b == 0) (are_zeros (take k bytes)) parts.0 (are_zeros-take k bytes parts.1)

-- a row all zeros is free
pub read-free : {R : Type 0} (bytes : List ℕ) (live : Read R) → are_zeros bytes ≡ true → free_or bytes live ≡ Some None
read-free bytes live are = ap (λ t. if t then Some None else live) are

pub live_rows-free : {R : Type 0} (read : ℕ → Read R) (i n : ℕ) → ((j : ℕ) → i ≤ j → j < i + n → read j ≡ Some None) → live_rows read i n ≡ Some []
live_rows-free read i zero free = refl
live_rows-free read i (suc n) free =
    ap (λ here. and_then here (λ row. and_then (live_rows read (i + 1) n) (λ rows. Some (with_live i row rows)))) (free i (omega arith) (omega arith))
    ∙ ap (λ rest. and_then rest (λ rows. Some (with_live i None rows))) (live_rows-free read (i + 1) n (λ j low high. free j (omega arith) (omega arith)))

pub live_rows-first : {R : Type 0} (read : ℕ → Read R) (m n : ℕ) (row : R) → m ≡ suc n → read 0 ≡ Some (Some row) → ((j : ℕ) → 1 ≤ j → j < m → read j ≡ Some None) → live_rows read 0 m ≡ Some ((0, row) ∷ [])
live_rows-first read m n row is here free =
    ap (live_rows read 0) is
    ∙ ap (λ here. and_then here (λ row. and_then (live_rows read 1 n) (λ rows. Some (with_live 0 row rows)))) here
    ∙ ap (λ rest. and_then rest (λ rows. Some (with_live 0 (Some row) rows))) (live_rows-free read 1 n (λ j low high. free j low (omega arith)))

-- words of zeros
pub words_bytes-zeros : (n : ℕ) → words_bytes (replicate n 0) ≡ replicate (8 * n) 0
words_bytes-zeros zero = refl
words_bytes-zeros (suc n) =
    ap (λ bytes. replicate 8 0 ++ bytes) (words_bytes-zeros n)
    ∙ replicate-append-replicate 8 (8 * n) 0
    ∙ ap (λ k. replicate k 0) (let e : 8 + 8 * n ≡ 8 * suc n = omega arith in e)

-- an account's fields
abbrev account_of : ℕ → ℕ → ℕ → AccRow
account_of password balance owed = record { password = password; balance = balance; owed = owed }

pub account_fields-written : (row : AccRow) → IsWord row.password → IsWord row.balance → IsWord row.owed → account_fields (account_bytes row) ≡ row
account_fields-written row password balance owed =
    ap (λ n. account_of n (from_le_bytes w64 (to_le_bytes w64 row.balance)) (from_le_bytes w64 (to_le_bytes w64 row.owed))) (from_le_bytes-to_le_bytes_8 row.password password)
    ∙ ap (λ n. account_of row.password n (from_le_bytes w64 (to_le_bytes w64 row.owed))) (from_le_bytes-to_le_bytes_8 row.balance balance)
    ∙ ap (λ n. account_of row.password row.balance n) (from_le_bytes-to_le_bytes_8 row.owed owed)

-- in a block that is filled up with zeros, each row after the bytes that are filled is all zeros
pub zeros-behind : (block xs : List ℕ) (m k n : ℕ) → block ≡ xs ++ replicate m 0 → length xs ≤ k → are_zeros (bytes_at block k n) ≡ true
zeros-behind block xs m k n is behind =
    let split : length xs + (k - length xs) ≡ k = omega arith in
    let here : drop k block ≡ drop (k - length xs) (replicate m 0) =
    ap (drop k) is ∙ ap (λ j. drop j (xs ++ replicate m 0)) (sym split) ∙ sym (drop-drop (k - length xs) (length xs) (xs ++ replicate m 0)) ∙ ap (drop (k - length xs)) (drop_at xs (replicate m 0) (length xs) refl) in
    ap (λ bytes. are_zeros (take n bytes)) here ∙ are_zeros-take n (drop (k - length xs) (replicate m 0)) (are_zeros-drop (k - length xs) (replicate m 0) (are_zeros-replicate m))

pub zeros-in : (block : List ℕ) (k n : ℕ) → block ≡ replicate 4096 0 → are_zeros (bytes_at block k n) ≡ true
zeros-in block k n is = zeros-behind block [] 4096 k n is (omega arith)

-- a block of 512 words
pub block_words-words : (ns : List ℕ) → length ns ≡ 512 → All IsWord ns → block_words (words_bytes ns) ≡ ns
block_words-words ns long fit =
    ap block_words (sym (append-nil (words_bytes ns))) ∙ ap (numbers_at (words_bytes ns ++ []) 0) (sym long) ∙ numbers_at-first ns [] fit

pub block_words-zeros : block_words (replicate 4096 0) ≡ replicate 512 0
block_words-zeros =
    ap block_words (sym (words_bytes-zeros 512)) ∙ block_words-words (replicate 512 0) (length-replicate {A = ℕ} 512 0) (All-replicate IsWord 512 0 (omega arith))

pub table_entries-zeros : (image : List (List ℕ)) (block n : ℕ) → ((j : ℕ) → block ≤ j → j < block + n → block_of image j ≡ replicate 4096 0) → table_entries image block n ≡ replicate (512 * n) 0
table_entries-zeros image block zero zeros = refl
table_entries-zeros image block (suc n) zeros =
    let count : 512 + 512 * n ≡ 512 * suc n = omega arith in
    ap (λ (bytes : List ℕ). block_words bytes ++ table_entries image (block + 1) n) (zeros block (omega arith) (omega arith))
    ∙ ap (λ words. words ++ table_entries image (block + 1) n) block_words-zeros
    ∙ ap (λ words. replicate 512 0 ++ words) (table_entries-zeros image (block + 1) n (λ j low high. zeros j (omega arith) (omega arith)))
    ∙ replicate-append-replicate 512 (512 * n) 0
    ∙ ap (λ k. replicate k 0) count
