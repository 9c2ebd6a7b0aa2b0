-- The words of bytes, one after another.
use Rattle.{mg_model.specs.Bytes.{number_at, numbers_at, padded_to}, std.proofs.Common.{◌≡◌, ℕ, zero, suc, ◌+◌, ◌-◌, ◌*◌, ◌<◌, List, [], ◌∷◌, ◌++◌}}
use Rattle.std.proofs.{Common.{length, get_or, take, drop, replicate, refl, ap, sym, ◌∙◌, arith}, lemmas.List.{get_or-drop, get_or-take}}
use Rattle.std.specs.Int.{from_le_bytes, w64}

-- one number more
pub numbers_at-more : (bytes : List ℕ) (o n : ℕ) → numbers_at bytes o (n + 1) ≡ numbers_at bytes o n ++ number_at bytes (o + 8 * n) ∷ []
numbers_at-more bytes o zero = let e : o + 8 * 0 ≡ o = omega arith in rw e refl
numbers_at-more bytes o (suc n) =
    let s : suc n + 1 ≡ suc (n + 1) = omega arith in
    let e : o + 8 * suc n ≡ (o + 8) + 8 * n = omega arith in
    rw (s, e) (ap (λ (v : List ℕ). number_at bytes o ∷ v) (numbers_at-more bytes (o + 8) n))

-- zeros after bytes change nothing that is read there
filled-at : (z n i : ℕ) → get_or (replicate n z) i z ≡ z
filled-at z zero i = refl
filled-at z (suc n) zero = refl
filled-at z (suc n) (suc i) = filled-at z n i

filled-behind : (z : ℕ) (xs : List ℕ) (n i : ℕ) → get_or (xs ++ replicate n z) i z ≡ get_or xs i z
filled-behind z [] n i = filled-at z n i
filled-behind z (x ∷ xs) n zero = refl
filled-behind z (x ∷ xs) n (suc i) = filled-behind z xs n i

byte-at : (xs : List ℕ) (n o i : ℕ) → i < 8 → get_or (take 8 (drop o (xs ++ replicate n 0))) i 0 ≡ get_or (drop o xs) i 0
byte-at xs n o i low =
    get_or-take 8 (drop o (xs ++ replicate n 0)) i 0 low
    ∙ get_or-drop o (xs ++ replicate n 0) i 0
    ∙ filled-behind 0 xs n (o + i)
    ∙ sym (get_or-drop o xs i 0)

same-bytes : (xs ys : List ℕ) → ((i : ℕ) → i < 8 → get_or xs i 0 ≡ get_or ys i 0) → from_le_bytes w64 xs ≡ from_le_bytes w64 ys
same-bytes xs ys same =
    let a = same 0 (omega arith) in
    let b = same 1 (omega arith) in
    let c = same 2 (omega arith) in
    let d = same 3 (omega arith) in
    let e = same 4 (omega arith) in
    let f = same 5 (omega arith) in
    let g = same 6 (omega arith) in
    let h = same 7 (omega arith) in
    cc

-- the word at a place, of which bytes may be missing
pub number_at-filled : (xs : List ℕ) (n o : ℕ) → number_at (padded_to n xs) o ≡ from_le_bytes w64 (drop o xs)
number_at-filled xs n o = same-bytes (take 8 (drop o (padded_to n xs))) (drop o xs) (λ i low. byte-at xs (n - length xs) o i low)

-- one word more after those so far
pub word-more : (xs words rest : List ℕ) (n k word : ℕ) → words ≡ length xs ∷ numbers_at (padded_to n xs) 0 k → rest ≡ drop (8 * k) xs → word ≡ from_le_bytes w64 rest
    → words ++ word ∷ [] ≡ length xs ∷ numbers_at (padded_to n xs) 0 (k + 1)
word-more xs words rest n k word so_far back is =
    let place : 0 + 8 * k ≡ 8 * k = omega arith in
    let here : word ≡ number_at (padded_to n xs) (0 + 8 * k) =
    is ∙ ap (from_le_bytes w64) back ∙ sym (number_at-filled xs n (8 * k)) ∙ ap (number_at (padded_to n xs)) (sym place) in
    ap (λ v. v ++ word ∷ []) so_far
    ∙ ap (λ w. length xs ∷ numbers_at (padded_to n xs) 0 k ++ w ∷ []) here
    ∙ ap (λ (v : List ℕ). length xs ∷ v) (sym (numbers_at-more (padded_to n xs) 0 k))
