-- Numbers and bytes in lists that are joined.
use Rattle.mg_model.specs.{Abbreviations.word_bytes, Bytes.{are_zeros, number_at, numbers_at, padded_to, words_bytes}, BytesLemmas.number_at-behind}
use Rattle.{mg_model.specs.{BytesLemmas.number_at-first, Ranges.IsWord, RowLemmas.are_zeros-replicate, Words.same_bytes}, std.proofs.Common.refl}
use Rattle.std.proofs.{Common.{sym, ap, ◌∙◌, arith, append_assoc}, Math.Bool.and-true, lemmas.{Bool.{and_parts, eqb-true}, List.drop-append-le}}
use Rattle.std.proofs.lemmas.List.{get_or-append-add, length-drop, replicate-append-replicate, take-append-le, Folds.list_all-append}
use Rattle.std.specs.{Int.{from_le_bytes, w64}, Prelude.{◌≡◌, ℕ, zero, suc, ◌+◌, ◌*◌, ◌<◌, ◌≤◌, ◌==◌, ◌&&◌, true, List, [], ◌∷◌, ◌++◌, drop, get_or}}
use Rattle.std.specs.Prelude.{length, replicate, take}

-- what lies in the first of two lists
pub number_at-front : (xs ys : List ℕ) (k : ℕ) → k + 8 ≤ length xs → number_at (xs ++ ys) k ≡ number_at xs k
number_at-front xs ys k within =
    ap (from_le_bytes w64) (ap (take 8) (drop-append-le k xs ys (omega arith)) ∙ take-append-le 8 (drop k xs) ys (let l = length-drop k xs in omega arith))

pub numbers_at-front : (xs ys : List ℕ) (k n : ℕ) → k + 8 * n ≤ length xs → numbers_at (xs ++ ys) k n ≡ numbers_at xs k n
numbers_at-front xs ys k zero within = refl
numbers_at-front xs ys k (suc n) within = grind (arith, (numbers_at-front xs ys (k + 8) n (omega arith)), number_at-front)

-- what lies after the first n bytes
pub get_or-behind : (xs ys : List ℕ) (n k d : ℕ) → length xs ≡ n → get_or (xs ++ ys) (n + k) d ≡ get_or ys k d
get_or-behind xs ys n k d long = ap (λ m. get_or (xs ++ ys) (m + k) d) (sym long) ∙ get_or-append-add xs ys k d

-- one number, over and over
pub number_at-replicate : (n k v : ℕ) (rest : List ℕ) → IsWord v → k < n → number_at (words_bytes (replicate n v) ++ rest) (8 * k) ≡ v
number_at-replicate zero k v rest word below = absurd (omega arith)
number_at-replicate (suc n) zero v rest word below = number_at-first v (words_bytes (replicate n v) ++ rest) word
number_at-replicate (suc n) (suc k) v rest word below =
    let e : 8 * suc k ≡ 8 + 8 * k = omega arith in
    ap (number_at (word_bytes v ++ (words_bytes (replicate n v) ++ rest))) e
    ∙ number_at-behind (word_bytes v) (words_bytes (replicate n v) ++ rest) 8 (8 * k) refl
    ∙ number_at-replicate n k v rest word (omega arith)

-- lists of as many bytes are compared part by part
pub same_bytes-append : (xs ys us vs : List ℕ) → length xs ≡ length ys → same_bytes (xs ++ us) (ys ++ vs) ≡ (same_bytes xs ys && same_bytes us vs)
same_bytes-append [] [] us vs long = refl
same_bytes-append [] (y ∷ ys) us vs long = absurd (omega arith)
same_bytes-append (x ∷ xs) [] us vs long = absurd (omega arith)
same_bytes-append (x ∷ xs) (y ∷ ys) us vs long = grind (arith, (same_bytes-append xs ys us vs (omega arith)))

pub same_bytes-tells : (xs ys : List ℕ) → same_bytes xs ys ≡ true → xs ≡ ys
same_bytes-tells [] [] h = refl
same_bytes-tells [] (y ∷ ys) h = cc
same_bytes-tells (x ∷ xs) [] h = cc
same_bytes-tells (x ∷ xs) (y ∷ ys) h =
    let parts = and_parts (x == y) (same_bytes xs ys) h in
    let head : x ≡ y = eqb-true x y parts.0 in
    let rest : xs ≡ ys = same_bytes-tells xs ys parts.1 in
    cc

-- zeros after bytes change nothing
pub are_zeros-behind : (xs : List ℕ) (n : ℕ) → are_zeros (xs ++ replicate n 0) ≡ are_zeros xs
are_zeros-behind xs n = list_all-append (λ b. b == 0) xs (replicate n 0) ∙ ap (λ t. are_zeros xs && t) (are_zeros-replicate n) ∙ and-true (are_zeros xs)

pub zeros-replicate : (xs : List ℕ) → are_zeros xs ≡ true → xs ≡ replicate (length xs) 0
zeros-replicate [] are = refl
zeros-replicate (x ∷ xs) are =
    let parts = and_parts (x == 0) (are_zeros xs) are in
    let head : x ≡ 0 = eqb-true x 0 parts.0 in
    let rest : xs ≡ replicate (length xs) 0 = zeros-replicate xs parts.1 in
    ap (λ v. v ∷ xs) head ∙ ap (λ v. 0 ∷ v) rest

-- what is filled up, and filled up further
pub padded_to-further : (n m k : ℕ) (xs : List ℕ) → length xs ≤ n → n + m ≡ k → padded_to k xs ≡ padded_to n xs ++ replicate m 0
padded_to-further n m k xs few is = grind (arith, replicate-append-replicate, append_assoc)
