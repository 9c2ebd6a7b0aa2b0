-- Lemmas that crates above need: numbers and bytes are read back from the place where they were written.
use Rattle.std.proofs.{Common.{refl, sym, ap, ◌∙◌, arith, append_assoc, length-append, add_assoc}, lemmas.Bool.and_from}
use Rattle.std.proofs.lemmas.{Bool.eq-eqb, List.{append-nil, drop_at, length-replicate, drop-drop, Elements.All-head}}
use Rattle.std.{proofs.lemmas.{List.Elements.All-tail, Nat.from_le_bytes-to_le_bytes_8}, specs.Int.{from_le_bytes, w64}}
use Rattle.std.specs.Prelude.{◌≡◌, ℕ, zero, suc, ◌+◌, ◌-◌, ◌*◌, ◌≤◌, ◌==◌, true, List, [], ◌∷◌, ◌++◌, All, drop, length}
use Rattle.std.specs.Prelude.{replicate, take}
use Rattle.mg_model.specs.{Abbreviations.word_bytes, Bytes.{bytes_at, number_at, numbers_at, padded_to, words_bytes}}
use Rattle.mg_model.specs.{Ranges.IsWord, Words.same_bytes}

pub same_bytes-refl : (xs : List ℕ) → same_bytes xs xs ≡ true
same_bytes-refl [] = refl
same_bytes-refl (x ∷ xs) = and_from (x == x) (same_bytes xs xs) (eq-eqb x x refl) (same_bytes-refl xs)

-- after the first n bytes
pub bytes_at-behind : (xs ys : List ℕ) (n k m : ℕ) → length xs ≡ n → bytes_at (xs ++ ys) (n + k) m ≡ bytes_at ys k m
bytes_at-behind xs ys n k m is = ap (take m) (sym (drop-drop k n (xs ++ ys)) ∙ ap (drop k) (drop_at xs ys n is))

pub number_at-behind : (xs ys : List ℕ) (n k : ℕ) → length xs ≡ n → number_at (xs ++ ys) (n + k) ≡ number_at ys k
number_at-behind xs ys n k is = ap (from_le_bytes w64) (bytes_at-behind xs ys n k 8 is)

pub numbers_at-behind : (xs ys : List ℕ) (n k m : ℕ) → length xs ≡ n → numbers_at (xs ++ ys) (n + k) m ≡ numbers_at ys k m
numbers_at-behind xs ys n k zero is = refl
numbers_at-behind xs ys n k (suc m) is =
    ap (λ v. v ∷ numbers_at (xs ++ ys) (n + k + 8) m) (number_at-behind xs ys n k is)
    ∙ ap (λ v. number_at ys k ∷ v) (ap (λ o. numbers_at (xs ++ ys) o m) (add_assoc n k 8) ∙ numbers_at-behind xs ys n (k + 8) m is)

-- the first number, the first numbers
pub number_at-first : (n : ℕ) (ys : List ℕ) → IsWord n → number_at (word_bytes n ++ ys) 0 ≡ n
number_at-first n ys fits = from_le_bytes-to_le_bytes_8 n fits

pub numbers_at-first : (ns : List ℕ) (ys : List ℕ) → All IsWord ns → numbers_at (words_bytes ns ++ ys) 0 (length ns) ≡ ns
numbers_at-first [] ys fit = refl
numbers_at-first (n ∷ ns) ys fit =
    ap (λ v. v ∷ numbers_at (word_bytes n ++ (words_bytes ns ++ ys)) 8 (length ns)) (number_at-first n (words_bytes ns ++ ys) (All-head IsWord n ns fit))
    ∙ ap (λ v. n ∷ v) (numbers_at-behind (word_bytes n) (words_bytes ns ++ ys) 8 0 (length ns) refl ∙ numbers_at-first ns ys (All-tail IsWord n ns fit))

pub length-words_bytes : (ns : List ℕ) → length (words_bytes ns) ≡ 8 * length ns
length-words_bytes [] = refl
length-words_bytes (n ∷ ns) = let e = length-words_bytes ns in let f = length-append (word_bytes n) (words_bytes ns) in omega arith

-- filling up
pub length-padded_to : (n : ℕ) (xs : List ℕ) → length xs ≤ n → length (padded_to n xs) ≡ n
length-padded_to n xs few =
    let whole : length xs + (n - length xs) ≡ n = omega arith in
    length-append xs (replicate (n - length xs) 0) ∙ ap (λ k. length xs + k) (length-replicate (n - length xs) 0) ∙ whole

pub padded_to-full : (n : ℕ) (xs : List ℕ) → length xs ≡ n → padded_to n xs ≡ xs
padded_to-full n xs is = ap (λ k. xs ++ replicate k 0) (let e : n - length xs ≡ 0 = omega arith in e) ∙ append-nil xs

pub padded_to-append : (n m : ℕ) (xs ys : List ℕ) → length xs ≡ n → padded_to (n + m) (xs ++ ys) ≡ xs ++ padded_to m ys
padded_to-append n m xs ys is =
    ap (λ k. (xs ++ ys) ++ replicate k 0) (let e : n + m - length (xs ++ ys) ≡ m - length ys = omega (arith, length-append xs ys) in e)
    ∙ append_assoc xs ys (replicate (m - length ys) 0)
