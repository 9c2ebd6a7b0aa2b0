-- The first piece of bytes, and the bytes after the cut.
use Rattle.std.proofs.Common.{◌≡◌, ℕ, suc, ◌+◌, ◌-◌, ◌<◌, Bool, true, false, not, List, [], ◌∷◌, length, take, drop}
use Rattle.std.{proofs.{Common.{refl, ap, arith, length-drop}, lemmas.List.take_all}, specs.List.prefix_len}
use Rattle.std.specs.List.{slice_split}

-- the number of bytes before the first cut
abbrev before : (ℕ → Bool) → List ℕ → ℕ
before cuts bytes = prefix_len (λ b. not (cuts b)) bytes

-- the pieces after the cut that these bytes begin with, if they begin with one
abbrev behind_cut : (ℕ → Bool) → List ℕ → List (List ℕ)
behind_cut cuts [] = []
behind_cut cuts (b ∷ bytes) = slice_split cuts bytes

byte_case : (cuts : ℕ → Bool) (b : ℕ) (xs : List ℕ) (v : Bool) → cuts b ≡ v → slice_split cuts xs ≡ take (before cuts xs) xs ∷ behind_cut cuts (drop (before cuts xs) xs)
    → slice_split cuts (b ∷ xs) ≡ take (before cuts (b ∷ xs)) (b ∷ xs) ∷ behind_cut cuts (drop (before cuts (b ∷ xs)) (b ∷ xs))
byte_case cuts b xs true e ih = rw e refl
byte_case cuts b xs false e ih =
    let s : 1 + before cuts xs ≡ suc (before cuts xs) = omega arith in
    rw (e, s, ih) refl

slice_split-cut : (cuts : ℕ → Bool) (xs : List ℕ) → slice_split cuts xs ≡ take (before cuts xs) xs ∷ behind_cut cuts (drop (before cuts xs) xs)
slice_split-cut cuts [] = refl
slice_split-cut cuts (b ∷ xs) = byte_case cuts b xs (cuts b) refl (slice_split-cut cuts xs)

-- by the parts that the code has
pub cut-none : (cuts : ℕ → Bool) (xs piece rest : List ℕ) (n : ℕ) → n ≡ prefix_len (λ b. not (cuts b)) xs → piece ≡ take n xs → rest ≡ drop n xs → rest ≡ []
    → slice_split cuts xs ≡ piece ∷ []
cut-none cuts xs piece rest n counted front back none =
    let at = slice_split-cut cuts xs in
    let gone = ap (behind_cut cuts) none in
    cc

one_cut : (cuts : ℕ → Bool) (rest : List ℕ) → 0 < length rest → behind_cut cuts rest ≡ slice_split cuts (drop 1 rest)
one_cut cuts [] some = absurd (omega (arith, some))
one_cut cuts (b ∷ rest) some = refl

pub cut-some : (cuts : ℕ → Bool) (xs piece rest more : List ℕ) (n : ℕ) → n ≡ prefix_len (λ b. not (cuts b)) xs → piece ≡ take n xs → rest ≡ drop n xs
    → 0 < length rest → more ≡ drop 1 rest → slice_split cuts xs ≡ piece ∷ slice_split cuts more
cut-some cuts xs piece rest more n counted front back some next =
    let at = slice_split-cut cuts xs in
    let found = one_cut cuts rest some in
    cc

-- how the code says that nothing is left, and what is left after the cut
pub no_length : (xs : List ℕ) → length xs ≡ 0 → xs ≡ []
no_length [] h = refl
no_length (x ∷ xs) h = absurd (omega (arith, h))

pub rest_of : (xs : List ℕ) → take (length xs - 1) (drop 1 xs) ≡ drop 1 xs
rest_of xs = take_all (length xs - 1) (drop 1 xs) (omega (arith, length-drop 1 xs))
