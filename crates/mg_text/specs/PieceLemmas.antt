-- The pieces between cuts that are not empty, taken one by one from the front.
use Rattle.std.proofs.Common.{◌≡◌, ℕ, suc, ◌+◌, ◌<◌, Bool, true, false, not, List, [], ◌∷◌, filter, take, drop, refl}
use Rattle.std.{proofs.Common.arith, specs.List.{onto_first, prefix_len, slice_split}}
use Rattle.mg_model.specs.Words.{is_some_word}

abbrev pieces : (ℕ → Bool) → List ℕ → List (List ℕ)
pieces cuts bytes = filter is_some_word (slice_split cuts bytes)

-- how many bytes are before the first cut
abbrev before : (ℕ → Bool) → List ℕ → ℕ
before cuts bytes = prefix_len (λ b. not (cuts b)) bytes

-- cuts at the front give no piece
skip_case : (cuts : ℕ → Bool) (b : ℕ) (xs : List ℕ) (v : Bool) → cuts b ≡ v → pieces cuts (drop (prefix_len cuts xs) xs) ≡ pieces cuts xs
    → pieces cuts (drop (prefix_len cuts (b ∷ xs)) (b ∷ xs)) ≡ pieces cuts (b ∷ xs)
skip_case cuts b xs true e ih = let s : 1 + prefix_len cuts xs ≡ suc (prefix_len cuts xs) = omega arith in rw (e, s) ih
skip_case cuts b xs false e ih = rw (e, e)

pieces-skip : (cuts : ℕ → Bool) (xs : List ℕ) → pieces cuts (drop (prefix_len cuts xs) xs) ≡ pieces cuts xs
pieces-skip cuts [] = refl
pieces-skip cuts (b ∷ xs) = skip_case cuts b xs (cuts b) refl (pieces-skip cuts xs)

-- a byte before a piece
grown : (b y : ℕ) (w : List ℕ) (rest ps : List (List ℕ)) → filter is_some_word (onto_first y ps) ≡ (y ∷ w) ∷ rest
    → filter is_some_word (onto_first b (onto_first y ps)) ≡ (b ∷ y ∷ w) ∷ rest
grown b y w rest [] e = cc
grown b y w rest (p ∷ ps) e = cc

-- a piece continues up to the first cut
goes_case : (cuts : ℕ → Bool) (b y : ℕ) (ys : List ℕ) (v : Bool) → cuts y ≡ v
    → filter is_some_word (onto_first y (slice_split cuts ys)) ≡ (y ∷ take (before cuts ys) ys) ∷ pieces cuts (drop (before cuts ys) ys)
    → filter is_some_word (onto_first b (slice_split cuts (y ∷ ys))) ≡ (b ∷ take (before cuts (y ∷ ys)) (y ∷ ys)) ∷ pieces cuts (drop (before cuts (y ∷ ys)) (y ∷ ys))
goes_case cuts b y ys true e ih = rw (e, e)
goes_case cuts b y ys false e ih =
    let s : 1 + before cuts ys ≡ suc (before cuts ys) = omega arith in
    rw (e, s) (grown b y (take (before cuts ys) ys) (pieces cuts (drop (before cuts ys) ys)) (slice_split cuts ys) ih)

pieces-goes : (cuts : ℕ → Bool) (b : ℕ) (ys : List ℕ)
    → filter is_some_word (onto_first b (slice_split cuts ys)) ≡ (b ∷ take (before cuts ys) ys) ∷ pieces cuts (drop (before cuts ys) ys)
pieces-goes cuts b [] = refl
pieces-goes cuts b (y ∷ ys) = goes_case cuts b y ys (cuts y) refl (pieces-goes cuts y ys)

-- the first piece
first_case : (cuts : ℕ → Bool) (y : ℕ) (ys : List ℕ) (v : Bool) → cuts y ≡ v → 0 < before cuts (y ∷ ys)
    → pieces cuts (y ∷ ys) ≡ take (before cuts (y ∷ ys)) (y ∷ ys) ∷ pieces cuts (drop (before cuts (y ∷ ys)) (y ∷ ys))
first_case cuts y ys true e some = absurd (let h : 0 < 0 = rw e at some in omega (arith, h))
first_case cuts y ys false e some =
    let s : 1 + before cuts ys ≡ suc (before cuts ys) = omega arith in rw (e, s) (pieces-goes cuts y ys)

pieces-first : (cuts : ℕ → Bool) (ys : List ℕ) → 0 < before cuts ys → pieces cuts ys ≡ take (before cuts ys) ys ∷ pieces cuts (drop (before cuts ys) ys)
pieces-first cuts [] some = absurd (omega (arith, some))
pieces-first cuts (y ∷ ys) some = first_case cuts y ys (cuts y) refl some

-- nothing is between the cuts
none_case : (cuts : ℕ → Bool) (b : ℕ) (xs : List ℕ) (v : Bool) → cuts b ≡ v → (before cuts (drop (prefix_len cuts xs) xs) ≡ 0 → pieces cuts xs ≡ [])
    → before cuts (drop (prefix_len cuts (b ∷ xs)) (b ∷ xs)) ≡ 0 → pieces cuts (b ∷ xs) ≡ []
none_case cuts b xs true e ih none =
    let s : 1 + prefix_len cuts xs ≡ suc (prefix_len cuts xs) = omega arith in
    let h = rw (e, s) at none in
    rw e (ih h)
none_case cuts b xs false e ih none = let h = rw (e, e) at none in absurd (omega (arith, h))

pieces-none : (cuts : ℕ → Bool) (xs : List ℕ) → before cuts (drop (prefix_len cuts xs) xs) ≡ 0 → pieces cuts xs ≡ []
pieces-none cuts [] none = refl
pieces-none cuts (b ∷ xs) none = none_case cuts b xs (cuts b) refl (pieces-none cuts xs) none

-- the cuts at the front, the piece after them, and the rest
pub pieces-found : (cuts : ℕ → Bool) (xs rest word more : List ℕ) (n m : ℕ) → n ≡ prefix_len cuts xs → rest ≡ drop n xs → m ≡ before cuts rest
    → word ≡ take m rest → more ≡ drop m rest → 0 < m → pieces cuts xs ≡ word ∷ pieces cuts more
pieces-found cuts xs rest word more n m skipped back run front after some =
    let one = pieces-skip cuts xs in
    let two = pieces-first cuts rest (omega (arith, run, some)) in
    cc

pub pieces-lacking : (cuts : ℕ → Bool) (xs rest : List ℕ) (n m : ℕ) → n ≡ prefix_len cuts xs → rest ≡ drop n xs → m ≡ before cuts rest → m ≡ 0
    → pieces cuts xs ≡ []
pieces-lacking cuts xs rest n m skipped back run none = pieces-none cuts xs (cc)
