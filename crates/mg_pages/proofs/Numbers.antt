-- The words of a block one by one.
use Rattle.{mg_model.specs.Bytes.{block_words, number_at, numbers_at}, mg_pages.specs.LengthLemmas.length-numbers, std.proofs.Common.{sym, ap, ◌∙◌}}
use Rattle.std.proofs.{Common.{⊎_elim, arith, get_or}, lemmas.{Bool.cases_eq, List.{ext_get_or, get_or-set_other, get_or-set_same, length-set}}}
use Rattle.std.specs.Prelude.{◌≡◌, ◌≢◌, ◌+◌, ◌*◌, ◌<◌, ℕ, zero, suc, List, slice_set}

pub number-of : (bytes : List ℕ) (from n i : ℕ) → i < n → get_or (numbers_at bytes from n) i 0 ≡ number_at bytes (from + 8 * i)
number-of bytes from zero i below = absurd (omega arith)
number-of bytes from (suc n) zero below = let e : from + 8 * 0 ≡ from = omega arith in ap (number_at bytes) (sym e)
number-of bytes from (suc n) (suc i) below =
    let e : from + 8 + 8 * i ≡ from + 8 * suc i = omega arith in
    number-of bytes (from + 8) n i (omega arith) ∙ ap (number_at bytes) e

-- one word more or less
pub numbers-set : (n : ℕ) (old new : List ℕ) (k word : ℕ) → k < n → number_at new (8 * k) ≡ word → ((j : ℕ) → j < n → j ≢ k → number_at new (8 * j) ≡ number_at old (8 * j))
    → numbers_at new 0 n ≡ slice_set (numbers_at old 0 n) k word
numbers-set n old new k word below is others =
    ext_get_or 0 (numbers_at new 0 n) (slice_set (numbers_at old 0 n) k word) (length-numbers new 0 n ∙ sym (length-set (numbers_at old 0 n) k word ∙ length-numbers old 0 n))
    (λ i within. ⊎_elim (here i) (there i (let e = length-numbers new 0 n in omega arith)) (cases_eq i k))
  where
    at : (bytes : List ℕ) (i : ℕ) → i < n → get_or (numbers_at bytes 0 n) i 0 ≡ number_at bytes (8 * i)
    at bytes i low = let e : 0 + 8 * i ≡ 8 * i = omega arith in number-of bytes 0 n i low ∙ ap (number_at bytes) e

    here : (i : ℕ) → i ≡ k → get_or (numbers_at new 0 n) i 0 ≡ get_or (slice_set (numbers_at old 0 n) k word) i 0
    here i same = grind (arith, at, get_or-set_same, length-numbers)

    there : (i : ℕ) → i < n → i ≢ k → get_or (numbers_at new 0 n) i 0 ≡ get_or (slice_set (numbers_at old 0 n) k word) i 0
    there i low other = at new i low ∙ others i low other ∙ sym (at old i low) ∙ sym (get_or-set_other (numbers_at old 0 n) k i word 0 other)

-- of a whole block
pub block-set : (old new : List ℕ) (k word : ℕ) → k < 512 → number_at new (8 * k) ≡ word → ((j : ℕ) → j ≢ k → number_at new (8 * j) ≡ number_at old (8 * j)) → block_words new ≡ slice_set (block_words old) k word
block-set old new k word below is others = numbers-set 512 old new k word below is (λ j low other. others j other)

pub block-word : (bytes : List ℕ) (i : ℕ) → i < 512 → number_at bytes (8 * i) ≡ get_or (block_words bytes) i 0
block-word bytes i below = let e : 0 + 8 * i ≡ 8 * i = omega arith in sym (number-of bytes 0 512 i below ∙ ap (number_at bytes) e)
