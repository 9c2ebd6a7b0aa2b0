-- Lemmas on images after a list of writes.
use Rattle.std.proofs.{Common.{refl, sym, ap, ◌∙◌, ⊎_elim, arith}, lemmas.Bool.{both_ways, cases_Bool, cases_eq}}
use Rattle.std.proofs.lemmas.{Bool.{cases_lt, eq-eqb, ne_eqb, or_from, or_left, or_right}, List.ext_get_or}
use Rattle.std.{proofs.lemmas.List.{get_or-set_other, get_or-set_same, get_or_past, length-set}, specs.Prelude.◌≡◌}
use Rattle.std.specs.Prelude.{◌≢◌, ◌==◌, ℕ, true, false, List, [], ◌∷◌, ◌++◌, length, slice_set}
use Rattle.{mg_disk.specs.Disk.{Image, SameBut, block_at}, mg_journal.specs.Contents.names}
use Rattle.mg_model.specs.Replay.{written}

-- images that differ at no place are equal
pub all_same : (P : ℕ → Type 0) (a b : Image) → SameBut P a b → ((k : ℕ) → P k → ⊥) → b ≡ a
all_same P a b same none = ext_get_or [] b a same.count (λ k below. same.others k (none k))

-- one write over images that are the same but at some places
set_same : (P : ℕ → Type 0) (a b : Image) (i : ℕ) (x : List ℕ) → SameBut P a b → SameBut (λ k. P k × (k ≢ i)) (slice_set a i x) (slice_set b i x)
set_same P a b i x same = record { count = length-set b i x ∙ same.count ∙ sym (length-set a i x); others = λ k out. ⊎_elim (here k) (there k out) (cases_eq k i) }
  where
    here : (k : ℕ) → k ≡ i → block_at (slice_set b i x) k ≡ block_at (slice_set a i x) k
    here k is =
        ap (block_at (slice_set b i x)) is
        ∙ ⊎_elim
        (λ below. get_or-set_same b i x [] (let n = same.count in omega arith) ∙ sym (get_or-set_same a i x [] below))
        (λ past. get_or_past (slice_set b i x) i [] (let n = same.count in let m = length-set b i x in omega arith) ∙ sym (get_or_past (slice_set a i x) i [] (let m = length-set a i x in omega arith)))
        (cases_lt i (length a))
        ∙ ap (block_at (slice_set a i x)) (sym is)

    there : (k : ℕ) → ((P k × (k ≢ i)) → ⊥) → k ≢ i → block_at (slice_set b i x) k ≡ block_at (slice_set a i x) k
    there k out not = get_or-set_other b i k x [] not ∙ same.others k (λ p. out (p, not)) ∙ sym (get_or-set_other a i k x [] not)

-- the same writes over images that are the same but at some places: the places that are written are the same too
pub written_same : (writes : List (ℕ × List ℕ)) (P : ℕ → Type 0) (a b : Image) → SameBut P a b → SameBut (λ k. P k × (names writes k ≡ false)) (written a writes) (written b writes)
written_same [] P a b same = record { count = same.count; others = λ k out. same.others k (λ p. out (p, refl)) }
written_same ((i, x) ∷ writes) P a b same =
    let rest = written_same writes (λ k. P k × (k ≢ i)) (slice_set a i x) (slice_set b i x) (set_same P a b i x same) in
    record { count = rest.count; others = λ k out. rest.others k (λ p. out (p.0.0, or_from (i == k) (names writes k) (ne_eqb i k (λ is. p.0.1 (sym is))) p.1)) }

-- writes change the blocks that they go to alone
pub written_elsewhere : (writes : List (ℕ × List ℕ)) (a : Image) → SameBut (λ k. names writes k ≡ true) a (written a writes)
written_elsewhere [] a = record { count = refl; others = λ k out. refl }
written_elsewhere ((i, x) ∷ writes) a =
    let rest = written_elsewhere writes (slice_set a i x) in
    record {
      count = rest.count ∙ length-set a i x;
      others = λ k out.
          rest.others k (λ n. out (or_right (i == k) (names writes k) n))
          ∙ get_or-set_other a i k x [] (λ is. out (or_left (i == k) (names writes k) (eq-eqb i k (sym is))));
    }

pub written-append : (first second : List (ℕ × List ℕ)) (a : Image) → written a (first ++ second) ≡ written (written a first) second
written-append [] second a = refl
written-append ((i, x) ∷ first) second a = written-append first second (slice_set a i x)

-- any bytes where the writes go
pub written_over : (writes : List (ℕ × List ℕ)) (a b : Image) → SameBut (λ k. names writes k ≡ true) a b → written b writes ≡ written a writes
written_over writes a b same =
    all_same (λ k. (names writes k ≡ true) × (names writes k ≡ false)) (written a writes) (written b writes) (written_same writes (λ k. names writes k ≡ true) a b same) (λ k p. both_ways (names writes k) p.1 p.0)

-- when all writes change nothing, the last of them change nothing
pub last_change_nothing : (a : Image) (first last : List (ℕ × List ℕ)) → written a (first ++ last) ≡ a → written a last ≡ a
last_change_nothing a first last is =
    ext_get_or [] (written a last) a (written_elsewhere last a).count (λ k below. ⊎_elim (there k) (elsewhere k) (cases_Bool (names last k)))
  where
    elsewhere : (k : ℕ) → names last k ≡ false → block_at (written a last) k ≡ block_at a k
    elsewhere k not = (written_elsewhere last a).others k (λ n. both_ways (names last k) not n)

    there : (k : ℕ) → names last k ≡ true → block_at (written a last) k ≡ block_at a k
    there k named =
        let over = written_same last (λ j. names first j ≡ true) a (written a first) (written_elsewhere first a) in
        sym (over.others k (λ p. both_ways (names last k) p.1 named)) ∙ ap (λ i. block_at i k) (sym (written-append first last a) ∙ is)
