-- A write more among writes that go each to another block.
use Rattle.{mg_journal.specs.{Contents.names, Staged.{are_once, home_at, waiting}}, std.proofs.Common.{arith, refl, sym, ap, ◌∙◌}}
use Rattle.std.proofs.lemmas.Bool.{and_from, and_parts, both_ways, eq-eqb, ne_eqb, not_from_false, not-true, or_from, or_parts, Decides.nat_tests}
use Rattle.std.{proofs.lemmas.Option.none-some, specs.Prelude.{◌≡◌, ◌==◌, ◌&&◌, ◌||◌, ℕ, zero, suc, true, false, not, List, [], ◌∷◌, ◌++◌, slice_set}}
use Rattle.std.specs.Prelude.{None}

-- other bytes for a block that waits
names-set : (ws : List (ℕ × List ℕ)) (k : ℕ) (y : List ℕ) (b : ℕ) → names (slice_set ws k (home_at ws k, y)) b ≡ names ws b
names-set [] k y b = refl
names-set ((i, x) ∷ ws) zero y b = refl
names-set ((i, x) ∷ ws) (suc k) y b = ap (λ t. i == b || t) (names-set ws k y b)

pub once_set : (ws : List (ℕ × List ℕ)) (k : ℕ) (y : List ℕ) → are_once (slice_set ws k (home_at ws k, y)) ≡ are_once ws
once_set [] k y = refl
once_set ((i, x) ∷ ws) zero y = refl
once_set ((i, x) ∷ ws) (suc k) y = ap (λ t. not t && are_once (slice_set ws k (home_at ws k, y))) (names-set ws k y i) ∙ ap (λ t. not (names ws i) && t) (once_set ws k y)

-- a write after the others, to a block for which nothing waits
names-none : (ws : List (ℕ × List ℕ)) (b : ℕ) → waiting ws b ≡ None → names ws b ≡ false
names-none [] b none = refl
names-none ((i, x) ∷ ws) b none = grind (arith, nat_tests, none-some, or_from, names-none ws b)

names-more : (ws : List (ℕ × List ℕ)) (b : ℕ) (y : List ℕ) (k : ℕ) → names ws k ≡ false → (b == k) ≡ false → names (ws ++ (b, y) ∷ []) k ≡ false
names-more [] b y k none other = or_from (b == k) false other refl
names-more ((i, x) ∷ ws) b y k none other =
    let parts = or_parts (i == k) (names ws k) none in
    or_from (i == k) (names (ws ++ (b, y) ∷ []) k) parts.0 (names-more ws b y k parts.1 other)

new-more : (ws : List (ℕ × List ℕ)) (b : ℕ) (y : List ℕ) → names ws b ≡ false → are_once ws ≡ true → are_once (ws ++ (b, y) ∷ []) ≡ true
new-more [] b y new once = refl
new-more ((i, x) ∷ ws) b y new once =
    let parts = or_parts (i == b) (names ws b) new in
    let those = and_parts (not (names ws i)) (are_once ws) once in
    let apart : (b == i) ≡ false = ne_eqb b i (λ is. both_ways (i == b) parts.0 (eq-eqb i b (sym is))) in
    and_from (not (names (ws ++ (b, y) ∷ []) i)) (are_once (ws ++ (b, y) ∷ [])) (not_from_false (names (ws ++ (b, y) ∷ []) i) (names-more ws b y i (not-true (names ws i) those.0) apart)) (new-more ws b y parts.1 those.1)

pub once_more : (ws : List (ℕ × List ℕ)) (b : ℕ) (y : List ℕ) → waiting ws b ≡ None → are_once ws ≡ true → are_once (ws ++ (b, y) ∷ []) ≡ true
once_more ws b y none = new-more ws b y (names-none ws b none)
