-- The number that the first word spells.
use Rattle.{mg_model.specs.{Abbreviations.below_word, Words.{hex_part, is_blank, value_of_digits, words}}, mg_text.specs.Fronts.before_blank}
use Rattle.{mg_text.specs.{Fronts.{first_number, from_blank}, PieceLemmas.{pieces-found, pieces-lacking}}, std.proofs.Common.{◌≡◌, ℕ, zero, suc, ◌+◌}}
use Rattle.std.proofs.Common.{◌==◌, ◌&&◌, not, Bool, true, false, List, [], ◌∷◌, Option, Some, None, take, drop, if◌then◌else◌, option_map, refl, ap}
use Rattle.std.{proofs.{Common.{sym, ◌∙◌, arith}, lemmas.Bool.Decides.nat_tests}, specs.{List.prefix_len, Option.option_map_or}}

-- what comes after a number, as words
pub behind-words : {X : Type 0} (f : X → ℕ × List ℕ) (r : Option X) (behind : List ℕ) (o : Option ℕ) → option_map f r ≡ option_map {U = ℕ × List ℕ} (λ n. (n, behind)) o
    → option_map {U = ℕ × List (List ℕ)} (λ x. ((f x).0, words (f x).1)) r ≡ option_map (λ n. (n, words behind)) o
behind-words f None behind None e = refl
behind-words f None behind (Some n) e = absurd cc
behind-words f (Some x) behind None e = absurd cc
behind-words f (Some x) behind (Some n) e = ap (λ o. option_map {U = ℕ × List (List ℕ)} (λ q. (q.0, words q.1)) o) e

-- what begins with 0x
prefix_case : (a b : ℕ) (bytes ds : List ℕ) (v : Bool) → (a == 48 && b == 120) ≡ v → Some ds ≡ (if v then Some bytes else None) → a ∷ b ∷ bytes ≡ 48 ∷ 120 ∷ ds
prefix_case a b bytes ds true t e =
    let first : a ≡ 48 = grind (arith, nat_tests) in
    let second : b ≡ 120 = grind (arith, nat_tests) in
    cc
prefix_case a b bytes ds false t e = absurd cc

prefixed : (xs ds : List ℕ) → Some ds ≡ hex_part xs → xs ≡ 48 ∷ 120 ∷ ds
prefixed [] ds e = absurd cc
prefixed (a ∷ []) ds e = absurd cc
prefixed (a ∷ b ∷ bytes) ds e = prefix_case a b bytes ds (a == 48 && b == 120) refl e

-- and what doesn't
bare_case : (v : Bool) (xs ys : List ℕ) → None ≡ (if v then Some xs else None) → (if v then Some ys else None) ≡ None
bare_case true xs ys e = absurd cc
bare_case false xs ys e = refl

bare : (m : ℕ) (xs : List ℕ) → None ≡ hex_part xs → hex_part (take m xs) ≡ None
bare zero xs e = refl
bare (suc m) [] e = refl
bare (suc zero) (a ∷ bytes) e = refl
bare (suc (suc m)) (a ∷ []) e = refl
bare (suc (suc m)) (a ∷ b ∷ bytes) e = bare_case (a == 48 && b == 120) bytes (take m bytes) e

pub first-hexadecimal : (bytes front ds : List ℕ) (n : ℕ) → n ≡ prefix_len is_blank bytes → front ≡ drop n bytes → Some ds ≡ hex_part front
    → first_number (words bytes) ≡ option_map (λ v. (v, words (from_blank ds))) (below_word (value_of_digits 16 16 (before_blank ds)))
first-hexadecimal bytes front ds n skipped back hex =
    let e = prefixed front ds hex in
    let m = suc (suc (prefix_len (λ b. not (is_blank b)) ds)) in
    let long : 1 + (1 + prefix_len (λ b. not (is_blank b)) ds) ≡ m = omega arith in
    ap first_number (pieces-found is_blank bytes front (48 ∷ 120 ∷ before_blank ds) (from_blank ds) n m skipped back (sym (ap (λ ys. prefix_len (λ b. not (is_blank b)) ys) e ∙ long)) (ap (λ ys. take m ys) (sym e))
    (ap (λ ys. drop m ys) (sym e)) (omega arith))

decimal_case : (bytes front : List ℕ) (n m : ℕ) → n ≡ prefix_len is_blank bytes → front ≡ drop n bytes → None ≡ hex_part front → m ≡ prefix_len (λ b. not (is_blank b)) front
    → first_number (words bytes) ≡ option_map (λ v. (v, words (drop m front))) (below_word (value_of_digits 10 20 (take m front)))
decimal_case bytes front n zero skipped back none run = ap first_number (pieces-lacking is_blank bytes front n zero skipped back run refl)
decimal_case bytes front n (suc m) skipped back none run =
    ap first_number (pieces-found is_blank bytes front (take (suc m) front) (drop (suc m) front) n (suc m) skipped back run refl refl (omega arith))
    ∙ ap (λ o. option_map (λ v. (v, words (drop (suc m) front))) (below_word (option_map_or (λ digits. value_of_digits 16 16 digits) o (value_of_digits 10 20 (take (suc m) front)))))
    (bare (suc m) front none)

pub first-decimal : (bytes front : List ℕ) (n : ℕ) → n ≡ prefix_len is_blank bytes → front ≡ drop n bytes → None ≡ hex_part front
    → first_number (words bytes) ≡ option_map (λ v. (v, words (from_blank front))) (below_word (value_of_digits 10 20 (before_blank front)))
first-decimal bytes front n skipped back none = decimal_case bytes front n (prefix_len (λ b. not (is_blank b)) front) skipped back none refl
