-- The digits at the front of bytes, and the word that they are in.
use Rattle.mg_model.specs.{Abbreviations.below_word, Words.{and_then, digit_of, is_blank, value_from, value_of_digits}}
use Rattle.{mg_text.{proofs.Values.value_from-large, specs.Fronts.{digits_front, from_blank, number_before_blank}}, std.proofs.Common.{◌≡◌, ℕ, zero}}
use Rattle.std.proofs.Common.{suc, not, nat_lt, min, ◌⊎◌, ◌+◌, ◌*◌, ◌^◌, ◌<◌, ◌≤◌, ◌&&◌, nat_le, Bool, true, false, List, [], ◌∷◌, Option, Some, None}
use Rattle.std.proofs.{Common.{length, get_or, take, drop, if◌then◌else◌, option_map, refl, ap, sym, ◌∙◌, arith}, lemmas.Bool.{ltb-false, ltb-true}}
use Rattle.std.proofs.lemmas.{Bool.Decides.nat_tests, List.{drop_more, length-take-le, take_all, Sums.{prefix_len-drop_yes, prefix_len-le-length}}}
use Rattle.std.specs.{List.prefix_len, Prelude.is_some}

-- one digit more
front-cons : (base x d : ℕ) (ys : List ℕ) → Some d ≡ digit_of base x → digits_front base (x ∷ ys) ≡ x ∷ digits_front base ys
front-cons base x d ys e =
    let s : 1 + prefix_len (λ b. is_some (digit_of base b)) ys ≡ suc (prefix_len (λ b. is_some (digit_of base b)) ys) = omega arith in
    ap (λ o. take (if is_some o then 1 + prefix_len (λ b. is_some (digit_of base b)) ys else 0) (x ∷ ys)) (sym e) ∙ ap (λ m. take m (x ∷ ys)) s

pub front-digit : (base n i d : ℕ) (xs : List ℕ) → i < length xs → Some d ≡ digit_of base (get_or xs i 0)
    → value_from base n (digits_front base (drop i xs)) ≡ value_from base (n * base + d) (digits_front base (drop (i + 1) xs))
front-digit base n i d xs h e =
    ap (λ ys. value_from base n (digits_front base ys)) (drop_more xs i 0 h)
    ∙ ap (value_from base n) (front-cons base (get_or xs i 0) d (drop (i + 1) xs) e)
    ∙ ap (λ o. and_then o (λ v. value_from base (n * base + v) (digits_front base (drop (i + 1) xs)))) (sym e)

-- with a test on how many there are
within_case : (v : Bool) (o : Option ℕ) → below_word o ≡ None → below_word (if v then o else None) ≡ None
within_case true o e = e
within_case false o e = refl

pub front-large : (base most n i d : ℕ) (xs : List ℕ) → 0 < base → i < length xs → Some d ≡ digit_of base (get_or xs i 0)
    → below_word (value_from base 0 (digits_front base xs)) ≡ below_word (value_from base n (digits_front base (drop i xs)))
    → 2 ^ 64 ≤ n * base + d → below_word (value_of_digits base most (digits_front base xs)) ≡ None
front-large base most n i d xs some h e same large =
    within_case (nat_le 1 (length (digits_front base xs)) && nat_le (length (digits_front base xs)) most) (value_from base 0 (digits_front base xs))
    (same ∙ ap below_word (front-digit base n i d xs h e) ∙ value_from-large base (n * base + d) (digits_front base (drop (i + 1) xs)) some large)

pub front-none : (base most : ℕ) (xs : List ℕ) → prefix_len (λ b. is_some (digit_of base b)) xs ≡ 0 → below_word (value_of_digits base most (digits_front base xs)) ≡ None
front-none base most xs none = ap (λ m. below_word (value_of_digits base most (take m xs))) none

pub front-more : (base i d : ℕ) (xs : List ℕ) → i < length xs → Some d ≡ digit_of base (get_or xs i 0)
    → prefix_len (λ b. is_some (digit_of base b)) (drop i xs) ≡ 1 + prefix_len (λ b. is_some (digit_of base b)) (drop (i + 1) xs)
front-more base i d xs h e = prefix_len-drop_yes (λ b. is_some (digit_of base b)) xs i 0 h (ap is_some (sym e))

-- more digits than are read
pub front-long : (base most : ℕ) (xs : List ℕ) → most < prefix_len (λ b. is_some (digit_of base b)) xs → below_word (value_of_digits base most (digits_front base xs)) ≡ None
front-long base most xs long =
    let all = length-take-le (prefix_len (λ b. is_some (digit_of base b)) xs) xs (prefix_len-le-length (λ b. is_some (digit_of base b)) xs) in
    long_case (nat_le (length (digits_front base xs)) most) refl (omega (arith, all, long))
  where
    long_case : (v : Bool) → nat_le (length (digits_front base xs)) most ≡ v → most < length (digits_front base xs)
        → below_word (if nat_le 1 (length (digits_front base xs)) && nat_le (length (digits_front base xs)) most then value_from base 0 (digits_front base xs) else None) ≡ None
    long_case v t h = grind (arith, nat_tests)

-- as many digits as are read at most have been read, and there are none, or more follow
past_case : (base most i rest : ℕ) (xs : List ℕ) (v : Bool) → nat_lt most (prefix_len (λ b. is_some (digit_of base b)) xs) ≡ v
    → prefix_len (λ b. is_some (digit_of base b)) xs ≡ i + rest → min (length xs) most ≤ i → (i ≡ 0) ⊎ (0 < rest)
    → below_word (value_of_digits base most (digits_front base xs)) ≡ None
past_case base most i rest xs true more front over some = front-long base most xs (ltb-true most (prefix_len (λ b. is_some (digit_of base b)) xs) more)
past_case base most i rest xs false more front over some =
    let few = ltb-false most (prefix_len (λ b. is_some (digit_of base b)) xs) more in
    let all = prefix_len-le-length (λ b. is_some (digit_of base b)) xs in
    front-none base most xs (grind (arith, few, all, front, over, some))

pub front-past : (base most i rest : ℕ) (xs : List ℕ) → prefix_len (λ b. is_some (digit_of base b)) xs ≡ i + rest → min (length xs) most ≤ i → (i ≡ 0) ⊎ (0 < rest)
    → below_word (value_of_digits base most (digits_front base xs)) ≡ None
front-past base most i rest xs front over some = past_case base most i rest xs (nat_lt most (prefix_len (λ b. is_some (digit_of base b)) xs)) refl front over some

-- a word with a byte that is no digit
stop_case : (base n b m : ℕ) (bytes : List ℕ) (o : Option ℕ) → digit_of base b ≡ o → prefix_len (λ x. is_some (digit_of base x)) (b ∷ bytes) < suc m
    → ((v : ℕ) → prefix_len (λ x. is_some (digit_of base x)) bytes < m → value_from base v (take m bytes) ≡ None) → value_from base n (b ∷ take m bytes) ≡ None
stop_case base n b m bytes None e less ih = ap (λ o. and_then o (λ d. value_from base (n * base + d) (take m bytes))) e
stop_case base n b m bytes (Some d) e less ih =
    ap (λ o. and_then o (λ v. value_from base (n * base + v) (take m bytes))) e
    ∙ ih (n * base + d) (let h : 1 + prefix_len (λ x. is_some (digit_of base x)) bytes < suc m = rw e at less in omega (arith, h))

word-stops : (base n m : ℕ) (xs : List ℕ) → prefix_len (λ b. is_some (digit_of base b)) xs < m → m ≤ length xs → value_from base n (take m xs) ≡ None
word-stops base n zero xs less few = absurd (omega (arith, less))
word-stops base n (suc m) [] less few = absurd (omega (arith, few))
word-stops base n (suc m) (b ∷ bytes) less few = stop_case base n b m bytes (digit_of base b) refl less (λ v h. word-stops base v m bytes h (omega (arith, few)))

pub word-longer : (base most m : ℕ) (xs : List ℕ) → prefix_len (λ b. is_some (digit_of base b)) xs < m → m ≤ length xs
    → below_word (value_of_digits base most (take m xs)) ≡ None
word-longer base most m xs less few =
    within_case (nat_le 1 (length (take m xs)) && nat_le (length (take m xs)) most) (value_from base 0 (take m xs)) (ap below_word (word-stops base 0 m xs less few))

-- a word is the digits, or it has a byte more
none_case : (base most m : ℕ) (xs : List ℕ) (v : Bool) → nat_lt (prefix_len (λ b. is_some (digit_of base b)) xs) m ≡ v → prefix_len (λ b. is_some (digit_of base b)) xs ≤ m
    → m ≤ length xs → below_word (value_of_digits base most (digits_front base xs)) ≡ None → below_word (value_of_digits base most (take m xs)) ≡ None
none_case base most m xs true less within few none = word-longer base most m xs (ltb-true (prefix_len (λ b. is_some (digit_of base b)) xs) m less) few
none_case base most m xs false less within few none =
    let over = ltb-false (prefix_len (λ b. is_some (digit_of base b)) xs) m less in
    let same : m ≡ prefix_len (λ b. is_some (digit_of base b)) xs = omega (arith, over, within) in
    ap (λ k. below_word (value_of_digits base most (take k xs))) same ∙ none

pub word-none : (base most m : ℕ) (xs : List ℕ) → prefix_len (λ b. is_some (digit_of base b)) xs ≤ m → m ≤ length xs
    → below_word (value_of_digits base most (digits_front base xs)) ≡ None → below_word (value_of_digits base most (take m xs)) ≡ None
word-none base most m xs within few none = none_case base most m xs (nat_lt (prefix_len (λ b. is_some (digit_of base b)) xs) m) refl within few none

-- no digit is a blank
digit_no_blank : (base b d : ℕ) → digit_of base b ≡ Some d → is_blank b ≡ false
digit_no_blank base b d e = grind (arith, nat_tests)

run_case : (base b : ℕ) (bytes : List ℕ) (o : Option ℕ) → digit_of base b ≡ o
    → prefix_len (λ x. not (is_blank x)) bytes
    ≡ prefix_len (λ x. is_some (digit_of base x)) bytes + prefix_len (λ x. not (is_blank x)) (drop (prefix_len (λ x. is_some (digit_of base x)) bytes) bytes)
    → prefix_len (λ x. not (is_blank x)) (b ∷ bytes)
    ≡ prefix_len (λ x. is_some (digit_of base x)) (b ∷ bytes)
    + prefix_len (λ x. not (is_blank x)) (drop (prefix_len (λ x. is_some (digit_of base x)) (b ∷ bytes)) (b ∷ bytes))
run_case base b bytes None e ih = rw e (omega arith)
run_case base b bytes (Some d) e ih =
    let solid = digit_no_blank base b d e in
    let s : 1 + prefix_len (λ x. is_some (digit_of base x)) bytes ≡ suc (prefix_len (λ x. is_some (digit_of base x)) bytes) = omega arith in
    rw (solid, e, s) (omega (arith, ih))

-- the bytes before the first blank are the digits at the front and what follows them
pub run-digits : (base : ℕ) (xs : List ℕ)
    → prefix_len (λ b. not (is_blank b)) xs
    ≡ prefix_len (λ b. is_some (digit_of base b)) xs + prefix_len (λ b. not (is_blank b)) (drop (prefix_len (λ b. is_some (digit_of base b)) xs) xs)
run-digits base [] = refl
run-digits base (b ∷ bytes) = run_case base b bytes (digit_of base b) refl (run-digits base bytes)

-- the word before the first blank: no digits at its front, digits alone, or a byte more
pub blank-none : (base most : ℕ) (xs : List ℕ) → None ≡ below_word (value_of_digits base most (digits_front base xs)) → number_before_blank base most xs ≡ None
blank-none base most xs e =
    ap (λ o. option_map (λ n. (n, from_blank xs)) o)
    (word-none base most (prefix_len (λ b. not (is_blank b)) xs) xs (omega (arith, run-digits base xs)) (prefix_len-le-length (λ b. not (is_blank b)) xs) (sym e))

pub blank-here : (base most n k : ℕ) (xs rest : List ℕ) → k ≡ prefix_len (λ b. is_some (digit_of base b)) xs → rest ≡ drop k xs → prefix_len (λ b. not (is_blank b)) rest ≡ 0
    → Some n ≡ below_word (value_of_digits base most (digits_front base xs)) → Some (n, rest) ≡ number_before_blank base most xs
blank-here base most n k xs rest count back blank e =
    let behind : rest ≡ drop (prefix_len (λ b. is_some (digit_of base b)) xs) xs = back ∙ ap (λ m. drop m xs) count in
    let none = sym (ap (λ ys. prefix_len (λ b. not (is_blank b)) ys) behind) ∙ blank in
    let same : prefix_len (λ b. is_some (digit_of base b)) xs ≡ prefix_len (λ b. not (is_blank b)) xs = omega (arith, run-digits base xs, none) in
    ap (λ ys. Some (n, ys)) behind
    ∙ ap (λ o. option_map (λ v. (v, drop (prefix_len (λ b. is_some (digit_of base b)) xs) xs)) o) e
    ∙ ap (λ m. option_map (λ v. (v, drop m xs)) (below_word (value_of_digits base most (take m xs)))) same

pub blank-later : (base most k : ℕ) (xs rest : List ℕ) → k ≡ prefix_len (λ b. is_some (digit_of base b)) xs → rest ≡ drop k xs → 0 < prefix_len (λ b. not (is_blank b)) rest
    → number_before_blank base most xs ≡ None
blank-later base most k xs rest count back some =
    let behind : rest ≡ drop (prefix_len (λ b. is_some (digit_of base b)) xs) xs = back ∙ ap (λ m. drop m xs) count in
    let more = ap (λ ys. prefix_len (λ b. not (is_blank b)) ys) behind in
    ap (λ o. option_map (λ n. (n, from_blank xs)) o)
    (word-longer base most (prefix_len (λ b. not (is_blank b)) xs) xs (omega (arith, run-digits base xs, more, some)) (prefix_len-le-length (λ b. not (is_blank b)) xs))

-- the same lemmas for a word that is given alone
pub word-no : (base most : ℕ) (xs : List ℕ) → None ≡ below_word (value_of_digits base most (digits_front base xs)) → below_word (value_of_digits base most xs) ≡ None
word-no base most xs e =
    ap (λ ys. below_word (value_of_digits base most ys)) (sym (take_all (length xs) xs (omega arith)))
    ∙ word-none base most (length xs) xs (prefix_len-le-length (λ b. is_some (digit_of base b)) xs) (omega arith) (sym e)

pub word-not : (base most k : ℕ) (xs : List ℕ) → k ≡ prefix_len (λ b. is_some (digit_of base b)) xs → k < length xs → below_word (value_of_digits base most xs) ≡ None
word-not base most k xs count less =
    ap (λ ys. below_word (value_of_digits base most ys)) (sym (take_all (length xs) xs (omega arith)))
    ∙ word-longer base most (length xs) xs (omega (arith, count, less)) (omega arith)
