-- Words by their number.
use Rattle.mg_commands.specs.{Commands.{dry_of, format_of, gen_of, is_check, run_of, tariff_of}, Forms.{dry_words, format_usual, format_with}}
use Rattle.{mg_commands.specs.Forms.{gen_with, run_alone, run_with}, mg_io.specs.Arguments.arguments, mg_model.specs.Words.same_bytes}
use Rattle.std.proofs.Common.{ℕ, zero, false, ◌<◌, ◌≡◌, List, [], ◌∷◌, length, get_or, suc, Option, None, refl, sym, ap, ◌∙◌, arith}
use Rattle.std.specs.{Prelude.{String, codes}, String.string_bytes, declared.alloc.Global.Global}

not_five : (words : List (List ℕ)) → (length words ≡ 5 → ⊥) → dry_of words ≡ None
not_five [] h = refl
not_five (a ∷ []) h = refl
not_five (a ∷ b ∷ []) h = refl
not_five (a ∷ b ∷ c ∷ []) h = refl
not_five (a ∷ b ∷ c ∷ d ∷ []) h = refl
not_five (a ∷ b ∷ c ∷ d ∷ e ∷ []) h = absurd (h refl)
not_five (a ∷ b ∷ c ∷ d ∷ e ∷ f ∷ words) h = refl

pub length-arguments : (words : List (String Global)) → length (arguments words) ≡ length words
length-arguments [] = refl
length-arguments (word ∷ words) = ap (λ n. suc n) (length-arguments words)

-- fewer or more words
pub dry_of-other : (words : List (String Global)) → (length words ≡ 5 → ⊥) → dry_of (arguments words) ≡ None
dry_of-other words h = not_five (arguments words) (λ e. h (sym (length-arguments words) ∙ e))

-- five words, each read by its place
by_place : (words : List (String Global)) (a b c d : String Global) → length words ≡ 5
    → a ≡ get_or words 1 a → b ≡ get_or words 2 b → c ≡ get_or words 3 c → d ≡ get_or words 4 d
    → dry_words (string_bytes a) (string_bytes b) (string_bytes c) (string_bytes d) ≡ dry_of (arguments words)
by_place [] a b c d five p q r s = absurd (omega arith)
by_place (w0 ∷ []) a b c d five p q r s = absurd (omega arith)
by_place (w0 ∷ w1 ∷ []) a b c d five p q r s = absurd (omega arith)
by_place (w0 ∷ w1 ∷ w2 ∷ []) a b c d five p q r s = absurd (omega arith)
by_place (w0 ∷ w1 ∷ w2 ∷ w3 ∷ []) a b c d five p q r s = absurd (omega arith)
by_place (w0 ∷ w1 ∷ w2 ∷ w3 ∷ w4 ∷ []) a b c d five p q r s =
    ap (λ v. dry_words (string_bytes v) (string_bytes b) (string_bytes c) (string_bytes d)) p
    ∙ ap (λ v. dry_words (string_bytes w1) (string_bytes v) (string_bytes c) (string_bytes d)) q
    ∙ ap (λ v. dry_words (string_bytes w1) (string_bytes w2) (string_bytes v) (string_bytes d)) r
    ∙ ap (λ v. dry_words (string_bytes w1) (string_bytes w2) (string_bytes w3) (string_bytes v)) s
by_place (w0 ∷ w1 ∷ w2 ∷ w3 ∷ w4 ∷ w5 ∷ more) a b c d five p q r s = absurd (omega arith)

-- the same, with the bytes of each word
pub dry_of-five : (words : List (String Global)) (a b c d : String Global) (word frames seed credits : List ℕ) → length words ≡ 5
    → a ≡ get_or words 1 a → b ≡ get_or words 2 b → c ≡ get_or words 3 c → d ≡ get_or words 4 d
    → word ≡ string_bytes a → frames ≡ string_bytes b → seed ≡ string_bytes c → credits ≡ string_bytes d
    → dry_words word frames seed credits ≡ dry_of (arguments words)
dry_of-five words a b c d word frames seed credits five p q r s h k m n =
    ap (λ v. dry_words v frames seed credits) h ∙ ap (λ v. dry_words (string_bytes a) v seed credits) k
    ∙ ap (λ v. dry_words (string_bytes a) (string_bytes b) v credits) m
    ∙ ap (λ v. dry_words (string_bytes a) (string_bytes b) (string_bytes c) v) n
    ∙ by_place words a b c d five p q r s

-- a word by its place, as bytes
pub item : (words : List (String Global)) (k : ℕ) (a : String Global) → k < length words → a ≡ get_or words k a → get_or (arguments words) k [] ≡ string_bytes a
item [] k a low is = absurd (omega arith)
item (w ∷ words) zero a low is = ap (λ v. string_bytes v) (sym is)
item (w ∷ words) (suc k) a low is = item words k a (omega arith) is

-- the words of `format`, each by its place
pub format_of-five : (words : List (List ℕ)) (word frames seed credits : List ℕ) → length words ≡ 5
    → get_or words 1 [] ≡ word → get_or words 2 [] ≡ frames → get_or words 3 [] ≡ seed → get_or words 4 [] ≡ credits
    → format_usual word frames seed credits ≡ format_of words
format_of-five [] w f s c five p q r t = absurd (omega arith)
format_of-five (a0 ∷ []) w f s c five p q r t = absurd (omega arith)
format_of-five (a0 ∷ a1 ∷ []) w f s c five p q r t = absurd (omega arith)
format_of-five (a0 ∷ a1 ∷ a2 ∷ []) w f s c five p q r t = absurd (omega arith)
format_of-five (a0 ∷ a1 ∷ a2 ∷ a3 ∷ []) w f s c five p q r t = absurd (omega arith)
format_of-five (a0 ∷ a1 ∷ a2 ∷ a3 ∷ a4 ∷ []) w f s c five p q r t =
    sym
    (ap (λ v. format_usual v a2 a3 a4) p ∙ ap (λ v. format_usual w v a3 a4) q
    ∙ ap (λ v. format_usual w f v a4) r ∙ ap (λ v. format_usual w f s v) t)
format_of-five (a0 ∷ a1 ∷ a2 ∷ a3 ∷ a4 ∷ a5 ∷ more) w f s c five p q r t = absurd (omega arith)

pub format_of-nine : (words : List (List ℕ)) (word frames seed credits : List ℕ) (tariff : Option (List (ℕ × ℕ))) → length words ≡ 9
    → get_or words 1 [] ≡ word → get_or words 2 [] ≡ frames → get_or words 3 [] ≡ seed → get_or words 4 [] ≡ credits
    → tariff_of (get_or words 5 []) (get_or words 6 []) (get_or words 7 []) (get_or words 8 []) ≡ tariff
    → format_with tariff word frames seed credits ≡ format_of words
format_of-nine [] w f s c t nine p q r u h = absurd (omega arith)
format_of-nine (a0 ∷ []) w f s c t nine p q r u h = absurd (omega arith)
format_of-nine (a0 ∷ a1 ∷ []) w f s c t nine p q r u h = absurd (omega arith)
format_of-nine (a0 ∷ a1 ∷ a2 ∷ []) w f s c t nine p q r u h = absurd (omega arith)
format_of-nine (a0 ∷ a1 ∷ a2 ∷ a3 ∷ []) w f s c t nine p q r u h = absurd (omega arith)
format_of-nine (a0 ∷ a1 ∷ a2 ∷ a3 ∷ a4 ∷ []) w f s c t nine p q r u h = absurd (omega arith)
format_of-nine (a0 ∷ a1 ∷ a2 ∷ a3 ∷ a4 ∷ a5 ∷ []) w f s c t nine p q r u h = absurd (omega arith)
format_of-nine (a0 ∷ a1 ∷ a2 ∷ a3 ∷ a4 ∷ a5 ∷ a6 ∷ []) w f s c t nine p q r u h = absurd (omega arith)
format_of-nine (a0 ∷ a1 ∷ a2 ∷ a3 ∷ a4 ∷ a5 ∷ a6 ∷ a7 ∷ []) w f s c t nine p q r u h = absurd (omega arith)
format_of-nine (a0 ∷ a1 ∷ a2 ∷ a3 ∷ a4 ∷ a5 ∷ a6 ∷ a7 ∷ a8 ∷ []) w f s c t nine p q r u h =
    sym
    (ap (λ v. format_with v a1 a2 a3 a4) h ∙ ap (λ v. format_with t v a2 a3 a4) p ∙ ap (λ v. format_with t w v a3 a4) q
    ∙ ap (λ v. format_with t w f v a4) r ∙ ap (λ v. format_with t w f s v) u)
format_of-nine (a0 ∷ a1 ∷ a2 ∷ a3 ∷ a4 ∷ a5 ∷ a6 ∷ a7 ∷ a8 ∷ a9 ∷ more) w f s c t nine p q r u h = absurd (omega arith)

-- four words of a tariff
pub tariff_of-four : (a b c d a' b' c' d' : List ℕ) → a ≡ a' → b ≡ b' → c ≡ c' → d ≡ d' → tariff_of a b c d ≡ tariff_of a' b' c' d'
tariff_of-four a b c d a' b' c' d' p q r t =
    ap (λ v. tariff_of v b c d) p ∙ ap (λ v. tariff_of a' v c d) q ∙ ap (λ v. tariff_of a' b' v d) r ∙ ap (λ v. tariff_of a' b' c' v) t

not_format : (words : List (List ℕ)) → (length words ≡ 5 → ⊥) → (length words ≡ 9 → ⊥) → format_of words ≡ None
not_format [] h k = refl
not_format (a0 ∷ []) h k = refl
not_format (a0 ∷ a1 ∷ []) h k = refl
not_format (a0 ∷ a1 ∷ a2 ∷ []) h k = refl
not_format (a0 ∷ a1 ∷ a2 ∷ a3 ∷ []) h k = refl
not_format (a0 ∷ a1 ∷ a2 ∷ a3 ∷ a4 ∷ []) h k = absurd (h refl)
not_format (a0 ∷ a1 ∷ a2 ∷ a3 ∷ a4 ∷ a5 ∷ []) h k = refl
not_format (a0 ∷ a1 ∷ a2 ∷ a3 ∷ a4 ∷ a5 ∷ a6 ∷ []) h k = refl
not_format (a0 ∷ a1 ∷ a2 ∷ a3 ∷ a4 ∷ a5 ∷ a6 ∷ a7 ∷ []) h k = refl
not_format (a0 ∷ a1 ∷ a2 ∷ a3 ∷ a4 ∷ a5 ∷ a6 ∷ a7 ∷ a8 ∷ []) h k = absurd (k refl)
not_format (a0 ∷ a1 ∷ a2 ∷ a3 ∷ a4 ∷ a5 ∷ a6 ∷ a7 ∷ a8 ∷ a9 ∷ more) h k = refl

-- neither five words nor nine
pub format_of-other : (words : List (String Global)) → (length words ≡ 5 → ⊥) → (length words ≡ 9 → ⊥) → format_of (arguments words) ≡ None
format_of-other words h k = not_format (arguments words) (λ e. h (sym (length-arguments words) ∙ e)) (λ e. k (sym (length-arguments words) ∙ e))

-- the words of `check` and `run`, each by its place
pub is_check-two : (words : List (String Global)) (a : String Global) (word : List ℕ) → length words ≡ 2 → a ≡ get_or words 1 a → word ≡ string_bytes a → same_bytes word (codes "check") ≡ is_check (arguments words)
is_check-two [] a w two p h = absurd (omega arith)
is_check-two (w0 ∷ []) a w two p h = absurd (omega arith)
is_check-two (w0 ∷ w1 ∷ []) a w two p h = ap (λ v. same_bytes v (codes "check")) (h ∙ ap (λ v. string_bytes v) p)
is_check-two (w0 ∷ w1 ∷ w2 ∷ more) a w two p h = absurd (omega arith)

not_two : (words : List (List ℕ)) → (length words ≡ 2 → ⊥) → is_check words ≡ false
not_two [] h = refl
not_two (a ∷ []) h = refl
not_two (a ∷ b ∷ []) h = absurd (h refl)
not_two (a ∷ b ∷ c ∷ more) h = refl

pub is_check-other : (words : List (String Global)) → (length words ≡ 2 → ⊥) → is_check (arguments words) ≡ false
is_check-other words h = not_two (arguments words) (λ e. h (sym (length-arguments words) ∙ e))

pub run_of-two : (words : List (String Global)) (a : String Global) (word : List ℕ) → length words ≡ 2 → a ≡ get_or words 1 a → word ≡ string_bytes a → run_alone word ≡ run_of (arguments words)
run_of-two [] a w two p h = absurd (omega arith)
run_of-two (w0 ∷ []) a w two p h = absurd (omega arith)
run_of-two (w0 ∷ w1 ∷ []) a w two p h = ap (λ v. run_alone v) (h ∙ ap (λ v. string_bytes v) p)
run_of-two (w0 ∷ w1 ∷ w2 ∷ more) a w two p h = absurd (omega arith)

pub run_of-three : (words : List (String Global)) (a b : String Global) (word batch : List ℕ) → length words ≡ 3 → a ≡ get_or words 1 a → b ≡ get_or words 2 b → word ≡ string_bytes a → batch ≡ string_bytes b
    → run_with word batch ≡ run_of (arguments words)
run_of-three [] a b w n three p q h k = absurd (omega arith)
run_of-three (w0 ∷ []) a b w n three p q h k = absurd (omega arith)
run_of-three (w0 ∷ w1 ∷ []) a b w n three p q h k = absurd (omega arith)
run_of-three (w0 ∷ w1 ∷ w2 ∷ []) a b w n three p q h k = ap (λ v. run_with v n) (h ∙ ap (λ v. string_bytes v) p) ∙ ap (λ v. run_with (string_bytes w1) v) (k ∙ ap (λ v. string_bytes v) q)
run_of-three (w0 ∷ w1 ∷ w2 ∷ w3 ∷ more) a b w n three p q h k = absurd (omega arith)

not_two_or_three : (words : List (List ℕ)) → (length words ≡ 2 → ⊥) → (length words ≡ 3 → ⊥) → run_of words ≡ None
not_two_or_three [] h k = refl
not_two_or_three (a ∷ []) h k = refl
not_two_or_three (a ∷ b ∷ []) h k = absurd (h refl)
not_two_or_three (a ∷ b ∷ c ∷ []) h k = absurd (k refl)
not_two_or_three (a ∷ b ∷ c ∷ d ∷ more) h k = refl

pub run_of-other : (words : List (String Global)) → (length words ≡ 2 → ⊥) → (length words ≡ 3 → ⊥) → run_of (arguments words) ≡ None
run_of-other words h k = not_two_or_three (arguments words) (λ e. h (sym (length-arguments words) ∙ e)) (λ e. k (sym (length-arguments words) ∙ e))

-- the words of `gen`, each by its place
pub gen_of-four : (words : List (List ℕ)) (word number count : List ℕ) → length words ≡ 4
    → get_or words 1 [] ≡ word → get_or words 2 [] ≡ number → get_or words 3 [] ≡ count → gen_with word number count ≡ gen_of words
gen_of-four [] w n m four p q r = absurd (omega arith)
gen_of-four (a0 ∷ []) w n m four p q r = absurd (omega arith)
gen_of-four (a0 ∷ a1 ∷ []) w n m four p q r = absurd (omega arith)
gen_of-four (a0 ∷ a1 ∷ a2 ∷ []) w n m four p q r = absurd (omega arith)
gen_of-four (a0 ∷ a1 ∷ a2 ∷ a3 ∷ []) w n m four p q r = sym (ap (λ v. gen_with v a2 a3) p ∙ ap (λ v. gen_with w v a3) q ∙ ap (λ v. gen_with w n v) r)
gen_of-four (a0 ∷ a1 ∷ a2 ∷ a3 ∷ a4 ∷ more) w n m four p q r = absurd (omega arith)

not_four : (words : List (List ℕ)) → (length words ≡ 4 → ⊥) → gen_of words ≡ None
not_four [] h = refl
not_four (a ∷ []) h = refl
not_four (a ∷ b ∷ []) h = refl
not_four (a ∷ b ∷ c ∷ []) h = refl
not_four (a ∷ b ∷ c ∷ d ∷ []) h = absurd (h refl)
not_four (a ∷ b ∷ c ∷ d ∷ e ∷ more) h = refl

pub gen_of-other : (words : List (String Global)) → (length words ≡ 4 → ⊥) → gen_of (arguments words) ≡ None
gen_of-other words h = not_four (arguments words) (λ e. h (sym (length-arguments words) ∙ e))
