-- Values as words: no two have one text, and no text has a blank.
use Rattle.mg_model.specs.{Words.number_of, declared.{rights.Right.Right, threads.{Fault.TheVariants.{Align, Denied, Opcode}, ThrState.ThrState}}}
use Rattle.{mg_model.specs.declared.threads.ThrState.TheVariants.{Faulted, Ready, Stopped}, mg_show_laws.proofs.{Cutting.{AllHigh, cut}, Names.◌==◌}}
use Rattle.mg_show_laws.proofs.Names.{codes, filter, ◌&&◌, if◌then◌else◌, decimal, digit_glyph, digits, digits_onto, ◌≡◌, ℕ, zero, suc, ◌+◌, ◌/◌, ◌%◌}
use Rattle.mg_show_laws.proofs.Names.{◌^◌, ◌<◌, ◌≤◌, Bool, true, false, eqb, leb, List, [], ◌∷◌, ◌++◌, Some, get_or, map, refl, ap, sym, ◌∙◌, arith}
use Rattle.mg_show_laws.proofs.Names.{All, agree_below_at, and_parts, cond_both, eqb-true, leb-true, nat_tests, decimal_injective, append_cancel_left}
use Rattle.mg_show_laws.proofs.Names.{All-head, All-tail, hex_digit, hex_text, spaced, IsWord, state_row, Digits, High, decimal-digits, high-append}
use Rattle.mg_show_laws.proofs.Names.{number_of-hex, rights_text, seed_text, step_text, until_text}

-- a text of known bytes has no blank, by computation
abbrev is_high : List ℕ → Bool
is_high [] = true
is_high (b ∷ bytes) = leb 45 b && is_high bytes

high-from : (bytes : List ℕ) → is_high bytes ≡ true → High bytes
high-from [] is = tt
high-from (b ∷ bytes) is = let both = and_parts (leb 45 b) (is_high bytes) is in (leb-true 45 b both.0, high-from bytes both.1)

-- Numbers

glyph-high : (d : ℕ) → 45 ≤ digit_glyph false d
glyph-high d = grind (arith, nat_tests)

onto-high : (k n : ℕ) (behind : List ℕ) → High behind → High (digits_onto k 10 false n behind)
onto-high zero n behind high = high
onto-high (suc k) n behind high =
    let onto = digit_glyph false (n % 10) ∷ behind in
    let more : High onto = (glyph-high (n % 10), high) in
    cond_both (eqb (n / 10) 0) onto (digits_onto k 10 false (n / 10) onto) High (λ _. more) (λ _. onto-high k (n / 10) onto more)

pub decimal-high : (n : ℕ) → High (decimal n)
unfolding digits
decimal-high n = onto-high 64 n [] tt

pub hex-told : (m n : ℕ) → IsWord m → IsWord n → hex_text m ≡ hex_text n → m ≡ n
hex-told m n fits fits' e =
    let read : Some m ≡ Some n = sym (number_of-hex m fits) ∙ ap number_of e ∙ number_of-hex n fits' in
    cc

-- Rights

letter_bit : ℕ → ℕ
letter_bit letter =
    if letter == 82 then 1
    else if letter == 87 then 2
    else if letter == 88 then 4
    else if letter == 68 then 8
    else if letter == 80 then 16
    else 32

bits_of : List ℕ → ℕ
bits_of [] = 0
bits_of (letter ∷ letters) = letter_bit letter + bits_of letters

rights-back : (rights : ℕ) → rights < 64 → bits_of (rights_text rights) ≡ rights
unfolding bits_of letter_bit
rights-back rights few =
    eqb-true (bits_of (rights_text rights)) rights (agree_below_at (λ r. bits_of (rights_text r) == r) (λ _. true) 64 rights refl few)

pub rights-told : (m n : ℕ) → m < 64 → n < 64 → rights_text m ≡ rights_text n → m ≡ n
rights-told m n few few' e = sym (rights-back m few) ∙ ap bits_of e ∙ rights-back n few'

abbrev letters_of : List (ℕ × Right) → List ℕ
letters_of letters = map (λ (l : ℕ × Right). l.0) letters

letters-high : (has : ℕ × Right → Bool) (letters : List (ℕ × Right)) → High (letters_of letters) → High (letters_of (filter has letters))
letters-high has [] high = tt
letters-high has (l ∷ letters) high = grind (arith, (letters-high has letters high.1), cond_both)

pub rights-high : (rights : ℕ) → High (rights_text rights)
rights-high rights = grind (arith, letters-high, high-from)

-- The end of a password

no_digits : (n : ℕ) → n < 2 ^ 64 → codes "never" ≡ decimal n → ⊥
no_digits n fits e = grind (arith, decimal-digits)

pub until-told : (m n : ℕ) → m < 2 ^ 64 → n < 2 ^ 64 → until_text m ≡ until_text n → m ≡ n
until-told m n fits fits' = grind (arith, cond_both, eqb-true, no_digits, decimal_injective)

pub until-high : (n : ℕ) → High (until_text n)
until-high n = grind (arith, cond_both, high-from, decimal-high)

-- Steps of the tariff

pub record IsStep (step : ℕ × ℕ) : Type 0 where
  pub pages : step.0 < 2 ^ 64
  pub rate : step.1 < 2 ^ 64

pub step-told : (x y : ℕ × ℕ) → IsStep x → IsStep y → step_text x ≡ step_text y → x ≡ y
step-told (a, b) (c, d) fits fits' e =
    let colon : 58 ≤ 57 → ⊥ = λ low. absurd (omega arith) in
    let parts = cut Digits (λ b. b ≤ 57) (λ b bytes are. (are.0.1, are.1)) (decimal a) (decimal c) (58 ∷ decimal b) (58 ∷ decimal d)
    (decimal-digits a fits.pages) (decimal-digits c fits'.pages) colon colon e in
    let rates : decimal b ≡ decimal d = cc (parts.1) in
    let first : a ≡ c = decimal_injective a c fits.pages fits'.pages parts.0 in
    let second : b ≡ d = decimal_injective b d fits.rate fits'.rate rates in
    cc

pub step-high : (step : ℕ × ℕ) → IsStep step → High (step_text step)
step-high step fits = high-append (decimal step.0) (58 ∷ decimal step.1) (decimal-high step.0) (omega arith, decimal-high step.1)

-- The seed

hex_digit-told : (d e : ℕ) → d < 16 → e < 16 → hex_digit d ≡ hex_digit e → d ≡ e
hex_digit-told d e few few' same = grind (arith, nat_tests)

hex_digit-high : (d : ℕ) → 45 ≤ hex_digit d
hex_digit-high d = grind (arith, nat_tests)

pub seed-told : (xs ys : List ℕ) → All (λ byte. byte < 256) xs → All (λ byte. byte < 256) ys → seed_text xs ≡ seed_text ys → xs ≡ ys
seed-told [] [] all all' e = refl
seed-told [] (y ∷ ys) all all' e = absurd cc
seed-told (x ∷ xs) [] all all' e = absurd cc
seed-told (x ∷ xs) (y ∷ ys) all all' e =
    let few : x < 256 = All-head (λ byte. byte < 256) x xs all in
    let few' : y < 256 = All-head (λ byte. byte < 256) y ys all' in
    let e0 : hex_digit (x / 16 % 16) ≡ hex_digit (y / 16 % 16) = ap (λ t. get_or t 0 0) e in
    let e1 : hex_digit (x % 16) ≡ hex_digit (y % 16) = ap (λ t. get_or t 1 0) e in
    let d0 = hex_digit-told (x / 16 % 16) (y / 16 % 16) (omega arith) (omega arith) e0 in
    let d1 = hex_digit-told (x % 16) (y % 16) (omega arith) (omega arith) e1 in
    let same : x ≡ y = omega arith in
    let others : seed_text xs ≡ seed_text ys = cc (e) in
    let rest = seed-told xs ys (All-tail (λ byte. byte < 256) x xs all) (All-tail (λ byte. byte < 256) y ys all') others in
    cc (same, rest)

pub seed-high : (seed : List ℕ) → High (seed_text seed)
seed-high [] = tt
seed-high (b ∷ bytes) = (hex_digit-high (b / 16 % 16), (hex_digit-high (b % 16), seed-high bytes))

-- The state of a thread, as one word or two

abbrev pub state_words : ThrState → List (List ℕ)
state_words Ready = codes "Ready" ∷ []
state_words Stopped = codes "Stopped" ∷ []
state_words (Faulted Align) = codes "Faulted" ∷ codes "Align" ∷ []
state_words (Faulted Denied) = codes "Faulted" ∷ codes "Denied" ∷ []
state_words (Faulted Opcode) = codes "Faulted" ∷ codes "Opcode" ∷ []

pub state-spaced : (state : ThrState) → spaced ((state_row state).1 ∷ []) ≡ spaced (state_words state)
state-spaced Ready = refl
state-spaced Stopped = refl
state-spaced (Faulted Align) = refl
state-spaced (Faulted Denied) = refl
state-spaced (Faulted Opcode) = refl

-- the state that two words spell by their first letters
abbrev spelled_state : ℕ → ℕ → ThrState
spelled_state first second =
    if first == 82 then Ready
    else if first == 83 then Stopped
    else if second == 65 then Faulted Align
    else if second == 68 then Faulted Denied
    else Faulted Opcode

abbrev state_of : List (List ℕ) → ThrState
state_of words = spelled_state (get_or (get_or words 0 []) 0 0) (get_or (get_or words 1 []) 0 0)

state-back : (state : ThrState) (words : List (List ℕ)) → state_of (state_words state ++ words) ≡ state
state-back Ready words = refl
state-back Stopped words = refl
state-back (Faulted Align) words = refl
state-back (Faulted Denied) words = refl
state-back (Faulted Opcode) words = refl

pub state-told : (x y : ThrState) (ws vs : List (List ℕ)) → state_words x ++ ws ≡ state_words y ++ vs → (x ≡ y) × (ws ≡ vs)
state-told x y ws vs e = grind (arith, state-back, append_cancel_left)

pub state-high : (state : ThrState) → AllHigh (state_words state)
state-high Ready = (high-from (codes "Ready") refl, tt)
state-high Stopped = (high-from (codes "Stopped") refl, tt)
state-high (Faulted Align) = (high-from (codes "Faulted") refl, (high-from (codes "Align") refl, tt))
state-high (Faulted Denied) = (high-from (codes "Faulted") refl, (high-from (codes "Denied") refl, tt))
state-high (Faulted Opcode) = (high-from (codes "Faulted") refl, (high-from (codes "Opcode") refl, tt))
