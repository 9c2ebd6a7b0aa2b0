-- Lemmas that crates above need: the superblock is read back as it was written.
use Rattle.std.proofs.{Common.{refl, sym, ap, subst, ◌∙◌, arith, add_assoc, append_assoc}, lemmas.Bool.and_from}
use Rattle.std.proofs.lemmas.{Bool.{lt-ltb, le-ltb, Decides.nat_tests}, List.{take_at, Elements.{All-cons, All-head}}}
use Rattle.std.{proofs.lemmas.{List.Elements.{All-nil, All-tail}, Nat.from_le_bytes-to_le_bytes_8}, specs.Prelude.◌≡◌}
use Rattle.std.specs.Prelude.{ℕ, zero, suc, ◌+◌, ◌-◌, ◌^◌, ◌<◌, ◌≤◌, ◌&&◌, IsTrue, true, false, All, List, [], ◌∷◌}
use Rattle.std.specs.Prelude.{◌++◌, if◌then◌else◌, length, replicate, slice_index_or}
use Rattle.mg_model.specs.{Abbreviations.{step_words, steps_at, word_bytes}, Bytes.{bytes_at, number_at, padded_to}}
use Rattle.mg_model.specs.{Bytes.words_bytes, BytesLemmas.{number_at-behind, number_at-first, padded_to-append}}
use Rattle.mg_model.specs.{BytesLemmas.same_bytes-refl, Layout.magic, Ranges.IsWord, Settings.{Settings, within_limits}}
use Rattle.mg_model.specs.Spelling.{are_settings, super_bytes, super_fields, super_read, BadSuper, NotSuper, OldSuper}
use Rattle.mg_model.specs.{Spelling.Spells, Tariff.is_tariff, WellFormed.IsSettings, Words.same_bytes}
use Rattle.mg_model.specs.declared.layout.TheConstants.{VERSION as version}

steps_at-behind : (xs ys : List ℕ) (n k m : ℕ) → length xs ≡ n → steps_at (xs ++ ys) (n + k) m ≡ steps_at ys k m
steps_at-behind xs ys n k zero is = refl
steps_at-behind xs ys n k (suc m) is =
    let first = number_at-behind xs ys n k is in
    let second : number_at (xs ++ ys) (n + k + 8) ≡ number_at ys (k + 8) = ap (number_at (xs ++ ys)) (add_assoc n k 8) ∙ number_at-behind xs ys n (k + 8) is in
    let rest : steps_at (xs ++ ys) (n + k + 16) m ≡ steps_at ys (k + 16) m = ap (λ o. steps_at (xs ++ ys) o m) (add_assoc n k 16) ∙ steps_at-behind xs ys n (k + 16) m is in
    cc

-- both numbers of a step have 64 bits
pub record IsStep (step : ℕ × ℕ) : Type 0 where
  pub from : IsWord step.0
  pub rate : IsWord step.1

steps_at-first : (steps : List (ℕ × ℕ)) (ys : List ℕ) → All IsStep steps → steps_at (words_bytes (step_words steps) ++ ys) 0 (length steps) ≡ steps
steps_at-first [] ys fit = refl
steps_at-first (step ∷ steps) ys fit =
    let here = All-head IsStep step steps fit in
    let bytes = word_bytes step.0 ++ (word_bytes step.1 ++ (words_bytes (step_words steps) ++ ys)) in
    let first : number_at bytes 0 ≡ step.0 = number_at-first step.0 (word_bytes step.1 ++ (words_bytes (step_words steps) ++ ys)) here.from in
    let second : number_at bytes 8 ≡ step.1 = number_at-first step.1 (words_bytes (step_words steps) ++ ys) here.rate in
    let rest : steps_at bytes 16 (length steps) ≡ steps = steps_at-behind (word_bytes step.0 ++ word_bytes step.1) (words_bytes (step_words steps) ++ ys) 16 0 (length steps) refl ∙ steps_at-first steps ys (All-tail IsStep step steps fit) in
    ap (λ v. (v, number_at bytes 8) ∷ steps_at bytes 16 (length steps)) first ∙ ap (λ v. (step.0, v) ∷ steps_at bytes 16 (length steps)) second ∙ ap (λ v. step ∷ v) rest

-- a tariff has four steps, and its numbers are at most 2 ^ 20
pub tariff-four : (steps : List (ℕ × ℕ)) → IsTrue (is_tariff steps) → length steps ≡ 4
tariff-four [] rule = absurd (cc)
tariff-four (a ∷ []) rule = absurd (cc)
tariff-four (a ∷ b ∷ []) rule = absurd (cc)
tariff-four (a ∷ b ∷ c ∷ []) rule = absurd (cc)
tariff-four (a ∷ b ∷ c ∷ d ∷ []) rule = refl
tariff-four (a ∷ b ∷ c ∷ d ∷ e ∷ steps) rule = absurd (cc)

-- what a tariff of four steps keeps, as facts
record AreBounded (a b c d : ℕ × ℕ) : Type 0 where
  from_0 : a.0 ≡ 0
  from_1 : b.0 < c.0
  from_2 : c.0 < d.0
  from_3 : d.0 ≤ 2 ^ 20
  rate_0 : a.1 ≤ 2 ^ 20
  rate_1 : b.1 ≤ 2 ^ 20
  rate_2 : c.1 ≤ 2 ^ 20
  rate_3 : d.1 ≤ 2 ^ 20

four_bounded : (a b c d : ℕ × ℕ) → IsTrue (is_tariff (a ∷ b ∷ c ∷ d ∷ [])) → AreBounded a b c d
four_bounded a b c d rule = record {
  from_0 = grind (arith, nat_tests);
  from_1 = grind (arith, nat_tests);
  from_2 = grind (arith, nat_tests);
  from_3 = grind (arith, nat_tests);
  rate_0 = grind (arith, nat_tests);
  rate_1 = grind (arith, nat_tests);
  rate_2 = grind (arith, nat_tests);
  rate_3 = grind (arith, nat_tests);
}

four_fit : (a b c d : ℕ × ℕ) → AreBounded a b c d → All IsStep (a ∷ b ∷ c ∷ d ∷ [])
four_fit a b c d are =
    All-cons IsStep a (b ∷ c ∷ d ∷ []) (record { from = omega arith; rate = omega arith })
    (All-cons IsStep b (c ∷ d ∷ []) (record { from = omega arith; rate = omega arith })
    (All-cons IsStep c (d ∷ []) (record { from = omega arith; rate = omega arith })
    (All-cons IsStep d [] (record { from = omega arith; rate = omega arith }) (All-nil IsStep))))

pub tariff-fits : (steps : List (ℕ × ℕ)) → IsTrue (is_tariff steps) → All IsStep steps
tariff-fits [] rule = All-nil IsStep
tariff-fits (a ∷ []) rule = let n = tariff-four (a ∷ []) rule in absurd (omega arith)
tariff-fits (a ∷ b ∷ []) rule = let n = tariff-four (a ∷ b ∷ []) rule in absurd (omega arith)
tariff-fits (a ∷ b ∷ c ∷ []) rule = let n = tariff-four (a ∷ b ∷ c ∷ []) rule in absurd (omega arith)
tariff-fits (a ∷ b ∷ c ∷ d ∷ []) rule = four_fit a b c d (four_bounded a b c d rule)
tariff-fits (a ∷ b ∷ c ∷ d ∷ e ∷ steps) rule = let n = tariff-four (a ∷ b ∷ c ∷ d ∷ e ∷ steps) rule in absurd (omega arith)

-- the bytes before the tariff, and the bytes after it
abbrev super_front : Settings → List ℕ
super_front settings = magic ++ (words_bytes (version ∷ settings.frames ∷ settings.credits ∷ []) ++ settings.seed)

super_rest : Settings → ℕ
super_rest settings = 4088 - length (words_bytes (version ∷ settings.frames ∷ settings.credits ∷ []) ++ (settings.seed ++ words_bytes (step_words settings.tariff)))

super_parts : (settings : Settings) → super_bytes settings ≡ super_front settings ++ (words_bytes (step_words settings.tariff) ++ replicate (super_rest settings) 0)
unfolding super_rest
super_parts settings =
    ap (λ v. magic ++ (words_bytes (version ∷ settings.frames ∷ settings.credits ∷ []) ++ v))
    (append_assoc settings.seed (words_bytes (step_words settings.tariff)) (replicate (super_rest settings) 0))

length-super_front : (settings : Settings) → length settings.seed ≡ 32 → length (super_front settings) ≡ 64
length-super_front settings long = omega arith

pub settings_same : (a b : Settings) → a.frames ≡ b.frames → a.seed ≡ b.seed → a.credits ≡ b.credits → a.tariff ≡ b.tariff → a ≡ b
settings_same a b frames seed credits tariff =
    ap (λ v. record { frames = v; seed = a.seed; credits = a.credits; tariff = a.tariff }) frames
    ∙ ap (λ v. record { frames = b.frames; seed = v; credits = a.credits; tariff = a.tariff }) seed
    ∙ ap (λ v. record { frames = b.frames; seed = b.seed; credits = v; tariff = a.tariff }) credits
    ∙ ap (λ v. record { frames = b.frames; seed = b.seed; credits = b.credits; tariff = v }) tariff

pub limits_of : (frames credits : ℕ) → IsTrue (within_limits frames credits) → (frames ≤ 65536) × (credits ≤ 2 ^ 62)
limits_of frames credits rule = (grind (arith, nat_tests), grind (arith, nat_tests))

pub super_fields-written : (settings : Settings) → IsTrue (within_limits settings.frames settings.credits) → IsTrue (is_tariff settings.tariff) → length settings.seed ≡ 32
    → super_fields (super_bytes settings) ≡ settings
super_fields-written settings within rule long =
    let front = super_front settings in
    let behind = words_bytes (step_words settings.tariff) ++ replicate (super_rest settings) 0 in
    let limits : (settings.frames ≤ 65536) × (settings.credits ≤ 2 ^ 62) = limits_of settings.frames settings.credits within in
    let frames : number_at (super_bytes settings) 16 ≡ settings.frames = from_le_bytes-to_le_bytes_8 settings.frames (let l = limits.0 in omega arith) in
    let credits : number_at (super_bytes settings) 24 ≡ settings.credits = from_le_bytes-to_le_bytes_8 settings.credits (let l = limits.1 in omega arith) in
    let seed : bytes_at (super_bytes settings) 32 32 ≡ settings.seed =
    ap (λ bytes. bytes_at bytes 32 32) (super_parts settings)
    ∙ take_at settings.seed (words_bytes (step_words settings.tariff) ++ replicate (super_rest settings) 0) 32 long in
    let tariff : steps_at (super_bytes settings) 64 4 ≡ settings.tariff =
    ap (λ bytes. steps_at bytes 64 4) (super_parts settings)
    ∙ steps_at-behind front behind 64 0 4 (length-super_front settings long)
    ∙ ap (steps_at behind 0) (sym (tariff-four settings.tariff rule))
    ∙ steps_at-first settings.tariff (replicate (super_rest settings) 0) (tariff-fits settings.tariff rule) in
    settings_same (super_fields (super_bytes settings)) settings frames seed credits tariff

pub super_read-back : (settings : Settings) → IsTrue (within_limits settings.frames settings.credits) → IsTrue (is_tariff settings.tariff) → length settings.seed ≡ 32
    → super_read (super_bytes settings) ≡ Spells settings
super_read-back settings within tariff long =
    let P : Settings → Type 0 = λ fields. (if are_settings fields && same_bytes (super_bytes fields) (super_bytes settings) then Spells fields else BadSuper) ≡ Spells settings in
    let rule : IsTrue (are_settings settings && same_bytes (super_bytes settings) (super_bytes settings)) = and_from _ _ (and_from _ _ within tariff) (same_bytes-refl (super_bytes settings)) in
    let chosen : P settings = rw rule in
    subst P (sym (super_fields-written settings within tariff long)) chosen

pub super_read-written : (settings : Settings) → IsSettings settings → super_read (super_bytes settings) ≡ Spells settings
super_read-written settings keeps = super_read-back settings keeps.limits keeps.tariff keeps.long

-- the words of four steps, one by one
four_words : (steps : List (ℕ × ℕ)) (d : ℕ × ℕ) → length steps ≡ 4
    → (slice_index_or steps 0 d).0 ∷ (slice_index_or steps 0 d).1
    ∷ (slice_index_or steps 1 d).0 ∷ (slice_index_or steps 1 d).1
    ∷ (slice_index_or steps 2 d).0 ∷ (slice_index_or steps 2 d).1
    ∷ (slice_index_or steps 3 d).0 ∷ (slice_index_or steps 3 d).1
    ∷ []
    ≡ step_words steps
four_words [] d n = absurd (omega arith)
four_words (a ∷ []) d n = absurd (omega arith)
four_words (a ∷ b ∷ []) d n = absurd (omega arith)
four_words (a ∷ b ∷ c ∷ []) d n = absurd (omega arith)
four_words (a ∷ b ∷ c ∷ e ∷ []) d n = refl
four_words (a ∷ b ∷ c ∷ e ∷ f ∷ steps) d n = absurd (omega arith)

-- written part by part
pub super_bytes-parts : (settings : Settings) (d : ℕ × ℕ) → IsTrue (is_tariff settings.tariff)
    → padded_to 4096 (([] ++ magic ++ words_bytes (version ∷ settings.frames ∷ settings.credits ∷ []) ++ settings.seed)
    ++ words_bytes (
    (slice_index_or settings.tariff 0 d).0 ∷ (slice_index_or settings.tariff 0 d).1
    ∷ (slice_index_or settings.tariff 1 d).0 ∷ (slice_index_or settings.tariff 1 d).1
    ∷ (slice_index_or settings.tariff 2 d).0 ∷ (slice_index_or settings.tariff 2 d).1
    ∷ (slice_index_or settings.tariff 3 d).0 ∷ (slice_index_or settings.tariff 3 d).1
    ∷ []))
    ≡ super_bytes settings
super_bytes-parts settings d rule =
    let front = words_bytes (version ∷ settings.frames ∷ settings.credits ∷ []) in
    ap (λ words. padded_to 4096 (([] ++ magic ++ front ++ settings.seed) ++ words_bytes words)) (four_words settings.tariff d (tariff-four settings.tariff rule))
    ∙ padded_to-append 8 4088 magic (front ++ (settings.seed ++ words_bytes (step_words settings.tariff))) refl

-- the four cases: in each its test holds and those before it do not
pub super_read-not : (bytes : List ℕ) → same_bytes magic (bytes_at bytes 0 8) ≡ false → super_read bytes ≡ NotSuper
super_read-not bytes other = rw other

pub super_read-old : (bytes : List ℕ) → same_bytes magic (bytes_at bytes 0 8) ≡ true → number_at bytes 8 < version → super_read bytes ≡ OldSuper
super_read-old bytes begins older = let e = lt-ltb (number_at bytes 8) version older in rw (begins, e)

pub super_read-spells : (bytes : List ℕ) → same_bytes magic (bytes_at bytes 0 8) ≡ true → version ≤ number_at bytes 8
    → are_settings (super_fields bytes) ≡ true → same_bytes (super_bytes (super_fields bytes)) bytes ≡ true → super_read bytes ≡ Spells (super_fields bytes)
super_read-spells bytes begins newer rule same =
    let e = le-ltb (number_at bytes 8) version newer in
    let f = and_from (are_settings (super_fields bytes)) (same_bytes (super_bytes (super_fields bytes)) bytes) rule same in
    rw (begins, e, f)

pub super_read-bad : (bytes : List ℕ) → same_bytes magic (bytes_at bytes 0 8) ≡ true → version ≤ number_at bytes 8
    → (are_settings (super_fields bytes) && same_bytes (super_bytes (super_fields bytes)) bytes) ≡ false → super_read bytes ≡ BadSuper
super_read-bad bytes begins newer f = let e = le-ltb (number_at bytes 8) version newer in rw (begins, e, f)
