-- A superblock of version 1 is one of this version but for its version.
use Rattle.mg_migrate.{proofs.{Fronts.same_bytes-tells, LiftedVolume.{long-super1, seed-long}}, specs.Spelling1.{BadSuper1, NewSuper1, OldSuper1}}
use Rattle.{mg_migrate.specs.Spelling1.{Spells1, super1_bytes, super1_read}, mg_model.specs.{Abbreviations.steps_at, Bytes.{bytes_at, number_at}}}
use Rattle.mg_model.specs.{BytesLemmas.same_bytes-refl, Layout.magic, Settings.{Settings, within_limits}, Spelling.{BadSuper, NotSuper, OldSuper}}
use Rattle.mg_model.specs.{Spelling.{Spells, SuperRead, are_settings, super_bytes, super_fields, super_read}, SuperblockLemmas.super_read-back}
use Rattle.{mg_model.specs.{Tariff.is_tariff, Words.same_bytes}, std.proofs.Common.{refl, sym, ap, subst, ◌∙◌, ⊎_elim, arith}}
use Rattle.std.proofs.lemmas.{Bool.{and_parts, cases_Bool, cond_both, le-ltb, lt-ltb}, List.{drop-set-lt, get_or-drop, get_or-take, set-get_or}}
use Rattle.std.specs.{Int.{from_le_bytes, w64}, Prelude.{◌≡◌, ℕ, zero, suc, ◌+◌, ◌<◌, ◌≤◌, ◌&&◌, nat_lt, Bool, true, false, not, List, [], ◌∷◌}}
use Rattle.std.specs.Prelude.{get_or, if◌then◌else◌, length, slice_set, take, Option, Some, None}

-- a byte that is written twice
set-twice : (xs : List ℕ) (i a b : ℕ) → slice_set (slice_set xs i a) i b ≡ slice_set xs i b
set-twice [] i a b = refl
set-twice (x ∷ xs) zero a b = refl
set-twice (x ∷ xs) (suc i) a b = ap (λ v. x ∷ v) (set-twice xs i a b)

-- the version alone differs
pub to_this : (settings : Settings) → slice_set (super1_bytes settings) 8 2 ≡ super_bytes settings
to_this settings = refl

pub to_first : (settings : Settings) → slice_set (super_bytes settings) 8 1 ≡ super1_bytes settings
to_first settings = refl

-- the fields lie after it
bytes_at-set : (bytes : List ℕ) (v k n : ℕ) → 8 < k → bytes_at (slice_set bytes 8 v) k n ≡ bytes_at bytes k n
bytes_at-set bytes v k n behind = ap (take n) (drop-set-lt k bytes 8 v behind)

number_at-set : (bytes : List ℕ) (v k : ℕ) → 8 < k → number_at (slice_set bytes 8 v) k ≡ number_at bytes k
number_at-set bytes v k behind = ap (from_le_bytes w64) (bytes_at-set bytes v k 8 behind)

steps_at-set : (bytes : List ℕ) (v k n : ℕ) → 8 < k → steps_at (slice_set bytes 8 v) k n ≡ steps_at bytes k n
steps_at-set bytes v k zero behind = refl
steps_at-set bytes v k (suc n) behind = grind (arith, (steps_at-set bytes v (k + 16) n (omega arith)), number_at-set)

fields-set : (bytes : List ℕ) (v : ℕ) → super_fields (slice_set bytes 8 v) ≡ super_fields bytes
fields-set bytes v =
    let b = slice_set bytes 8 v in
    ap (λ n. record { frames = n; seed = bytes_at b 32 32; credits = number_at b 24; tariff = steps_at b 64 4 }) (number_at-set bytes v 16 (omega arith))
    ∙ ap (λ s. record { frames = number_at bytes 16; seed = s; credits = number_at b 24; tariff = steps_at b 64 4 }) (bytes_at-set bytes v 32 32 (omega arith))
    ∙ ap (λ n. record { frames = number_at bytes 16; seed = bytes_at bytes 32 32; credits = n; tariff = steps_at b 64 4 }) (number_at-set bytes v 24 (omega arith))
    ∙ ap (λ t. record { frames = number_at bytes 16; seed = bytes_at bytes 32 32; credits = number_at bytes 24; tariff = t }) (steps_at-set bytes v 64 4 (omega arith))

-- what is known of a superblock of this version
record AreTold (bytes : List ℕ) (settings : Settings) : Type 0 where
  same : super_fields bytes ≡ settings
  rule : are_settings (super_fields bytes) ≡ true
  written : super_bytes (super_fields bytes) ≡ bytes

told : (bytes : List ℕ) (settings : Settings) → super_read bytes ≡ Spells settings → AreTold bytes settings
told bytes settings is =
    let P : SuperRead → Type 0 = λ o. o ≡ Spells settings → AreTold bytes settings in
    let passes = are_settings (super_fields bytes) && same_bytes (super_bytes (super_fields bytes)) bytes in
    let last = if passes then Spells (super_fields bytes) else BadSuper in
    let older = if nat_lt (number_at bytes 8) 2 then OldSuper else last in
    cond_both (not (same_bytes magic (bytes_at bytes 0 8))) NotSuper older P
    (λ _ e. absurd (cc))
    (λ _. cond_both (nat_lt (number_at bytes 8) 2) OldSuper last P
    (λ _ e. absurd (cc))
    (λ _. cond_both passes (Spells (super_fields bytes)) BadSuper P
    (λ t e.
    let parts = and_parts (are_settings (super_fields bytes)) (same_bytes (super_bytes (super_fields bytes)) bytes) t in
    record { same = (cc); rule = parts.0; written = same_bytes-tells (super_bytes (super_fields bytes)) bytes parts.1 })
    (λ _ e. absurd (cc))))
    is

-- the settings of a superblock of version 1, from its bytes with the other version
abbrev pub settings1 : List ℕ → Option Settings
settings1 bytes = if are_settings (super_fields bytes) && same_bytes (super1_bytes (super_fields bytes)) bytes then Some (super_fields bytes) else None

module _ (b : List ℕ) (first : get_or b 8 0 ≡ 1) where
  pub settings1-some : (p : Settings) → super_read (slice_set b 8 2) ≡ Spells p → Some p ≡ settings1 b
  settings1-some p is =
      let t = told (slice_set b 8 2) p is in
      let fields : super_fields b ≡ p = sym (fields-set b 2) ∙ t.same in
      let now : super_bytes p ≡ slice_set b 8 2 = ap super_bytes (sym t.same) ∙ t.written in
      let back : slice_set (slice_set b 8 2) 8 1 ≡ b = set-twice b 8 2 1 ∙ ap (λ v. slice_set b 8 v) (sym first) ∙ set-get_or b 8 0 in
      let whole : super1_bytes p ≡ b = sym (to_first p) ∙ ap (λ (v : List ℕ). slice_set v 8 1) now ∙ back in
      let rule : are_settings p ≡ true = subst (λ (s : Settings). are_settings s ≡ true) t.same t.rule in
      let spelled : same_bytes (super1_bytes p) b ≡ true = ap (λ (v : List ℕ). same_bytes v b) whole ∙ same_bytes-refl b in
      sym (ap (λ (f : Settings). if are_settings f && same_bytes (super1_bytes f) b then Some f else None) fields
      ∙ ap (λ t. if t && same_bytes (super1_bytes p) b then Some p else None) rule
      ∙ ap (λ t. if t then Some p else None) spelled)

  pub settings1-none : ((p : Settings) → super_read (slice_set b 8 2) ≡ Spells p → ⊥) → None ≡ settings1 b
  settings1-none none = ⊎_elim (λ t. absurd (none (super_fields b) (spells t))) (λ f. sym (ap (λ t. if t then Some (super_fields b) else None) f)) (cases_Bool (are_settings (super_fields b) && same_bytes (super1_bytes (super_fields b)) b))
    where
      spells : (are_settings (super_fields b) && same_bytes (super1_bytes (super_fields b)) b) ≡ true → super_read (slice_set b 8 2) ≡ Spells (super_fields b)
      spells t =
          let f = super_fields b in
          let parts = and_parts (are_settings f) (same_bytes (super1_bytes f) b) t in
          let rules = and_parts (within_limits f.frames f.credits) (is_tariff f.tariff) parts.0 in
          let whole : super1_bytes f ≡ b = same_bytes-tells (super1_bytes f) b parts.1 in
          let long : 4096 ≤ length b = subst (λ (v : List ℕ). 4096 ≤ length v) whole (long-super1 f) in
          ap super_read (ap (λ (v : List ℕ). slice_set v 8 2) (sym whole) ∙ to_this f)
          ∙ super_read-back f rules.0 rules.1 (seed-long b long)

-- the byte of version 1
pub first-byte : (b : List ℕ) → ((i : ℕ) → get_or b i 0 < 256) → number_at b 8 ≡ 1 → get_or b 8 0 ≡ 1
first-byte b bytes is = grind (arith, get_or-take, get_or-drop)

pub super1-old : (bytes : List ℕ) → same_bytes magic (bytes_at bytes 0 8) ≡ true → number_at bytes 8 < 1 → super1_read bytes ≡ OldSuper1
super1-old bytes begins older = let e = lt-ltb (number_at bytes 8) 1 older in rw (begins, e)

pub super1-new : (bytes : List ℕ) → same_bytes magic (bytes_at bytes 0 8) ≡ true → 1 < number_at bytes 8 → super1_read bytes ≡ NewSuper1
super1-new bytes begins newer = let e = le-ltb (number_at bytes 8) 1 (omega arith) in let f = lt-ltb 1 (number_at bytes 8) newer in rw (begins, e, f)

pub super1-is : (bytes : List ℕ) (p : Settings) → same_bytes magic (bytes_at bytes 0 8) ≡ true → number_at bytes 8 ≡ 1 → Some p ≡ settings1 bytes → super1_read bytes ≡ Spells1 p
super1-is bytes p begins one is =
    let e = le-ltb (number_at bytes 8) 1 (omega arith) in
    let f = le-ltb 1 (number_at bytes 8) (omega arith) in
    let step : super1_read bytes ≡ (if are_settings (super_fields bytes) && same_bytes (super1_bytes (super_fields bytes)) bytes then Spells1 (super_fields bytes) else BadSuper1) = rw (begins, e, f) in
    step ∙ by_test (are_settings (super_fields bytes) && same_bytes (super1_bytes (super_fields bytes)) bytes) is
  where
    by_test : (t : Bool) → Some p ≡ (if t then Some (super_fields bytes) else None) → (if t then Spells1 (super_fields bytes) else BadSuper1) ≡ Spells1 p
    by_test true e = let same : p ≡ super_fields bytes = (cc) in ap Spells1 (sym same)
    by_test false e = absurd (cc)

pub super1-bad : (bytes : List ℕ) → same_bytes magic (bytes_at bytes 0 8) ≡ true → number_at bytes 8 ≡ 1 → None ≡ settings1 bytes → super1_read bytes ≡ BadSuper1
super1-bad bytes begins one is =
    let e = le-ltb (number_at bytes 8) 1 (omega arith) in
    let f = le-ltb 1 (number_at bytes 8) (omega arith) in
    let step : super1_read bytes ≡ (if are_settings (super_fields bytes) && same_bytes (super1_bytes (super_fields bytes)) bytes then Spells1 (super_fields bytes) else BadSuper1) = rw (begins, e, f) in
    step ∙ by_test (are_settings (super_fields bytes) && same_bytes (super1_bytes (super_fields bytes)) bytes) is
  where
    by_test : (t : Bool) → None ≡ (if t then Some (super_fields bytes) else None) → (if t then Spells1 (super_fields bytes) else BadSuper1) ≡ BadSuper1
    by_test true e = absurd (cc)
    by_test false e = refl
