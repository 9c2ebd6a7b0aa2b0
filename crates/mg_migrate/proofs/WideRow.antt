-- A row of version 1 and its bytes where this version has them: both are read alike.
use Rattle.mg_migrate.{proofs.Fronts.{get_or-behind, number_at-front, number_at-replicate, numbers_at-front}, specs.Spelling1.lift_password}
use Rattle.mg_migrate.specs.{Spelling1.{lift_row, object1_fields, passwords1_at}, Widened.{joined, untils}}
use Rattle.mg_model.specs.{Abbreviations.{extension_at, passwords_at}, Bytes.{number_at, numbers_at}, BytesLemmas.number_at-behind}
use Rattle.{mg_model.specs.{BytesLemmas.numbers_at-behind, Limits.never, Ranges.IsWord, Spelling.object_fields}, std.proofs.Common.{refl, sym, ap}}
use Rattle.std.proofs.{Common.{◌∙◌, arith, append_assoc}, Math.ListN.get_or-append, lemmas.List.{length-replicate, length-append}}
use Rattle.std.specs.Prelude.{◌≡◌, ℕ, zero, suc, ◌+◌, ◌*◌, ◌<◌, ◌≤◌, ◌==◌, List, [], ◌++◌, get_or, if◌then◌else◌, length, map, min, replicate}
use Rattle.std.specs.Prelude.{slice_index, Some, None}

-- the bytes of a row of version 1, from its parts
abbrev pub narrow : List ℕ → List ℕ → List ℕ → List ℕ → List ℕ → List ℕ
narrow h p g e z = h ++ (p ++ (g ++ (e ++ z)))

pub record AreLong (h p g e : List ℕ) : Type 0 where
  pub head : length h ≡ 80
  pub passwords : length p ≡ 128
  pub rights : length g ≡ 16
  pub entries : length e ≡ 128

pub length-wide : (xs : List ℕ) (n m k : ℕ) → length xs ≡ n → n + m ≡ k → length (xs ++ replicate m 0) ≡ k
length-wide xs n m k long is = let a = length-append xs (replicate m 0) in let r = length-replicate {A = ℕ} m 0 in omega arith

never-word : IsWord never
never-word = omega arith

module _ (h p g e z : List ℕ) (n : ℕ) (long : AreLong h p g e) where
  abbrev old : List ℕ
  old = narrow h p g e z

  abbrev new : List ℕ
  new = joined h p g e n

  abbrev u : List ℕ
  u = untils n ++ replicate 272 0

  head-same : (k : ℕ) → k + 8 ≤ 80 → number_at new k ≡ number_at old k
  head-same k within = grind (arith, number_at-front)

  password-same : (k : ℕ) → k < 16 → number_at new (80 + 8 * k) ≡ number_at old (80 + 8 * k)
  password-same k few =
      let l = long.passwords in
      let w : length (p ++ replicate 128 0) ≡ 256 = length-wide p 128 128 256 long.passwords refl in
      number_at-behind h ((p ++ replicate 128 0) ++ ((g ++ replicate 16 0) ++ (e ++ u))) 80 (8 * k) long.head
      ∙ number_at-front (p ++ replicate 128 0) ((g ++ replicate 16 0) ++ (e ++ u)) (8 * k) (omega arith)
      ∙ number_at-front p (replicate 128 0) (8 * k) (omega arith)
      ∙ sym (number_at-front p (g ++ (e ++ z)) (8 * k) (omega arith))
      ∙ sym (number_at-behind h (p ++ (g ++ (e ++ z))) 80 (8 * k) long.head)

  right-same : (k : ℕ) → k < 16 → slice_index new (336 + k) ≡ slice_index old (208 + k)
  right-same k few =
      let l = long.rights in
      let w : length (p ++ replicate 128 0) ≡ 256 = length-wide p 128 128 256 long.passwords refl in
      let far : 336 + k ≡ 80 + (256 + k) = omega arith in
      let near : 208 + k ≡ 80 + (128 + k) = omega arith in
      ap (λ i. get_or new i 0) far
      ∙ get_or-behind h ((p ++ replicate 128 0) ++ ((g ++ replicate 16 0) ++ (e ++ u))) 80 (256 + k) 0 long.head
      ∙ get_or-behind (p ++ replicate 128 0) ((g ++ replicate 16 0) ++ (e ++ u)) 256 k 0 w
      ∙ in_front
      ∙ sym (get_or-behind p (g ++ (e ++ z)) 128 k 0 long.passwords)
      ∙ sym (get_or-behind h (p ++ (g ++ (e ++ z))) 80 (128 + k) 0 long.head)
      ∙ sym (ap (λ i. get_or old i 0) near)
    where
      front : (xs ys zs : List ℕ) (i : ℕ) → i < length xs → get_or (xs ++ ys) i 0 ≡ get_or xs i 0
      front xs ys zs i within = get_or-append xs ys 0 i within

      in_front : get_or ((g ++ replicate 16 0) ++ (e ++ u)) k 0 ≡ get_or (g ++ (e ++ z)) k 0
      in_front =
          let l = long.rights in
          let w : length (g ++ replicate 16 0) ≡ 32 = length-wide g 16 16 32 long.rights refl in
          front (g ++ replicate 16 0) (e ++ u) [] k (omega arith) ∙ front g (replicate 16 0) [] k (omega arith) ∙ sym (front g (e ++ z) [] k (omega arith))

  entries-same : (m : ℕ) → m ≤ 16 → numbers_at new 368 m ≡ numbers_at old 224 m
  entries-same m few =
      let l = long.entries in
      let w : length (p ++ replicate 128 0) ≡ 256 = length-wide p 128 128 256 long.passwords refl in
      let v : length (g ++ replicate 16 0) ≡ 32 = length-wide g 16 16 32 long.rights refl in
      numbers_at-behind h ((p ++ replicate 128 0) ++ ((g ++ replicate 16 0) ++ (e ++ u))) 80 288 m long.head
      ∙ numbers_at-behind (p ++ replicate 128 0) ((g ++ replicate 16 0) ++ (e ++ u)) 256 32 m w
      ∙ numbers_at-behind (g ++ replicate 16 0) (e ++ u) 32 0 m v
      ∙ numbers_at-front e u 0 m (omega arith)
      ∙ sym (numbers_at-front e z 0 m (omega arith))
      ∙ sym (numbers_at-behind g (e ++ z) 16 0 m long.rights)
      ∙ sym (numbers_at-behind p (g ++ (e ++ z)) 128 16 m long.passwords)
      ∙ sym (numbers_at-behind h (p ++ (g ++ (e ++ z))) 80 144 m long.head)

  in_untils : (k : ℕ) → k < n → number_at u (8 * k) ≡ never
  in_untils k below = grind (arith, append_assoc, number_at-replicate, never-word)

  until-is : (k : ℕ) → k < n → number_at new (496 + 8 * k) ≡ never
  until-is k below =
      let w : length (p ++ replicate 128 0) ≡ 256 = length-wide p 128 128 256 long.passwords refl in
      let v : length (g ++ replicate 16 0) ≡ 32 = length-wide g 16 16 32 long.rights refl in
      let i1 : 496 + 8 * k ≡ 80 + (416 + 8 * k) = omega arith in
      let i2 : 416 + 8 * k ≡ 256 + (160 + 8 * k) = omega arith in
      let i3 : 160 + 8 * k ≡ 32 + (128 + 8 * k) = omega arith in
      ap (number_at new) i1
      ∙ number_at-behind h ((p ++ replicate 128 0) ++ ((g ++ replicate 16 0) ++ (e ++ u))) 80 (416 + 8 * k) long.head
      ∙ ap (number_at ((p ++ replicate 128 0) ++ ((g ++ replicate 16 0) ++ (e ++ u)))) i2
      ∙ number_at-behind (p ++ replicate 128 0) ((g ++ replicate 16 0) ++ (e ++ u)) 256 (160 + 8 * k) w
      ∙ ap (number_at ((g ++ replicate 16 0) ++ (e ++ u))) i3
      ∙ number_at-behind (g ++ replicate 16 0) (e ++ u) 32 (128 + 8 * k) v
      ∙ number_at-behind e u 128 (8 * k) long.entries
      ∙ in_untils k below

  passwords-same : (k m : ℕ) → k + m ≤ 16 → k + m ≤ n → passwords_at new k m ≡ map lift_password (passwords1_at old k m)
  passwords-same k zero few within = refl
  passwords-same k (suc m) few within = grind (arith, (passwords-same (k + 1) m (omega arith) (omega arith)), password-same, right-same, until-is)

  extension-same : extension_at new ≡ extension_at old
  extension-same =
      ap (λ v. if v == 1 then Some record { base = number_at new 56; password = number_at new 64 } else None) (head-same 48 (omega arith))
      ∙ ap (λ v. if number_at old 48 == 1 then Some record { base = v; password = number_at new 64 } else None) (head-same 56 (omega arith))
      ∙ ap (λ v. if number_at old 48 == 1 then Some record { base = number_at old 56; password = v } else None) (head-same 64 (omega arith))

  module _ (counted : number_at old 32 ≡ n) (few : n ≤ 16) (few_entries : number_at old 40 ≤ 16) where
    passwords-are : passwords_at new 0 (min (number_at new 32) 33) ≡ map lift_password (passwords1_at old 0 (min (number_at old 32) 17))
    passwords-are =
        let s = head-same 32 (omega arith) in
        let c1 : min (number_at new 32) 33 ≡ n = omega arith in
        let c2 : min (number_at old 32) 17 ≡ n = omega arith in
        ap (passwords_at new 0) c1 ∙ passwords-same 0 n (omega arith) (omega arith) ∙ ap (λ m. map lift_password (passwords1_at old 0 m)) (sym c2)

    entries-are : numbers_at new 368 (min (number_at new 40) 17) ≡ numbers_at old 224 (min (number_at old 40) 17)
    entries-are =
        let s = head-same 40 (omega arith) in
        ap (λ c. numbers_at new 368 (min c 17)) s ∙ entries-same (min (number_at old 40) 17) (omega arith)

    pub fields-are : object_fields new ≡ lift_row (object1_fields old)
    fields-are =
        ap (λ v. record { base = v; pages = number_at new 16; account = number_at new 24; passwords = passwords_at new 0 (min (number_at new 32) 33); entries = numbers_at new 368 (min (number_at new 40) 17); extension = extension_at new }) (head-same 8 (omega arith))
        ∙ ap (λ v. record { base = number_at old 8; pages = v; account = number_at new 24; passwords = passwords_at new 0 (min (number_at new 32) 33); entries = numbers_at new 368 (min (number_at new 40) 17); extension = extension_at new }) (head-same 16 (omega arith))
        ∙ ap (λ v. record { base = number_at old 8; pages = number_at old 16; account = v; passwords = passwords_at new 0 (min (number_at new 32) 33); entries = numbers_at new 368 (min (number_at new 40) 17); extension = extension_at new }) (head-same 24 (omega arith))
        ∙ ap (λ v. record { base = number_at old 8; pages = number_at old 16; account = number_at old 24; passwords = v; entries = numbers_at new 368 (min (number_at new 40) 17); extension = extension_at new }) passwords-are
        ∙ ap (λ v. record { base = number_at old 8; pages = number_at old 16; account = number_at old 24; passwords = map lift_password (passwords1_at old 0 (min (number_at old 32) 17)); entries = v; extension = extension_at new }) entries-are
        ∙ ap (λ v. record { base = number_at old 8; pages = number_at old 16; account = number_at old 24; passwords = map lift_password (passwords1_at old 0 (min (number_at old 32) 17)); entries = numbers_at old 224 (min (number_at old 40) 17); extension = v }) extension-same
