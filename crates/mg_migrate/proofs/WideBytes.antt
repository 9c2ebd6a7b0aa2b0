-- A row of version 1 is spelled exactly if its bytes spell the lifted row, once they are moved.
use Rattle.mg_migrate.proofs.{Fronts.{are_zeros-behind, padded_to-further, same_bytes-append}, WideRow.{AreLong, fields-are, narrow}}
use Rattle.mg_migrate.specs.Spelling1.{is_object1_row, lift_password, lift_read, lift_row, object1_bytes, object1_fields, object1_read, passwords1_at}
use Rattle.{mg_migrate.specs.Widened.{joined, untils}, mg_model.specs.{Abbreviations.{live_if, object_head}, Bytes.{are_zeros, number_at}}}
use Rattle.mg_model.specs.{Bytes.{numbers_at, padded_to, words_bytes}, BytesLemmas.{length-padded_to, length-words_bytes, same_bytes-refl}}
use Rattle.mg_model.specs.{Limits.never, RowLemmas.are_zeros-replicate, Spelling.{Read, object_bytes, object_fields, object_read}, State.ObjectRow}
use Rattle.{mg_model.specs.{Tests.is_object_row, Words.same_bytes, declared.slots.{Pw.Pw, Slot.Slot}}, std.proofs.Common.{refl, sym, ap, ◌∙◌, arith}}
use Rattle.std.proofs.{Math.Bool.and-true, lemmas.{Bool.le-leb, List.{length-append, length-map, Folds.list_all-append}}}
use Rattle.std.specs.{Option.option_map_or, Prelude.{◌≡◌, ℕ, zero, suc, ◌+◌, ◌≤◌, ◌&&◌, Bool, true, false, List, [], ◌∷◌, ◌++◌, if◌then◌else◌}}
use Rattle.std.specs.Prelude.{is_some, length, map, min, replicate, Some, None}

-- the columns of lifted passwords
passwords-lifted : (pws : List Pw) → map (λ (pw : Pw). pw.password) (map lift_password pws) ≡ map (λ (pw : Pw). pw.password) pws
passwords-lifted [] = refl
passwords-lifted (pw ∷ pws) = ap (λ v. pw.password ∷ v) (passwords-lifted pws)

rights-lifted : (pws : List Pw) → map (λ (pw : Pw). pw.rights) (map lift_password pws) ≡ map (λ (pw : Pw). pw.rights) pws
rights-lifted [] = refl
rights-lifted (pw ∷ pws) = ap (λ v. pw.rights ∷ v) (rights-lifted pws)

untils-lifted : (pws : List Pw) → map (λ (pw : Pw). pw.until) (map lift_password pws) ≡ replicate (length pws) never
untils-lifted [] = refl
untils-lifted (pw ∷ pws) = ap (λ v. never ∷ v) (untils-lifted pws)

-- the parts of a row
abbrev pub row_head : ObjectRow → List ℕ
row_head row = padded_to 80 (object_head row)

abbrev pub row_passwords : ObjectRow → List ℕ
row_passwords row = padded_to 128 (words_bytes (map (λ (pw : Pw). pw.password) row.passwords))

abbrev pub row_rights : ObjectRow → List ℕ
row_rights row = padded_to 16 (map (λ (pw : Pw). pw.rights) row.passwords)

abbrev pub row_entries : ObjectRow → List ℕ
row_entries row = padded_to 128 (words_bytes row.entries)

abbrev head_of : ObjectRow → ℕ → List ℕ
head_of row n =
    words_bytes (
    1 ∷ row.base ∷ row.pages ∷ row.account ∷ n ∷ length row.entries
    ∷ (if is_some row.extension then 1 else 0)
    ∷ option_map_or (λ (slot : Slot). slot.base) row.extension 0
    ∷ option_map_or (λ (slot : Slot). slot.password) row.extension 0
    ∷ [])

head-fits : (row : ObjectRow) → length (object_head row) ≤ 80
head-fits row = grind (arith, length-words_bytes)

words-fit : {X : Type 0} (f : X → ℕ) (xs : List X) → length xs ≤ 16 → length (words_bytes (map f xs)) ≤ 128
words-fit f xs few = let e = length-words_bytes (map f xs) in let l = length-map xs f in omega arith

module _ (row : ObjectRow) (few : length row.passwords ≤ 16) (few_entries : length row.entries ≤ 16) where
  pub row-long : AreLong (row_head row) (row_passwords row) (row_rights row) (row_entries row)
  row-long = grind (arith, length-padded_to, head-fits, words-fit, length-map, length-words_bytes)

  -- the lifted row has the same parts, filled up further
  pub lifted-spelled : object_bytes (lift_row row) ≡ joined (row_head row) (row_passwords row) (row_rights row) (row_entries row) (length row.passwords)
  lifted-spelled =
      let pws = row.passwords in
      let head : padded_to 80 (object_head (lift_row row)) ≡ row_head row = ap (λ n. padded_to 80 (head_of row n)) (length-map pws lift_password) in
      let passwords : padded_to 256 (words_bytes (map (λ (pw : Pw). pw.password) (map lift_password pws))) ≡ row_passwords row ++ replicate 128 0 =
      ap (λ v. padded_to 256 (words_bytes v)) (passwords-lifted pws)
      ∙ padded_to-further 128 128 256 (words_bytes (map (λ (pw : Pw). pw.password) pws)) (words-fit (λ (pw : Pw). pw.password) pws few) refl in
      let rights : padded_to 32 (map (λ (pw : Pw). pw.rights) (map lift_password pws)) ≡ row_rights row ++ replicate 16 0 =
      ap (padded_to 32) (rights-lifted pws) ∙ padded_to-further 16 16 32 (map (λ (pw : Pw). pw.rights) pws) (let l = length-map pws (λ (pw : Pw). pw.rights) in omega arith) refl in
      let ends : padded_to 256 (words_bytes (map (λ (pw : Pw). pw.until) (map lift_password pws))) ≡ untils (length pws) = ap (λ v. padded_to 256 (words_bytes v)) (untils-lifted pws) in
      put (padded_to 80 (object_head (lift_row row))) (row_head row)
      (padded_to 256 (words_bytes (map (λ (pw : Pw). pw.password) (map lift_password pws)))) (row_passwords row ++ replicate 128 0)
      (padded_to 32 (map (λ (pw : Pw). pw.rights) (map lift_password pws))) (row_rights row ++ replicate 16 0)
      (row_entries row)
      (padded_to 256 (words_bytes (map (λ (pw : Pw). pw.until) (map lift_password pws)))) (untils (length pws))
      head passwords rights ends
    where
      put : (a a2 b b2 c c2 d u u2 : List ℕ) → a ≡ a2 → b ≡ b2 → c ≡ c2 → u ≡ u2 → a ++ (b ++ (c ++ (d ++ (u ++ replicate 272 0)))) ≡ a2 ++ (b2 ++ (c2 ++ (d ++ (u2 ++ replicate 272 0))))
      put a a2 b b2 c c2 d u u2 ea eb ec eu =
          ap (λ v. v ++ (b ++ (c ++ (d ++ (u ++ replicate 272 0))))) ea
          ∙ ap (λ v. a2 ++ (v ++ (c ++ (d ++ (u ++ replicate 272 0))))) eb
          ∙ ap (λ v. a2 ++ (b2 ++ (v ++ (d ++ (u ++ replicate 272 0))))) ec
          ∙ ap (λ v. a2 ++ (b2 ++ (c2 ++ (d ++ (v ++ replicate 272 0))))) eu

-- two rows are compared part by part
module _ (h p g e h2 p2 g2 e2 z2 : List ℕ) (n : ℕ) (one : AreLong h p g e) (two : AreLong h2 p2 g2 e2) where
  pub narrow-same : same_bytes (narrow h p g e (replicate 160 0)) (narrow h2 p2 g2 e2 z2)
      ≡ (same_bytes h h2 && (same_bytes p p2 && (same_bytes g g2 && (same_bytes e e2 && same_bytes (replicate 160 0) z2))))
  narrow-same = grind (arith, same_bytes-append)

  more-same : (xs ys : List ℕ) (m : ℕ) → length xs ≡ length ys → same_bytes (xs ++ replicate m 0) (ys ++ replicate m 0) ≡ same_bytes xs ys
  more-same xs ys m long = grind (arith, same_bytes-append, same_bytes-refl, and-true)

  more-long : (xs ys : List ℕ) (m : ℕ) → length xs ≡ length ys → length (xs ++ replicate m 0) ≡ length (ys ++ replicate m 0)
  more-long xs ys m long = length-append xs (replicate m 0) ∙ ap (λ k. k + length {A = ℕ} (replicate m 0)) long ∙ sym (length-append ys (replicate m 0))

  pub joined-same : same_bytes (joined h p g e n) (joined h2 p2 g2 e2 n) ≡ (same_bytes h h2 && (same_bytes p p2 && (same_bytes g g2 && (same_bytes e e2 && true))))
  joined-same =
      let u = untils n ++ replicate 272 0 in
      let same_p = one.passwords ∙ sym two.passwords in
      let same_g = one.rights ∙ sym two.rights in
      same_bytes-append h h2 ((p ++ replicate 128 0) ++ ((g ++ replicate 16 0) ++ (e ++ u))) ((p2 ++ replicate 128 0) ++ ((g2 ++ replicate 16 0) ++ (e2 ++ u))) (one.head ∙ sym two.head)
      ∙ ap (λ t. same_bytes h h2 && t) (same_bytes-append (p ++ replicate 128 0) (p2 ++ replicate 128 0) ((g ++ replicate 16 0) ++ (e ++ u)) ((g2 ++ replicate 16 0) ++ (e2 ++ u)) (more-long p p2 128 same_p)
      ∙ ap (λ t. t && same_bytes ((g ++ replicate 16 0) ++ (e ++ u)) ((g2 ++ replicate 16 0) ++ (e2 ++ u))) (more-same p p2 128 same_p)
      ∙ ap (λ t. same_bytes p p2 && t) (same_bytes-append (g ++ replicate 16 0) (g2 ++ replicate 16 0) (e ++ u) (e2 ++ u) (more-long g g2 16 same_g)
      ∙ ap (λ t. t && same_bytes (e ++ u) (e2 ++ u)) (more-same g g2 16 same_g)
      ∙ ap (λ t. same_bytes g g2 && t) (same_bytes-append e e2 u u (one.entries ∙ sym two.entries)
      ∙ ap (λ t. same_bytes e e2 && t) (same_bytes-refl u))))

-- zeros
zeros-narrow : (h p g e : List ℕ) → are_zeros (narrow h p g e (replicate 160 0)) ≡ (are_zeros h && (are_zeros p && (are_zeros g && (are_zeros e && true))))
zeros-narrow h p g e = grind (arith, list_all-append, are_zeros-replicate)

zeros-joined : (h p g e : List ℕ) (n : ℕ) → are_zeros (joined h p g e n) ≡ (are_zeros h && (are_zeros p && (are_zeros g && (are_zeros e && are_zeros (untils n ++ replicate 272 0)))))
zeros-joined h p g e n = grind (arith, list_all-append, are_zeros-behind)

some-part : (a b c d u : Bool) → (a && (b && (c && (d && true)))) ≡ false → (a && (b && (c && (d && u)))) ≡ false
some-part false b c d u f = refl
some-part true false c d u f = refl
some-part true true false d u f = refl
some-part true true true false u f = refl
some-part true true true true u f = absurd (cc)

-- what is read, from the fields and the two tests
abbrev read_by : Bool → Bool → ObjectRow → Read ObjectRow
read_by rule same row = if rule && same then Some (Some row) else None

pub read-live-as : (bytes : List ℕ) (row : ObjectRow) (same : Bool) → are_zeros bytes ≡ false → object_fields bytes ≡ row → same_bytes (object_bytes row) bytes ≡ same
    → object_read bytes ≡ read_by (is_object_row row) same row
read-live-as bytes row same some fields test =
    ap (λ t. if t then Some None else live_if (is_object_row (object_fields bytes)) (object_bytes (object_fields bytes)) bytes (object_fields bytes)) some
    ∙ ap (λ (f : ObjectRow). read_by (is_object_row f) (same_bytes (object_bytes f) bytes) f) fields
    ∙ ap (λ t. read_by (is_object_row row) t row) test

pub read1-live-as : (bytes : List ℕ) (row : ObjectRow) (rule same : Bool) → are_zeros bytes ≡ false → object1_fields bytes ≡ row → is_object1_row row ≡ rule → same_bytes (object1_bytes row) bytes ≡ same
    → object1_read bytes ≡ read_by rule same row
read1-live-as bytes row rule same some fields ruled test =
    ap (λ t. if t then Some None else live_if (is_object1_row (object1_fields bytes)) (object1_bytes (object1_fields bytes)) bytes (object1_fields bytes)) some
    ∙ ap (λ (f : ObjectRow). read_by (is_object1_row f) (same_bytes (object1_bytes f) bytes) f) fields
    ∙ ap (λ t. read_by t (same_bytes (object1_bytes row) bytes) row) ruled
    ∙ ap (λ t. read_by rule t row) test

lift-read_by : (t : Bool) (row : ObjectRow) → lift_read (if t then Some (Some row) else None) ≡ (if t then Some (Some (lift_row row)) else None)
lift-read_by true row = refl
lift-read_by false row = refl

length-passwords1_at : (bytes : List ℕ) (k n : ℕ) → length (passwords1_at bytes k n) ≡ n
length-passwords1_at bytes k zero = refl
length-passwords1_at bytes k (suc n) = ap suc (length-passwords1_at bytes (k + 1) n)

length-numbers_at : (bytes : List ℕ) (o n : ℕ) → length (numbers_at bytes o n) ≡ n
length-numbers_at bytes o zero = refl
length-numbers_at bytes o (suc n) = ap suc (length-numbers_at bytes (o + 8) n)

pub length-passwords1 : (bytes : List ℕ) → length (object1_fields bytes).passwords ≡ min (number_at bytes 32) 17
length-passwords1 bytes = length-passwords1_at bytes 0 (min (number_at bytes 32) 17)

pub length-entries1 : (bytes : List ℕ) → length (object1_fields bytes).entries ≡ min (number_at bytes 40) 17
length-entries1 bytes = length-numbers_at bytes 224 (min (number_at bytes 40) 17)

-- a row whose counts are within their limits, with zeros after its columns
module _ (h p g e : List ℕ) (n : ℕ) (long : AreLong h p g e) where
  abbrev old : List ℕ
  old = narrow h p g e (replicate 160 0)

  abbrev new : List ℕ
  new = joined h p g e n

  pub read-widened : number_at old 32 ≡ n → n ≤ 16 → number_at old 40 ≤ 16 → are_zeros old ≡ false → object_read new ≡ lift_read (object1_read old)
  read-widened counted few few_entries some =
      let row = object1_fields old in
      let e1 = length-passwords1 old in
      let e2 = length-entries1 old in
      let count : length row.passwords ≡ n = omega arith in
      let few_passwords : length row.passwords ≤ 16 = omega arith in
      let few_addresses : length row.entries ≤ 16 = omega arith in
      let same = same_bytes (object1_bytes row) old in
      let some_new : are_zeros new ≡ false = zeros-joined h p g e n ∙ some-part (are_zeros h) (are_zeros p) (are_zeros g) (are_zeros e) (are_zeros (untils n ++ replicate 272 0)) (sym (zeros-narrow h p g e) ∙ some) in
      let wide : same_bytes (object_bytes (lift_row row)) new ≡ same =
      ap (λ v. same_bytes v new) (lifted-spelled row few_passwords few_addresses ∙ ap (λ m. joined (row_head row) (row_passwords row) (row_rights row) (row_entries row) m) count)
      ∙ joined-same (row_head row) (row_passwords row) (row_rights row) (row_entries row) h p g e (replicate 160 0) n (row-long row few_passwords few_addresses) long
      ∙ ap (λ t. same_bytes (row_head row) h && (same_bytes (row_passwords row) p && (same_bytes (row_rights row) g && (same_bytes (row_entries row) e && t)))) (sym (same_bytes-refl (replicate 160 0)))
      ∙ sym (narrow-same (row_head row) (row_passwords row) (row_rights row) (row_entries row) h p g e (replicate 160 0) n (row-long row few_passwords few_addresses) long) in
      let rule : is_object1_row row ≡ is_object_row (lift_row row) = ap (λ t. t && is_object_row (lift_row row)) (le-leb (length row.passwords) 16 few_passwords) in
      read-live-as new (lift_row row) same some_new (fields-are h p g e (replicate 160 0) n long counted few few_entries) wide
      ∙ sym (ap lift_read (read1-live-as old row (is_object_row (lift_row row)) same some refl rule refl) ∙ lift-read_by (is_object_row (lift_row row) && same) row)
