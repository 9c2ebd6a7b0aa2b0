-- A row of version 1 and what it becomes are read alike.
use Rattle.mg_migrate.proofs.{Fronts.{same_bytes-tells, zeros-replicate}, WideBytes.{length-entries1, length-passwords1, lifted-spelled, narrow-same}}
use Rattle.mg_migrate.proofs.{WideBytes.{read-widened, read1-live-as, row-long, row_entries, row_head, row_passwords, row_rights}, WideRow.AreLong}
use Rattle.mg_migrate.{proofs.WideRow.{length-wide, narrow}, specs.{Lifted.{lifted_row, row_lifted}, Spelling1.{is_object1_row, lift_read, lift_row}}}
use Rattle.mg_migrate.specs.{Spelling1.{object1_bytes, object1_fields, object1_read}, Widened.{joined, may_widen, widened}}
use Rattle.mg_model.specs.{Abbreviations.live_if, Bytes.{are_zeros, bytes_at, number_at}, BytesLemmas.{length-padded_to, length-words_bytes}}
use Rattle.mg_model.specs.{RowLemmas.{are_zeros-replicate, read-free}, Spelling.{Read, object_bytes, object_fields, object_read}, State.ObjectRow}
use Rattle.{mg_model.specs.{Tests.is_object_row, Words.same_bytes}, std.proofs.Common.{refl, sym, ap, subst, ◌∙◌, arith, ⊎_elim}}
use Rattle.std.proofs.lemmas.Bool.{and_from, le-leb, and_left, and_parts, and_right, both_ways, cases_Bool, cond_both, leb-true, lt-leb, cases_lt}
use Rattle.std.proofs.lemmas.{List.{drop-drop, length-append, length-drop, length-replicate, length-take, take-append-drop}, Option.same_Some}
use Rattle.std.specs.{Option.option_map_or, Prelude.{◌≡◌, ℕ, ◌+◌, ◌<◌, ◌≤◌, ◌&&◌, nat_le, Bool, true, false, List, ◌++◌, drop, length, replicate}}
use Rattle.std.specs.Prelude.{take, Option, Some, None}

none-behind : (a b c d : Bool) → (a && (b && (c && (d && false)))) ≡ false
none-behind a b c d = and_right a (b && (c && (d && false))) (and_right b (c && (d && false)) (and_right c (d && false) (and_right d false refl)))

entries-few : (row : ObjectRow) → is_object_row row ≡ true → length row.entries ≤ 16
entries-few row t = grind (arith, and_parts, leb-true)

-- 512 bytes are their parts
module _ (b : List ℕ) (long : length b ≡ 512) where
  parts-long : AreLong (take 80 b) (bytes_at b 80 128) (bytes_at b 208 16) (bytes_at b 224 128)
  parts-long = record {
    head = (let l = length-take 80 b in omega arith);
    passwords = (let l = length-take 128 (drop 80 b) in let d = length-drop 80 b in omega arith);
    rights = (let l = length-take 16 (drop 208 b) in let d = length-drop 208 b in omega arith);
    entries = (let l = length-take 128 (drop 224 b) in let d = length-drop 224 b in omega arith);
  }

  step : (k n m : ℕ) → k + n ≡ m → bytes_at b k n ++ drop m b ≡ drop k b
  step k n m is = ap (λ j. bytes_at b k n ++ drop j b) (sym is) ∙ ap (λ v. bytes_at b k n ++ v) (sym (drop-drop n k b)) ∙ take-append-drop n (drop k b)

  parts-whole : narrow (take 80 b) (bytes_at b 80 128) (bytes_at b 208 16) (bytes_at b 224 128) (drop 352 b) ≡ b
  parts-whole =
      ap (λ v. take 80 b ++ (bytes_at b 80 128 ++ (bytes_at b 208 16 ++ v))) (step 224 128 352 refl)
      ∙ ap (λ v. take 80 b ++ (bytes_at b 80 128 ++ v)) (step 208 16 224 refl)
      ∙ ap (λ v. take 80 b ++ v) (step 80 128 208 refl)
      ∙ take-append-drop 80 b

  module _ (some : are_zeros b ≡ false) where
    -- when the row may be moved, it is read alike
    pub widened-read : may_widen b ≡ true → object_read (widened b) ≡ lift_read (object1_read b)
    widened-read may =
        let both = and_parts (nat_le (number_at b 32) 16 && nat_le (number_at b 40) 16) (are_zeros (drop 352 b)) may in
        let counts = and_parts (nat_le (number_at b 32) 16) (nat_le (number_at b 40) 16) both.0 in
        let rest : drop 352 b ≡ replicate 160 0 = zeros-replicate (drop 352 b) both.1 ∙ ap (λ n. replicate n 0) (let l = length-drop 352 b in let e : length (drop 352 b) ≡ 160 = omega arith in e) in
        let whole : narrow (take 80 b) (bytes_at b 80 128) (bytes_at b 208 16) (bytes_at b 224 128) (replicate 160 0) ≡ b =
        ap (narrow (take 80 b) (bytes_at b 80 128) (bytes_at b 208 16) (bytes_at b 224 128)) (sym rest) ∙ parts-whole in
        read-widened (take 80 b) (bytes_at b 80 128) (bytes_at b 208 16) (bytes_at b 224 128) (number_at b 32) parts-long
        (ap (λ v. number_at v 32) whole) (leb-true (number_at b 32) 16 counts.0)
        (subst (λ v. number_at v 40 ≤ 16) (sym whole) (leb-true (number_at b 40) 16 counts.1))
        (ap are_zeros whole ∙ some)
        ∙ ap (λ v. lift_read (object1_read v)) whole

    -- when it may not, it spells nothing
    not_ruled : is_object1_row (object1_fields b) ≡ false → object1_read b ≡ None
    not_ruled f = read1-live-as b (object1_fields b) false (same_bytes (object1_bytes (object1_fields b)) b) some refl f refl

    not_same : same_bytes (object1_bytes (object1_fields b)) b ≡ false → object1_read b ≡ None
    not_same f = grind (arith, read1-live-as, some, and_right)

    over_passwords : 16 < number_at b 32 → object1_read b ≡ None
    over_passwords over = grind arith

    over_entries : 16 < number_at b 40 → object1_read b ≡ None
    over_entries over =
        let row = object1_fields b in
        let l = length-entries1 b in
        not_ruled (and_right (nat_le (length row.passwords) 16) (is_object_row (lift_row row)) (entries-over (lift_row row) (omega arith)))
      where
        entries-over : (row : ObjectRow) → 16 < length row.entries → is_object_row row ≡ false
        entries-over row more = and_left _ _ (and_right _ _ (and_left _ _ (and_left _ _ (lt-leb (length row.entries) 16 more))))

    some_rest : number_at b 32 ≤ 16 → number_at b 40 ≤ 16 → are_zeros (drop 352 b) ≡ false → object1_read b ≡ None
    some_rest few few_entries rest =
        let row = object1_fields b in
        let l1 = length-passwords1 b in
        let l2 = length-entries1 b in
        let long_row = row-long row (omega arith) (omega arith) in
        let other : same_bytes (replicate 160 0) (drop 352 b) ≡ false =
        ⊎_elim (λ t. absurd (both_ways (are_zeros (drop 352 b)) rest (ap are_zeros (sym (same_bytes-tells (replicate 160 0) (drop 352 b) t)) ∙ are_zeros-replicate 160))) (λ f. f)
        (cases_Bool (same_bytes (replicate 160 0) (drop 352 b))) in
        not_same
        (ap (same_bytes (object1_bytes row)) (sym parts-whole)
        ∙ narrow-same (row_head row) (row_passwords row) (row_rights row) (row_entries row) (take 80 b) (bytes_at b 80 128) (bytes_at b 208 16) (bytes_at b 224 128) (drop 352 b) 0 long_row parts-long
        ∙ ap (λ t. same_bytes (row_head row) (take 80 b) && (same_bytes (row_passwords row) (bytes_at b 80 128) && (same_bytes (row_rights row) (bytes_at b 208 16) && (same_bytes (row_entries row) (bytes_at b 224 128) && t)))) other
        ∙ none-behind (same_bytes (row_head row) (take 80 b)) (same_bytes (row_passwords row) (bytes_at b 80 128)) (same_bytes (row_rights row) (bytes_at b 208 16)) (same_bytes (row_entries row) (bytes_at b 224 128)))

    pub unwidened-none : may_widen b ≡ false → object1_read b ≡ None
    unwidened-none may_not = ⊎_elim over_passwords (λ few. ⊎_elim over_entries (λ few_entries. ⊎_elim (λ t. absurd (both_ways (may_widen b) may_not (all few few_entries t))) (some_rest few few_entries) (cases_Bool (are_zeros (drop 352 b)))) (cases_lt 16 (number_at b 40))) (cases_lt 16 (number_at b 32))
      where
        all : number_at b 32 ≤ 16 → number_at b 40 ≤ 16 → are_zeros (drop 352 b) ≡ true → may_widen b ≡ true
        all few few_entries t = and_from _ _ (and_from _ _ (le-leb (number_at b 32) 16 few) (le-leb (number_at b 40) 16 few_entries)) t

-- what is known of a live row
record IsLive1 (b : List ℕ) (row : ObjectRow) : Type 0 where
  same : object1_fields b ≡ row
  few : length row.passwords ≤ 16
  few_entries : length row.entries ≤ 16
  written : object1_bytes row ≡ b
  some : are_zeros b ≡ false

test-live1 : (b : List ℕ) (row : ObjectRow) → are_zeros b ≡ false → (is_object1_row (object1_fields b) && same_bytes (object1_bytes (object1_fields b)) b) ≡ true → object1_fields b ≡ row → IsLive1 b row
test-live1 b row some passes same =
    let parts = and_parts (is_object1_row (object1_fields b)) (same_bytes (object1_bytes (object1_fields b)) b) passes in
    let rule : is_object1_row row ≡ true = subst (λ (r : ObjectRow). is_object1_row r ≡ true) same parts.0 in
    let ruled = and_parts (nat_le (length row.passwords) 16) (is_object_row (lift_row row)) rule in
    record {
      same = same;
      few = leb-true (length row.passwords) 16 ruled.0;
      few_entries = entries-few (lift_row row) ruled.1;
      written = ap object1_bytes (sym same) ∙ same_bytes-tells (object1_bytes (object1_fields b)) b parts.1;
      some = some;
    }

live1 : (b : List ℕ) (row : ObjectRow) → object1_read b ≡ Some (Some row) → IsLive1 b row
live1 b row is =
    cond_both (are_zeros b) (Some None) (live_if (is_object1_row (object1_fields b)) (object1_bytes (object1_fields b)) b (object1_fields b)) (λ (o : Read ObjectRow). o ≡ Some (Some row) → IsLive1 b row)
    (λ _ e. absurd (cc))
    (λ some e. cond_both (is_object1_row (object1_fields b) && same_bytes (object1_bytes (object1_fields b)) b) (Some (Some (object1_fields b))) None (λ (o : Read ObjectRow). o ≡ Some (Some row) → IsLive1 b row)
    (λ passes e. test-live1 b row some passes (same_Some _ _ (same_Some _ _ e)))
    (λ _ e. absurd (cc))
    e)
    is

-- a row that is read is read back from what it becomes
live-lifted : (b : List ℕ) (row : ObjectRow) → object1_read b ≡ Some (Some row) → object_read (object_bytes (lift_row row)) ≡ Some (Some (lift_row row))
live-lifted b row is =
    let live = live1 b row is in
    let l1 = length-passwords1 b in
    let l2 = length-entries1 b in
    let few = live.few in
    let few_entries = live.few_entries in
    let same_passwords : length (object1_fields b).passwords ≡ length row.passwords = ap (λ (r : ObjectRow). length r.passwords) live.same in
    let same_entries : length (object1_fields b).entries ≡ length row.entries = ap (λ (r : ObjectRow). length r.entries) live.same in
    let count : number_at b 32 ≡ length row.passwords = omega arith in
    let entries : number_at b 40 ≤ 16 = omega arith in
    ap object_read (lifted-spelled row few few_entries)
    ∙ read-widened (row_head row) (row_passwords row) (row_rights row) (row_entries row) (length row.passwords) (row-long row few few_entries)
    (ap (λ v. number_at v 32) live.written ∙ count) few (subst (λ v. number_at v 40 ≤ 16) (sym live.written) entries) (ap are_zeros live.written ∙ live.some)
    ∙ ap (λ v. lift_read (object1_read v)) live.written
    ∙ ap lift_read is

read-of-lifted : (b : List ℕ) (read : Read ObjectRow) → object1_read b ≡ read → object_read (row_lifted read) ≡ lift_read read
read-of-lifted b None is = refl
read-of-lifted b (Some None) is = read-free (replicate 1024 0) (live_if (is_object_row (object_fields (replicate 1024 0))) (object_bytes (object_fields (replicate 1024 0))) (replicate 1024 0) (object_fields (replicate 1024 0))) (are_zeros-replicate 1024)
read-of-lifted b (Some (Some row)) is = live-lifted b row is

pub lifted-read : (b : List ℕ) → object_read (lifted_row b) ≡ lift_read (object1_read b)
unfolding lifted_row
lifted-read b = read-of-lifted b (object1_read b) refl

-- each has 1,024 bytes
length-joined : (h p g e : List ℕ) (n : ℕ) → AreLong h p g e → n ≤ 16 → length (joined h p g e n) ≡ 1024
length-joined h p g e n long few = grind (arith, length-padded_to, length-words_bytes, length-replicate, length-wide, length-append)

length-of-lifted : (b : List ℕ) (read : Read ObjectRow) → object1_read b ≡ read → length (row_lifted read) ≡ 1024
length-of-lifted b None is = length-replicate {A = ℕ} 1024 255
length-of-lifted b (Some None) is = length-replicate {A = ℕ} 1024 0
length-of-lifted b (Some (Some row)) is =
    let live = live1 b row is in
    ap length (lifted-spelled row live.few live.few_entries)
    ∙ length-joined (row_head row) (row_passwords row) (row_rights row) (row_entries row) (length row.passwords) (row-long row live.few live.few_entries) live.few

pub length-lifted_row : (b : List ℕ) → length (lifted_row b) ≡ 1024
unfolding lifted_row
length-lifted_row b = length-of-lifted b (object1_read b) refl

-- what a row turns into, from what is read
some-spelled : (o : Option ObjectRow) (read : Read ObjectRow) → Some o ≡ lift_read read → option_map_or (λ (row : ObjectRow). object_bytes row) o (replicate 1024 0) ≡ row_lifted read
some-spelled o None is = absurd (cc)
some-spelled o (Some None) is = let same : o ≡ None = same_Some _ _ is in ap (λ (v : Option ObjectRow). option_map_or (λ (row : ObjectRow). object_bytes row) v (replicate 1024 0)) same
some-spelled o (Some (Some old)) is = let same : o ≡ Some (lift_row old) = same_Some _ _ is in ap (λ (v : Option ObjectRow). option_map_or (λ (row : ObjectRow). object_bytes row) v (replicate 1024 0)) same

none-spelled : (read : Read ObjectRow) → None ≡ lift_read read → replicate 1024 255 ≡ row_lifted read
none-spelled None is = refl
none-spelled (Some None) is = absurd (cc)
none-spelled (Some (Some old)) is = absurd (cc)

pub lifted-some : (b : List ℕ) (o : Option ObjectRow) → Some o ≡ lift_read (object1_read b) → option_map_or (λ (row : ObjectRow). object_bytes row) o (replicate 1024 0) ≡ lifted_row b
unfolding lifted_row
lifted-some b o is = some-spelled o (object1_read b) is

pub lifted-none : (b : List ℕ) → None ≡ lift_read (object1_read b) → replicate 1024 255 ≡ lifted_row b
unfolding lifted_row
lifted-none b is = none-spelled (object1_read b) is
