-- A row that is read from bytes is in its ranges, and writing it gives those bytes.
use Rattle.mg_model.specs.{Abbreviations.{extension_at, frames_at, free_or, is_call_frame, live_if, passwords_at}, Bytes.{bytes_at, number_at}}
use Rattle.mg_model.specs.{Bytes.numbers_at, PasswordRows.IsPassword, Ranges.{IsCallFrame, IsCounters, IsExtension, IsObjectRow, IsSlot, IsThreadRow}}
use Rattle.mg_model.specs.{Ranges.IsWord, RowTestLemmas.{counters-tell, distinct-tells, entry-tells, list_all-tells, place-tells}, Spelling.Read}
use Rattle.mg_model.specs.Spelling.{account_bytes, account_fields, account_read, frame_at, globals_bytes, globals_fields, globals_read, object_bytes}
use Rattle.mg_model.specs.{Spelling.{object_fields, object_read, slots_at, thread_bytes, thread_fields, thread_read}, State.{Counters, ObjectRow}}
use Rattle.mg_model.specs.{State.ThreadRow, Tests.{are_counters, is_object_row, is_password, is_thread_row}, Words.same_bytes}
use Rattle.{mg_model.specs.declared.{accounts.AccRow.AccRow, slots.{Pw.Pw, Slot.Slot}}, mg_rows.proofs.ObjectFields.object-written}
use Rattle.mg_rows.{proofs.{Reading.{account-back, globals-back}, ThreadRows.thread-back}, specs.Laws.{IsAccountRow, IsByte, IsSpelledInOneWay, live}}
use Rattle.std.proofs.{Common.{refl, sym, ap, subst, ◌∙◌, arith}, lemmas.Bool.{and_parts, cases_lt, cond_both, eqb-true, leb-true, ltb-true}}
use Rattle.std.proofs.lemmas.{Bool.{not-true, eqb-false, Decides.nat_tests}, List.{get_or-drop, get_or-take, get_or_past, Elements.All-cons}}
use Rattle.std.{proofs.lemmas.{List.Elements.All-nil, Option.same_Some}, specs.{List.list_all, Option.{ForSome, option_map_or}, Prelude.{◌≡◌, ◌+◌}}}
use Rattle.std.specs.Prelude.{◌*◌, ◌<◌, ◌==◌, ◌&&◌, ℕ, zero, suc, Bool, true, not, All, List, [], ◌∷◌, drop, get_or, min, slice_index, Option, Some}
use Rattle.std.specs.Prelude.{None}

-- bytes that are the same
same-bytes : (xs ys : List ℕ) → same_bytes xs ys ≡ true → xs ≡ ys
same-bytes [] [] h = refl
same-bytes [] (y ∷ ys) h = cc
same-bytes (x ∷ xs) [] h = cc
same-bytes (x ∷ xs) (y ∷ ys) h =
    let parts = and_parts (x == y) (same_bytes xs ys) h in
    let head : x ≡ y = eqb-true x y parts.0 in
    let rest : xs ≡ ys = same-bytes xs ys parts.1 in
    cc

-- what is known of a row that was read
record Told {R : Type 0} (fields : List ℕ → R) (rule : R → Bool) (write : R → List ℕ) (bytes : List ℕ) (row : R) : Type 0 where
  same : fields bytes ≡ row
  keeps : rule (fields bytes) ≡ true
  written : write row ≡ bytes

test-told : {R : Type 0} (fields : List ℕ → R) (rule : R → Bool) (write : R → List ℕ) (bytes : List ℕ) (row : R) → (rule (fields bytes) && same_bytes (write (fields bytes)) bytes) ≡ true → fields bytes ≡ row → Told fields rule write bytes row
test-told fields rule write bytes row passes same = grind (arith, and_parts, same-bytes)

told : {R : Type 0} (fields : List ℕ → R) (rule : R → Bool) (write : R → List ℕ) (bytes : List ℕ) (row : R)
    → live (free_or bytes (live_if (rule (fields bytes)) (write (fields bytes)) bytes (fields bytes))) ≡ Some row → Told fields rule write bytes row
told {R} fields rule write bytes row is = grind (arith, cond_both, test-told, same_Some)

-- numbers of 64 bits
byte-below : (bytes : List ℕ) (k : ℕ) → All IsByte bytes → get_or bytes k 0 < 256
byte-below bytes k all = grind (arith, get_or_past, cases_lt)

number-word : (bytes : List ℕ) (at : ℕ) → All IsByte bytes → IsWord (number_at bytes at)
number-word bytes at all =
    let b : (i : ℕ) → i < 8 → get_or (bytes_at bytes at 8) i 0 < 256 =
    λ i within. subst IsByte (sym (get_or-take 8 (drop at bytes) i 0 within ∙ get_or-drop at bytes i 0)) (byte-below bytes (at + i) all) in
    let b0 = b 0 (omega arith) in
    let b1 = b 1 (omega arith) in
    let b2 = b 2 (omega arith) in
    let b3 = b 3 (omega arith) in
    let b4 = b 4 (omega arith) in
    let b5 = b 5 (omega arith) in
    let b6 = b 6 (omega arith) in
    let b7 = b 7 (omega arith) in
    omega arith

numbers-words : (bytes : List ℕ) (at n : ℕ) → All IsByte bytes → All IsWord (numbers_at bytes at n)
numbers-words bytes at zero all = All-nil IsWord
numbers-words bytes at (suc n) all = All-cons IsWord (number_at bytes at) (numbers_at bytes (at + 8) n) (number-word bytes at all) (numbers-words bytes (at + 8) n all)

-- accounts and counters
account-range : (bytes : List ℕ) (row : AccRow) → All IsByte bytes → live (account_read bytes) ≡ Some row → IsAccountRow row
account-range bytes row all is =
    subst IsAccountRow (told account_fields (λ _. true) account_bytes bytes row is).same
    (record { password = number-word bytes 8 all; balance = number-word bytes 16 all; owed = number-word bytes 24 all })

pub accounts-one_way : IsSpelledInOneWay (λ bytes. live (account_read bytes)) account_bytes IsAccountRow
accounts-one_way = record {
  written = λ row is. ap (λ (o : Read AccRow). live o) (account-back row is.password is.balance is.owed);
  same = λ bytes row is. (told account_fields (λ _. true) account_bytes bytes row is).written;
  range = account-range;
}

counters-told : (bytes : List ℕ) (row : Counters) → globals_read bytes ≡ Some row → Told globals_fields are_counters globals_bytes bytes row
counters-told bytes row is =
    cond_both (are_counters (globals_fields bytes) && same_bytes (globals_bytes (globals_fields bytes)) bytes) (Some (globals_fields bytes)) None (λ o. o ≡ Some row → Told globals_fields are_counters globals_bytes bytes row)
    (λ passes e. test-told globals_fields are_counters globals_bytes bytes row passes (same_Some _ _ e))
    (λ _ e. absurd (cc))
    is

pub counters-one_way : IsSpelledInOneWay globals_read globals_bytes IsCounters
counters-one_way = record {
  written = λ row is. globals-back row is;
  same = λ bytes row is. (counters-told bytes row is).written;
  range = λ bytes row _ is. let t = counters-told bytes row is in subst IsCounters t.same (counters-tell (globals_fields bytes) t.keeps);
}

-- objects
password-tells : (row : Pw) → IsWord row.password → is_password row ≡ true → IsPassword row
password-tells row word t = record { password = word; rights = record { some = grind (arith, nat_tests); six = grind (arith, nat_tests) }; begins = grind (arith, nat_tests); ends = grind (arith, nat_tests) }

passwords-range : (bytes : List ℕ) (k n : ℕ) → All IsByte bytes → list_all is_password (passwords_at bytes k n) ≡ true → All IsPassword (passwords_at bytes k n)
passwords-range bytes k zero all t = All-nil IsPassword
passwords-range bytes k (suc n) all t =
    let row : Pw = record { password = number_at bytes (80 + 8 * k); rights = slice_index bytes (336 + k); until = number_at bytes (496 + 8 * k) } in
    let parts = and_parts (is_password row) (list_all is_password (passwords_at bytes (k + 1) n)) t in
    All-cons IsPassword row (passwords_at bytes (k + 1) n) (password-tells row (number-word bytes (80 + 8 * k) all) parts.0) (passwords-range bytes (k + 1) n all parts.1)

extension-range : (bytes : List ℕ) → All IsByte bytes → option_map_or (λ (slot : Slot). not (slot.base == 0)) (extension_at bytes) true ≡ true → ForSome (extension_at bytes) IsExtension
extension-range bytes all t =
    let slot : Slot = record { base = number_at bytes 56; password = number_at bytes 64 } in
    cond_both (number_at bytes 48 == 1) (Some slot) None (λ (o : Option Slot). option_map_or (λ (slot : Slot). not (slot.base == 0)) o true ≡ true → ForSome o IsExtension)
    (λ _ some other is. subst IsExtension (same_Some _ _ is) (record { fields = record { base = number-word bytes 56 all; password = number-word bytes 64 all }; some = eqb-false _ _ (not-true _ some) }))
    (λ _ _ other is. absurd (cc))
    t

object-range : (bytes : List ℕ) → All IsByte bytes → is_object_row (object_fields bytes) ≡ true → IsObjectRow (object_fields bytes)
object-range bytes all t =
    let row : ObjectRow = object_fields bytes in
    let extended = and_parts _ _ t in
    let listed = and_parts _ _ extended.0 in
    let named = and_parts _ _ listed.0 in
    let paid = and_parts _ _ named.0 in
    let account = and_parts _ _ paid.1 in
    let passwords = and_parts _ _ named.1 in
    let entries = and_parts _ _ listed.1 in
    let few = and_parts _ _ entries.0 in
    record {
      place = place-tells row.base row.pages paid.0;
      account_some = leb-true _ _ account.0;
      account_few = leb-true _ _ account.1;
      few_passwords = leb-true _ _ passwords.0;
      passwords = passwords-range bytes 0 (min (number_at bytes 32) 33) all passwords.1;
      few_entries = leb-true _ _ few.0;
      entries = list_all-tells _ _ (λ address is. entry-tells row.base row.pages address is) row.entries few.1;
      distinct = distinct-tells row.entries entries.1;
      extension = extension-range bytes all extended.1;
    }

pub objects-one_way : IsSpelledInOneWay (λ bytes. live (object_read bytes)) object_bytes IsObjectRow
objects-one_way = record {
  written = λ row is. ap (λ (o : Read ObjectRow). live o) (object-written row is);
  same = λ bytes row is. (told object_fields is_object_row object_bytes bytes row is).written;
  range = λ bytes row all is. let t = told object_fields is_object_row object_bytes bytes row is in subst IsObjectRow t.same (object-range bytes all t.keeps);
}

-- threads
slots-range : (bytes : List ℕ) (at n : ℕ) → All IsByte bytes → All IsSlot (slots_at bytes at n)
slots-range bytes at zero all = All-nil IsSlot
slots-range bytes at (suc n) all = grind (arith, (slots-range bytes (at + 16) n all), All-cons, number-word)

frame-range : (bytes : List ℕ) (at : ℕ) → All IsByte bytes → is_call_frame (frame_at bytes at) ≡ true → IsCallFrame (frame_at bytes at)
frame-range bytes at all t = grind (arith, and_parts, number-word, eqb-true, leb-true, slots-range)

frames-range : (bytes : List ℕ) (at n : ℕ) → All IsByte bytes → list_all is_call_frame (frames_at bytes at n) ≡ true → All IsCallFrame (frames_at bytes at n)
frames-range bytes at zero all t = All-nil IsCallFrame
frames-range bytes at (suc n) all t =
    let parts = and_parts (is_call_frame (frame_at bytes at)) (list_all is_call_frame (frames_at bytes (at + 144) n)) t in
    All-cons IsCallFrame (frame_at bytes at) (frames_at bytes (at + 144) n) (frame-range bytes at all parts.0) (frames-range bytes (at + 144) n all parts.1)

thread-range : (bytes : List ℕ) → All IsByte bytes → is_thread_row (thread_fields bytes) ≡ true → IsThreadRow (thread_fields bytes)
thread-range bytes all t =
    let bottom = and_parts _ _ t in
    let framed = and_parts _ _ bottom.0 in
    let counted = and_parts _ _ framed.0 in
    let few = and_parts _ _ counted.1 in
    let first = and_parts _ _ counted.0 in
    record {
      birth = number-word bytes 8 all;
      creator = ltb-true _ _ first.0;
      pc = number-word bytes 24 all;
      aligned = eqb-true _ _ first.1;
      eight = refl;
      registers = numbers-words bytes 64 8 all;
      some_frame = leb-true _ _ few.0;
      few_frames = leb-true _ _ few.1;
      frames = frames-range bytes 128 (min (number_at bytes 40) 17) all framed.1;
      bottom = eqb-true _ _ bottom.1;
    }

pub threads-one_way : IsSpelledInOneWay (λ bytes. live (thread_read bytes)) thread_bytes IsThreadRow
threads-one_way = record {
  written = λ row is. ap (λ (o : Read ThreadRow). live o) (thread-back row is);
  same = λ bytes row is. (told thread_fields is_thread_row thread_bytes bytes row is).written;
  range = λ bytes row all is. let t = told thread_fields is_thread_row thread_bytes bytes row is in subst IsThreadRow t.same (thread-range bytes all t.keeps);
}
