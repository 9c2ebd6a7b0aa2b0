-- An object's fields are read back from its bytes.
use Rattle.mg_model.specs.{Abbreviations.{extension_at, live_if, object_head, passwords_at}, Bytes.{are_zeros, number_at, numbers_at, padded_to}}
use Rattle.mg_model.specs.{Bytes.words_bytes, BytesLemmas.{length-padded_to, length-words_bytes, numbers_at-behind, numbers_at-first}}
use Rattle.mg_model.specs.{PasswordRows.IsPassword, Ranges.{IsEntryOf, IsExtension, IsObjectRow, IsPlace, IsWord}, RowLemmas.are_zeros-replicate}
use Rattle.mg_model.specs.{RowLemmas.{object-live, read-free}, Spelling.{object_bytes, object_fields, object_read}, State.ObjectRow}
use Rattle.{mg_model.specs.{Tests.is_object_row, declared.slots.{Pw.Pw, Slot.Slot}}, mg_rows.proofs.ObjectKeeps.object-keeps}
use Rattle.{mg_rows.proofs.ObjectRows.length-words, std.proofs.Common.{◌≡◌, true, ℕ, ◌+◌, ◌-◌, ◌*◌, ◌≤◌, [], ◌∷◌, ◌++◌, List, All, Option, Some}}
use Rattle.std.proofs.Common.{None, if◌then◌else◌, is_some, length, map, replicate, drop, get_or, min, slice_index, refl, sym, ap, ◌∙◌, arith}
use Rattle.std.proofs.{Common.append_assoc, lemmas.List.{drop-drop, drop_at, get_or-drop, length-map, Elements.{All-cons, All-map, All-nil}}}
use Rattle.std.{proofs.lemmas.List.Elements.All-weaker, specs.Option.{ForSome, option_map_or}}

-- numbers that are filled up are read from the place where they begin
numbers-padded : (before behind ns : List ℕ) (at n : ℕ) → length before ≡ at → All IsWord ns → numbers_at (before ++ (padded_to n (words_bytes ns) ++ behind)) (at + 0) (length ns) ≡ ns
numbers-padded before behind ns at n long fit =
    let zeros = replicate (n - length (words_bytes ns)) 0 in
    numbers_at-behind before (padded_to n (words_bytes ns) ++ behind) at 0 (length ns) long
    ∙ ap (λ bytes. numbers_at bytes 0 (length ns)) (append_assoc (words_bytes ns) zeros behind)
    ∙ numbers_at-first ns (zeros ++ behind) fit

abbrev pw_of : ℕ → ℕ → ℕ → Pw
pw_of password rights until = record { password = password; rights = rights; until = until }

pw-same : (p r u : ℕ) (pw : Pw) → p ≡ pw.password → r ≡ pw.rights → u ≡ pw.until → pw_of p r u ≡ pw
pw-same p r u pw e1 e2 e3 = ap (λ v. pw_of v r u) e1 ∙ ap (λ v. pw_of pw.password v u) e2 ∙ ap (λ v. pw_of pw.password pw.rights v) e3

abbrev slot_of : ℕ → ℕ → Slot
slot_of base password = record { base = base; password = password }

slot-same : (b p : ℕ) (slot : Slot) → b ≡ slot.base → p ≡ slot.password → slot_of b p ≡ slot
slot-same b p slot e1 e2 = ap (λ v. slot_of v p) e1 ∙ ap (λ v. slot_of slot.base v) e2

abbrev object_of : ℕ → ℕ → ℕ → List Pw → List ℕ → Option Slot → ObjectRow
object_of base pages account passwords entries ext = record { base = base; pages = pages; account = account; passwords = passwords; entries = entries; extension = ext }

object-same : (base pages account : ℕ) (passwords : List Pw) (entries : List ℕ) (ext : Option Slot) (row : ObjectRow)
    → base ≡ row.base → pages ≡ row.pages → account ≡ row.account → passwords ≡ row.passwords → entries ≡ row.entries → ext ≡ row.extension
    → object_of base pages account passwords entries ext ≡ row
object-same base pages account passwords entries ext row e1 e2 e3 e4 e5 e6 = grind arith

-- the columns of the password rows give the rows
pub rows-read : (bytes rest : List ℕ) (k : ℕ) (rows : List Pw)
    → numbers_at bytes (80 + 8 * k) (length rows) ≡ map (λ (pw : Pw). pw.password) rows
    → drop (336 + k) bytes ≡ map (λ (pw : Pw). pw.rights) rows ++ rest
    → numbers_at bytes (496 + 8 * k) (length rows) ≡ map (λ (pw : Pw). pw.until) rows
    → passwords_at bytes k (length rows) ≡ rows
rows-read bytes rest k [] e1 e2 e3 = refl
rows-read bytes rest k (row ∷ rows) e1 e2 e3 =
    let next_1 : 80 + 8 * (k + 1) ≡ 80 + 8 * k + 8 = omega arith in
    let next_3 : 496 + 8 * (k + 1) ≡ 496 + 8 * k + 8 = omega arith in
    let next_2 : 336 + (k + 1) ≡ 336 + k + 1 = omega arith in
    let password : number_at bytes (80 + 8 * k) ≡ row.password = cc in
    let until : number_at bytes (496 + 8 * k) ≡ row.until = cc in
    let passwords : numbers_at bytes (80 + 8 * k + 8) (length rows) ≡ map (λ (pw : Pw). pw.password) rows = cc in
    let untils : numbers_at bytes (496 + 8 * k + 8) (length rows) ≡ map (λ (pw : Pw). pw.until) rows = cc in
    let here : 336 + k + 0 ≡ 336 + k = omega arith in
    let rights : slice_index bytes (336 + k) ≡ row.rights = ap (λ n. get_or bytes n 0) (sym here) ∙ sym (get_or-drop (336 + k) bytes 0 0) ∙ ap (λ (v : List ℕ). get_or v 0 0) e2 in
    let behind : drop (336 + (k + 1)) bytes ≡ map (λ (pw : Pw). pw.rights) rows ++ rest =
    ap (λ n. drop n bytes) next_2 ∙ sym (drop-drop 1 (336 + k) bytes) ∙ ap (drop 1) e2 in
    let others : passwords_at bytes (k + 1) (length rows) ≡ rows =
    rows-read bytes rest (k + 1) rows (ap (λ o. numbers_at bytes o (length rows)) next_1 ∙ passwords) behind (ap (λ o. numbers_at bytes o (length rows)) next_3 ∙ untils) in
    ap (λ (v : List Pw). record { password = number_at bytes (80 + 8 * k); rights = slice_index bytes (336 + k); until = number_at bytes (496 + 8 * k) } ∷ v) others
    ∙ ap (λ (v : Pw). v ∷ rows) (pw-same (number_at bytes (80 + 8 * k)) (slice_index bytes (336 + k)) (number_at bytes (496 + 8 * k)) row password rights until)

-- the place from which each part of an object's bytes is read
passwords-part : (a ns rest : List ℕ) → length a ≡ 80 → All IsWord ns → numbers_at (a ++ (padded_to 256 (words_bytes ns) ++ rest)) 80 (length ns) ≡ ns
passwords-part a ns rest long fit = numbers-padded a rest ns 80 256 long fit

rights-part : (a b xs rest : List ℕ) → length a ≡ 80 → length b ≡ 256 → drop 336 (a ++ (b ++ (padded_to 32 xs ++ rest))) ≡ xs ++ (replicate (32 - length xs) 0 ++ rest)
rights-part a b xs rest long_a long_b =
    let whole = padded_to 32 xs ++ rest in
    sym (drop-drop 256 80 (a ++ (b ++ whole)))
    ∙ ap (drop 256) (drop_at a (b ++ whole) 80 long_a)
    ∙ drop_at b whole 256 long_b
    ∙ append_assoc xs (replicate (32 - length xs) 0) rest

entries-part : (a b c ns rest : List ℕ) → length a ≡ 80 → length b ≡ 256 → length c ≡ 32 → All IsWord ns
    → numbers_at (a ++ (b ++ (c ++ (padded_to 128 (words_bytes ns) ++ rest)))) 368 (length ns) ≡ ns
entries-part a b c ns rest long_a long_b long_c fit =
    let whole = padded_to 128 (words_bytes ns) ++ rest in
    numbers_at-behind a (b ++ (c ++ whole)) 80 288 (length ns) long_a
    ∙ numbers_at-behind b (c ++ whole) 256 32 (length ns) long_b
    ∙ numbers-padded c rest ns 32 128 long_c fit

untils-part : (a b c d ns rest : List ℕ) → length a ≡ 80 → length b ≡ 256 → length c ≡ 32 → length d ≡ 128 → All IsWord ns
    → numbers_at (a ++ (b ++ (c ++ (d ++ (padded_to 256 (words_bytes ns) ++ rest))))) 496 (length ns) ≡ ns
untils-part a b c d ns rest long_a long_b long_c long_d fit =
    let whole = padded_to 256 (words_bytes ns) ++ rest in
    numbers_at-behind a (b ++ (c ++ (d ++ whole))) 80 416 (length ns) long_a
    ∙ numbers_at-behind b (c ++ (d ++ whole)) 256 160 (length ns) long_b
    ∙ numbers_at-behind c (d ++ whole) 32 128 (length ns) long_c
    ∙ numbers-padded d rest ns 128 256 long_d fit

extension-back : (bytes : List ℕ) (ext : Option Slot) → number_at bytes 48 ≡ (if is_some ext then 1 else 0)
    → number_at bytes 56 ≡ option_map_or (λ (slot : Slot). slot.base) ext 0 → number_at bytes 64 ≡ option_map_or (λ (slot : Slot). slot.password) ext 0 → extension_at bytes ≡ ext
extension-back bytes None flag base password = grind arith
extension-back bytes (Some slot) flag base password = grind (arith, slot-same)

record AreHead (bytes : List ℕ) (row : ObjectRow) : Type 0 where
  base : number_at bytes 8 ≡ row.base
  pages : number_at bytes 16 ≡ row.pages
  account : number_at bytes 24 ≡ row.account
  passwords : number_at bytes 32 ≡ length row.passwords
  entries : number_at bytes 40 ≡ length row.entries
  flag : number_at bytes 48 ≡ (if is_some row.extension then 1 else 0)
  ext_base : number_at bytes 56 ≡ option_map_or (λ (slot : Slot). slot.base) row.extension 0
  ext_password : number_at bytes 64 ≡ option_map_or (λ (slot : Slot). slot.password) row.extension 0

object-of : (bytes : List ℕ) (row : ObjectRow) → AreHead bytes row → length row.passwords ≤ 32 → length row.entries ≤ 16
    → passwords_at bytes 0 (length row.passwords) ≡ row.passwords → numbers_at bytes 368 (length row.entries) ≡ row.entries → object_fields bytes ≡ row
object-of bytes row head few_passwords few_entries passwords entries =
    let count_1 : min (number_at bytes 32) 33 ≡ length row.passwords = ap (λ n. min n 33) head.passwords ∙ omega arith in
    let count_2 : min (number_at bytes 40) 17 ≡ length row.entries = ap (λ n. min n 17) head.entries ∙ omega arith in
    let rows : passwords_at bytes 0 (min (number_at bytes 32) 33) ≡ row.passwords = ap (passwords_at bytes 0) count_1 ∙ passwords in
    let each : numbers_at bytes 368 (min (number_at bytes 40) 17) ≡ row.entries = ap (numbers_at bytes 368) count_2 ∙ entries in
    let ext : extension_at bytes ≡ row.extension = extension-back bytes row.extension head.flag head.ext_base head.ext_password in
    object-same (number_at bytes 8) (number_at bytes 16) (number_at bytes 24) (passwords_at bytes 0 (min (number_at bytes 32) 33)) (numbers_at bytes 368 (min (number_at bytes 40) 17)) (extension_at bytes) row
    head.base head.pages head.account rows each ext

record AreWords (ext : Option Slot) : Type 0 where
  flag : IsWord (if is_some ext then 1 else 0)
  base : IsWord (option_map_or (λ (slot : Slot). slot.base) ext 0)
  password : IsWord (option_map_or (λ (slot : Slot). slot.password) ext 0)

extension-words : (ext : Option Slot) → ForSome ext IsExtension → AreWords ext
extension-words None is = record { flag = omega arith; base = omega arith; password = omega arith }
extension-words (Some slot) is = let here = is slot refl in record { flag = omega arith; base = here.fields.base; password = here.fields.password }

abbrev head_words : ObjectRow → List ℕ
head_words row =
    1 ∷ row.base ∷ row.pages ∷ row.account ∷ length row.passwords ∷ length row.entries
    ∷ (if is_some row.extension then 1 else 0)
    ∷ option_map_or (λ (slot : Slot). slot.base) row.extension 0
    ∷ option_map_or (λ (slot : Slot). slot.password) row.extension 0
    ∷ []

place-word : (base pages : ℕ) → IsPlace base pages → IsWord base
place-word base pages is = omega arith

nine : (a b c d e f g h i : ℕ) → IsWord a → IsWord b → IsWord c → IsWord d → IsWord e → IsWord f → IsWord g → IsWord h → IsWord i → All IsWord (a ∷ b ∷ c ∷ d ∷ e ∷ f ∷ g ∷ h ∷ i ∷ [])
nine a b c d e f g h i ka kb kc kd ke kf kg kh ki = grind (arith, All-cons, All-nil)

head-words : (row : ObjectRow) → IsObjectRow row → All IsWord (head_words row)
head-words row is = grind (arith, extension-words, nine, place-word)

head-read : (row : ObjectRow) (rest : List ℕ) → IsObjectRow row → AreHead (padded_to 80 (object_head row) ++ rest) row
head-read row rest is = grind (arith, numbers-padded, head-words)

long-words : {X : Type 0} (f : X → ℕ) (xs : List X) (n most : ℕ) → length xs ≤ n → 8 * n ≤ most → length (padded_to most (words_bytes (map f xs))) ≡ most
long-words f xs n most few room = length-padded_to most (words_bytes (map f xs)) (let e = length-words f xs in omega arith)

entry-word : (base pages address : ℕ) → IsPlace base pages → IsEntryOf base pages address → IsWord address
entry-word base pages address place is = omega arith

pub object-back : (row : ObjectRow) → IsObjectRow row → object_fields (object_bytes row) ≡ row
object-back row is =
    let a = padded_to 80 (object_head row) in
    let b = padded_to 256 (words_bytes (map (λ (pw : Pw). pw.password) row.passwords)) in
    let c = padded_to 32 (map (λ (pw : Pw). pw.rights) row.passwords) in
    let d = padded_to 128 (words_bytes row.entries) in
    let e = padded_to 256 (words_bytes (map (λ (pw : Pw). pw.until) row.passwords)) in
    let z : List ℕ = replicate 272 0 in
    let long_a : length a ≡ 80 = length-padded_to 80 (object_head row) (let e = length-words_bytes (head_words row) in omega arith) in
    let long_b : length b ≡ 256 = long-words (λ (pw : Pw). pw.password) row.passwords 32 256 is.few_passwords (omega arith) in
    let long_c : length c ≡ 32 = length-padded_to 32 (map (λ (pw : Pw). pw.rights) row.passwords) (let e = length-map row.passwords (λ (pw : Pw). pw.rights) in omega arith) in
    let long_d : length d ≡ 128 = length-padded_to 128 (words_bytes row.entries) (let e = length-words_bytes row.entries in omega arith) in
    let fit_b : All IsWord (map (λ (pw : Pw). pw.password) row.passwords) =
    All-map IsWord (λ (pw : Pw). pw.password) row.passwords (All-weaker IsPassword (λ (pw : Pw). IsWord pw.password) (λ pw keeps. keeps.password) row.passwords is.passwords) in
    let fit_d : All IsWord row.entries = All-weaker (IsEntryOf row.base row.pages) IsWord (λ address keeps. entry-word row.base row.pages address is.place keeps) row.entries is.entries in
    let fit_e : All IsWord (map (λ (pw : Pw). pw.until) row.passwords) =
    All-map IsWord (λ (pw : Pw). pw.until) row.passwords (All-weaker IsPassword (λ (pw : Pw). IsWord pw.until) (λ pw keeps. let ends = keeps.ends in omega arith) row.passwords is.passwords) in
    let passwords = passwords-part a (map (λ (pw : Pw). pw.password) row.passwords) (c ++ (d ++ (e ++ z))) long_a fit_b in
    let rights = rights-part a b (map (λ (pw : Pw). pw.rights) row.passwords) (d ++ (e ++ z)) long_a long_b in
    let untils = untils-part a b c d (map (λ (pw : Pw). pw.until) row.passwords) z long_a long_b long_c long_d fit_e in
    let rest = replicate (32 - length (map (λ (pw : Pw). pw.rights) row.passwords)) 0 ++ (d ++ (e ++ z)) in
    let rows = rows-read (object_bytes row) rest 0 row.passwords
    (ap (numbers_at (object_bytes row) 80) (sym (length-map row.passwords (λ (pw : Pw). pw.password))) ∙ passwords)
    rights
    (ap (numbers_at (object_bytes row) 496) (sym (length-map row.passwords (λ (pw : Pw). pw.until))) ∙ untils) in
    object-of (object_bytes row) row (head-read row (b ++ (c ++ (d ++ (e ++ z)))) is) is.few_passwords is.few_entries rows (entries-part a b c row.entries (e ++ z) long_a long_b long_c fit_d)

pub object-written : (row : ObjectRow) → IsObjectRow row → object_read (object_bytes row) ≡ Some (Some row)
object-written row is = object-live (object_bytes row) row refl (object-back row is) (object-keeps row is) refl

pub object-free : (bytes : List ℕ) → are_zeros bytes ≡ true → object_read bytes ≡ Some None
object-free bytes are = read-free bytes (live_if (is_object_row (object_fields bytes)) (object_bytes (object_fields bytes)) bytes (object_fields bytes)) are

pub zeros-free : object_read (replicate 1024 0) ≡ Some None
zeros-free = object-free (replicate 1024 0) (are_zeros-replicate 1024)
