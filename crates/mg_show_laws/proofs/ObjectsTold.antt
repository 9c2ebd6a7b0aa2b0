-- Accounts, and objects with their passwords, entries and extensions: the lines of each tell it, whatever stands behind.
use Rattle.mg_model.specs.{PasswordRows.IsPassword, declared.{accounts.AccRow.AccRow, slots.{Pw.Pw, Slot.Slot}}}
use Rattle.mg_show_laws.proofs.{Cutting.{AllHigh, IsAt, Same, Tells, four-apart, level, line-cut, list-level, list-told, nth}, Names.codes}
use Rattle.mg_show_laws.proofs.Names.{flat_map, decimal, ◌≡◌, ℕ, ◌+◌, ◌^◌, ◌<◌, List, [], ◌∷◌, ◌++◌, Option, Some, None, refl, ap, sym, ◌∙◌, arith}
use Rattle.mg_show_laws.proofs.Names.{append_assoc, All, decimal_injective, All-head, All-tail, All-weaker, hex_text, IsExtension, IsObjectRow}
use Rattle.mg_show_laws.proofs.Names.{IsSlot, IsWord, ObjectRow, hex-high, account_text, accounts_text, entry_text, extension_text, object_line}
use Rattle.mg_show_laws.proofs.{Names.{object_text, password_text, rights_text, slot_text, until_text}, ValuesTold.{decimal-high, hex-told}}
use Rattle.{mg_show_laws.proofs.ValuesTold.{rights-high, rights-told, until-high, until-told}, std.specs.Option.ForSome}

-- Accounts

pub record IsFunds (row : AccRow) : Type 0 where
  pub password : IsWord row.password
  pub balance : row.balance < 2 ^ 64
  pub owed : row.owed < 2 ^ 64

account_words : ℕ → AccRow → ℕ → List (List ℕ)
account_words n row pages = decimal n ∷ hex_text row.password ∷ decimal row.balance ∷ decimal row.owed ∷ decimal pages ∷ []

account-high : (n : ℕ) (row : AccRow) (pages : ℕ) → AllHigh (account_words n row pages)
unfolding account_words
account-high n row pages = grind (arith, decimal-high, hex-high)

-- for how many pages each pays is told too, and not needed
account-told : (n pages pages' : ℕ) (x y : AccRow) (r s : List ℕ) → IsFunds x → IsFunds y
    → account_text n x pages ++ r ≡ account_text n y pages' ++ s → Same x y r s
unfolding account_words
account-told n pages pages' x y r s ok ok' e =
    let high = account-high n x pages in
    let high' = account-high n y pages' in
    let here = line-cut (codes "account") (account_words n x pages) (account_words n y pages') r s high high' e in
    let password = hex-told x.password y.password ok.password ok'.password (nth 1 here.0) in
    let balance = decimal_injective x.balance y.balance ok.balance ok'.balance (nth 2 here.0) in
    let owed = decimal_injective x.owed y.owed ok.owed ok'.owed (nth 3 here.0) in
    (λ i. record { password = password i; balance = balance i; owed = owed i }, here.1)

pub accounts-told : (paid paid' : ℕ → ℕ) (n : ℕ) (xs ys : List AccRow) (r s : List ℕ) → All IsFunds xs → All IsFunds ys
    → level r < 8 → level s < 8 → accounts_text paid n xs ++ r ≡ accounts_text paid' n ys ++ s → Same xs ys r s
accounts-told paid paid' n [] [] r s all all' low low' e = (refl, e)
accounts-told paid paid' n [] (y ∷ ys) r s all all' low low' e = grind (arith, level)
accounts-told paid paid' n (x ∷ xs) [] r s all all' low low' e = grind (arith, level)
accounts-told paid paid' n (x ∷ xs) (y ∷ ys) r s all all' low low' e =
    let more = accounts_text paid (n + 1) xs in
    let more' = accounts_text paid' (n + 1) ys in
    let apart = sym (append_assoc (account_text n x (paid n)) more r) ∙ e ∙ append_assoc (account_text n y (paid' n)) more' s in
    let one = All-head IsFunds x xs all in
    let one' = All-head IsFunds y ys all' in
    let here = account-told n (paid n) (paid' n) x y (more ++ r) (more' ++ s) one one' apart in
    let rest = accounts-told paid paid' (n + 1) xs ys r s (All-tail IsFunds x xs all) (All-tail IsFunds y ys all') low low' here.1 in
    (cc (here.0, rest.0), rest.1)

-- Passwords, entries and extensions

password_words : Pw → List (List ℕ)
password_words pw = hex_text pw.password ∷ rights_text pw.rights ∷ until_text pw.until ∷ []

password-high : (pw : Pw) → AllHigh (password_words pw)
unfolding password_words
password-high pw = (hex-high pw.password, (rights-high pw.rights, (until-high pw.until, tt)))

password-at : IsAt 7 password_text
password-at pw r = refl

password-told : Tells IsPassword 8 password_text
unfolding password_words
password-told x y r s ok ok' low low' e =
    let here = line-cut (codes "password") (password_words x) (password_words y) r s (password-high x) (password-high y) e in
    let password = hex-told x.password y.password ok.password ok'.password (nth 0 here.0) in
    let rights = rights-told x.rights y.rights (omega (arith, ok.rights.six)) (omega (arith, ok'.rights.six)) (nth 1 here.0) in
    let until = until-told x.until y.until (omega (arith, ok.ends)) (omega (arith, ok'.ends)) (nth 2 here.0) in
    (λ i. record { password = password i; rights = rights i; until = until i }, here.1)

entry-at : IsAt 6 entry_text
entry-at address r = refl

entry-told : Tells IsWord 7 entry_text
entry-told x y r s ok ok' low low' e =
    let here = line-cut (codes "entry") (hex_text x ∷ []) (hex_text y ∷ []) r s (hex-high x, tt) (hex-high y, tt) e in
    (hex-told x y ok ok' (nth 0 here.0), here.1)

slot_words : Slot → List (List ℕ)
slot_words slot = hex_text slot.base ∷ hex_text slot.password ∷ []

slot-high : (slot : Slot) → AllHigh (slot_words slot)
unfolding slot_words
slot-high slot = (hex-high slot.base, (hex-high slot.password, tt))

pub slot-told : (head : List ℕ) (n : ℕ) → Tells IsSlot n (slot_text head)
unfolding slot_words
slot-told head n x y r s ok ok' low low' e =
    let here = line-cut head (slot_words x) (slot_words y) r s (slot-high x) (slot-high y) e in
    let base = hex-told x.base y.base ok.base ok'.base (nth 0 here.0) in
    let password = hex-told x.password y.password ok.password ok'.password (nth 1 here.0) in
    (λ i. record { base = base i; password = password i }, here.1)

extension-level : (slot : Option Slot) (r : List ℕ) → level r < 5 → level (extension_text slot ++ r) < 6
extension-level None r low = omega arith
extension-level (Some slot) r low = omega arith

extension-told : (x y : Option Slot) (r s : List ℕ) → ForSome x IsExtension → ForSome y IsExtension → level r < 5 → level s < 5
    → extension_text x ++ r ≡ extension_text y ++ s → Same x y r s
extension-told None None r s ok ok' low low' e = (refl, e)
extension-told None (Some y) r s ok ok' low low' e = grind (arith, level)
extension-told (Some x) None r s ok ok' low low' e = grind (arith, level)
extension-told (Some x) (Some y) r s ok ok' low low' e =
    let here = slot-told (codes "extension") 5 x y r s (ok x refl).fields (ok' y refl).fields low low' e in
    (ap (λ (slot : Slot). Some slot) here.0, here.1)

-- Objects

record Fits (row : ObjectRow) : Type 0 where
  base : row.base < 2 ^ 64
  pages : row.pages < 2 ^ 64
  account : row.account < 2 ^ 64
  entries : All IsWord row.entries

row-fits : (row : ObjectRow) → IsObjectRow row → Fits row
row-fits row ok = grind (arith, All-weaker)

own_words : ObjectRow → List (List ℕ)
own_words row = hex_text row.base ∷ decimal row.pages ∷ decimal row.account ∷ []

own-high : (row : ObjectRow) → AllHigh (own_words row)
unfolding own_words
own-high row = (hex-high row.base, (decimal-high row.pages, (decimal-high row.account, tt)))

-- what stands behind the passwords, and behind the entries

abbrev from_extension : ObjectRow → List ℕ → List ℕ
from_extension row r = extension_text row.extension ++ r

abbrev from_entries : ObjectRow → List ℕ → List ℕ
from_entries row r = flat_map entry_text row.entries ++ from_extension row r

object-apart : (row : ObjectRow) (r : List ℕ)
    → object_text row ++ r ≡ object_line row ++ (flat_map password_text row.passwords ++ from_entries row r)
object-apart row r = grind (arith, four-apart)

entries-level : (row : ObjectRow) (r : List ℕ) → level r < 5 → level (from_entries row r) < 7
entries-level row r low =
    let behind = extension-level row.extension r low in
    list-level 6 7 entry_text row.entries (from_extension row r) entry-at (omega arith) (omega arith)

pub object-at : IsAt 4 object_text
object-at row r = refl

pub object-told : Tells IsObjectRow 5 object_text
unfolding own_words
object-told x y r s ok ok' low low' e =
    let fits = row-fits x ok in
    let fits' = row-fits y ok' in
    let apart = sym (object-apart x r) ∙ e ∙ object-apart y s in
    let here = line-cut (codes "object") (own_words x) (own_words y) _ _ (own-high x) (own-high y) apart in
    let base = hex-told x.base y.base fits.base fits'.base (nth 0 here.0) in
    let pages = decimal_injective x.pages y.pages fits.pages fits'.pages (nth 1 here.0) in
    let account = decimal_injective x.account y.account fits.account fits'.account (nth 2 here.0) in
    let low_entries = entries-level x r low in
    let low_entries' = entries-level y s low' in
    let passwords = list-told IsPassword 7 password_text password-at password-told x.passwords y.passwords _ _ ok.passwords ok'.passwords
    low_entries low_entries' here.1 in
    let low_extension = extension-level x.extension r low in
    let low_extension' = extension-level y.extension s low' in
    let entries = list-told IsWord 6 entry_text entry-at entry-told x.entries y.entries _ _ fits.entries fits'.entries
    low_extension low_extension' passwords.1 in
    let extension = extension-told x.extension y.extension r s ok.extension ok'.extension low low' entries.1 in
    let row : x ≡ y = λ i. record {
      base = base i;
      pages = pages i;
      account = account i;
      passwords = passwords.0 i;
      entries = entries.0 i;
      extension = extension.0 i;
    } in
    (row, extension.1)
