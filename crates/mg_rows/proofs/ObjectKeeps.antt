-- What a row keeps, as the test that computes.
use Rattle.mg_model.specs.{PasswordRows.IsPassword, Ranges.{IsEntryOf, IsExtension, IsObjectRow, IsPlace}, State.ObjectRow, Tests.all_distinct}
use Rattle.{mg_model.specs.{Tests.{is_entry_of, is_object_row, is_password, is_place}, declared.slots.{Pw.Pw, Slot.Slot}}, std.proofs.Common.◌≡◌}
use Rattle.std.proofs.Common.{◌≢◌, ⊎_elim, ◌==◌, ℕ, suc, true, false, not, [], ◌∷◌, List, All, AllPairs, get_or, Option, Some, None, IsTrue, refl, ap}
use Rattle.std.proofs.{Common.arith, lemmas.{Bool.{and_from, cases_Bool, eqb-true, le-leb, Decides.nat_tests}, List.Elements.{All-head, All-tail}}}
use Rattle.std.{proofs.lemmas.List.Folds.list_any_none, specs.{List.{list_all, list_any}, Option.{ForSome, option_map_or}}}

pub place-keeps : (base pages : ℕ) → IsPlace base pages → IsTrue (is_place base pages)
place-keeps base pages is = grind (arith, nat_tests)

password-keeps : (row : Pw) → IsPassword row → IsTrue (is_password row)
password-keeps row is = let rights = is.rights in let some = rights.some in let six = rights.six in let begins = is.begins in let ends = is.ends in grind (arith, nat_tests)

pub passwords-keep : (rows : List Pw) → All IsPassword rows → list_all is_password rows ≡ true
passwords-keep [] all = refl
passwords-keep (row ∷ rows) all =
    grind (arith, (passwords-keep rows (All-tail IsPassword row rows all)), and_from, password-keeps, All-head, All-tail)

entry-keeps : (base pages address : ℕ) → IsEntryOf base pages address → IsTrue (is_entry_of base pages address)
entry-keeps base pages address is = grind (arith, nat_tests)

pub entries-keep : (base pages : ℕ) (entries : List ℕ) → All (IsEntryOf base pages) entries → list_all (is_entry_of base pages) entries ≡ true
entries-keep base pages [] all = refl
entries-keep base pages (a ∷ entries) all =
    grind (arith, (entries-keep base pages entries (All-tail (IsEntryOf base pages) a entries all)), and_from, entry-keeps, All-head, All-tail)

other : (x y : ℕ) → x ≢ y → (x == y) ≡ false
other x y differ = ⊎_elim (λ (t : (x == y) ≡ true). absurd (differ (eqb-true x y t))) (λ (f : (x == y) ≡ false). f) (cases_Bool (x == y))

distinct-keep : (xs : List ℕ) → AllPairs (λ x y. x ≢ y) xs → all_distinct xs ≡ true
distinct-keep [] pairs = refl
distinct-keep (x ∷ xs) pairs =
    and_from (not (list_any (λ y. x == y) xs)) (all_distinct xs)
    (ap not (list_any_none (λ y. x == y) xs (λ j d within. other x (get_or xs j d) (pairs 0 (suc j) d (omega arith) (omega arith)))))
    (distinct-keep xs (λ i j d lt within. pairs (suc i) (suc j) d (omega arith) (omega arith)))

extension-keeps : (ext : Option Slot) → ForSome ext IsExtension → option_map_or (λ (slot : Slot). not (slot.base == 0)) ext true ≡ true
extension-keeps None is = refl
extension-keeps (Some slot) is = let here = is slot refl in ap not (other slot.base 0 here.some)

-- a row that keeps what `Ranges` says passes the test
pub object-keeps : (row : ObjectRow) → IsObjectRow row → is_object_row row ≡ true
object-keeps row is = grind (arith, and_from, le-leb, passwords-keep, entries-keep, place-keeps, distinct-keep, extension-keeps)
