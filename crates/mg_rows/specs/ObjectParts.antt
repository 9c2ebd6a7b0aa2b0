-- The parts of an object in its bytes, and the rule of each.
use Rattle.std.specs.{List.list_all, Option.option_map_or, Prelude.{ℕ, ◌+◌, ◌*◌, ◌==◌, ◌&&◌, nat_le, Bool, true, not}}
use Rattle.std.specs.Prelude.{min, List, [], if◌then◌else◌, length, slice_index, Option, Some, None}
use Rattle.mg_model.specs.{Abbreviations.passwords_at, Bytes.{number_at, numbers_at}, State.ObjectRow}
use Rattle.mg_model.specs.{Tests.{all_distinct, is_entry_of, is_password, is_place}, declared.slots.{Pw.Pw, Slot.Slot}}

-- a value, if it passes a test
abbrev pub some_if : {X : Type 0} → Bool → X → Option X
some_if test x = if test then Some x else None

-- its place, and the account that pays for it
abbrev pub placed_row : List ℕ → ObjectRow
placed_row bytes = record { base = number_at bytes 8; pages = number_at bytes 16; account = number_at bytes 24; passwords = []; entries = []; extension = None }

abbrev pub is_placed : ObjectRow → Bool
is_placed row = is_place row.base row.pages && (nat_le 1 row.account && nat_le row.account 1024)

-- its password rows
abbrev pub password_at : List ℕ → ℕ → Pw
password_at bytes k = record { password = number_at bytes (80 + 8 * k); rights = slice_index bytes (336 + k); until = number_at bytes (496 + 8 * k) }

abbrev pub passwords_in : List ℕ → List Pw
passwords_in bytes = passwords_at bytes 0 (min (number_at bytes 32) 33)

abbrev pub are_passwords : List Pw → Bool
are_passwords rows = nat_le (length rows) 32 && list_all is_password rows

-- its entries
abbrev pub entries_in : List ℕ → List ℕ
entries_in bytes = numbers_at bytes 368 (min (number_at bytes 40) 17)

abbrev pub are_entries : ℕ → ℕ → List ℕ → Bool
are_entries base pages entries = nat_le (length entries) 16 && list_all (is_entry_of base pages) entries && all_distinct entries

-- its extension
abbrev pub is_extension : Option Slot → Bool
is_extension ext = option_map_or (λ (slot : Slot). not (slot.base == 0)) ext true
