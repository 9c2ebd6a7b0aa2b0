-- A reader's answer as what the definitions read.
use Rattle.std.specs.{Option.option_map_or, Prelude.{ℕ, List, [], ◌∷◌, if◌then◌else◌, is_some, Option, Some, None}}
use Rattle.{mg_model.specs.{Spelling.Read, declared.slots.Slot.Slot}, mg_rows.specs.declared.spelled.Spelled.Spelled}
use Rattle.mg_rows.specs.declared.spelled.Spelled.TheVariants as spelled

abbrev pub row_in : {T : Type 0} → Spelled T → Option T
row_in spelled.Free = None
row_in (spelled.Row row) = Some row

abbrev pub as_read : {T : Type 0} → Option (Spelled T) → Read T
as_read None = None
as_read (Some answer) = Some (row_in answer)

-- an extension in an object's row: whether there is one, its base and its password
abbrev pub extension_words : Option Slot → List ℕ
extension_words ext = (if is_some ext then 1 else 0) ∷ option_map_or (λ (slot : Slot). slot.base) ext 0 ∷ option_map_or (λ (slot : Slot). slot.password) ext 0 ∷ []
