-- What the search for an access asks of the words of an object.
use Rattle.std.specs.{List.list_any, Option.option_map_or, Prelude.{ℕ, ◌≡◌, true, Contains, ◌+◌, ◌*◌, ◌==◌, ◌&&◌, Bool}}
use Rattle.std.specs.Prelude.{not, List, [], ◌∷◌, find, if◌then◌else◌, option_map, slice_index, Option, None, Some}
use Rattle.{mg_access.specs.declared.lists.Sought.Sought, mg_model.specs.Access.{allowed, at, based_at, covers}}
use Rattle.mg_model.specs.{Access.{pairs_under, holds, reaches}, Accesses.{Access, word_access}, ObjectCalls.is_aligned}
use Rattle.mg_model.specs.{Refused.first_refusal, State.{Object, ObjectRow, State}, Threads.is_thread}
use Rattle.mg_model.specs.declared.{replies.Refusal.{Refusal, TheVariants.{Align, Denied}}, rights.Right.Right}
use Rattle.{mg_model.specs.declared.slots.Slot.Slot, mg_volume.specs.{Held.VolumeHeld, Meaning.counters_in}}
use Rattle.mg_volume.specs.Meaning.{objects_in}

-- the object that is sought is the object that has this address, at the period of a volume
pub record IsSoughtAt (v : VolumeHeld) (address : ℕ) (sought : Sought) : Type 0 where
  pub found : find (λ (r : ObjectRow). covers r address) (objects_in v) ≡ Some sought.object
  pub period : sought.period ≡ (counters_in v).period

-- the words of the object with this base
abbrev pub words_based : List Object → ℕ → List ℕ
words_based objects base = option_map_or (λ (object : Object). object.words) (based_at objects base) []

-- the entry at place j of a capability list
abbrev pub entry_at : List ℕ → ℕ → ℕ × ℕ
entry_at words j = (slice_index words (2 + 2 * j), slice_index words (3 + 2 * j))

-- whether an entry is for the object that is sought, with a password that gives the right
abbrev pub opens : Sought → ℕ × ℕ → Bool
opens sought entry = entry.0 == sought.object.base && holds sought.period sought.object entry.1 sought.right

-- whether the capability list of a slot opens it
abbrev pub slot_opens : State → Sought → Slot → Bool
slot_opens state sought slot = list_any (λ entry. opens sought entry) (pairs_under state.objects sought.period slot)

-- one of these slots opens it, by the capability list with this base
pub record IsOpenedBy (state : State) (sought : Sought) (slots : List Slot) (via : ℕ) : Type 0 where
  pub slot : Slot
  pub among : Contains slots slot
  pub base : slot.base ≡ via
  pub opened : slot_opens state sought slot ≡ true

-- the row of the object that has the address, if these slots reach it with the right
abbrev pub reached_row : State → List Slot → ℕ → Right → Option ObjectRow
reached_row state slots address right =
    if reaches state.objects state.counters.period slots address right then option_map (λ (object : Object). object.row) (at state.objects address) else None

-- the same if a thread may reach it
abbrev pub allowed_row : State → ℕ → ℕ → Right → Option ObjectRow
allowed_row state t address right = if allowed state t address right then option_map (λ (object : Object). object.row) (at state.objects address) else None

-- the thread may reach the address with the right, and the object that has it has this base
pub record IsAllowedIn (state : State) (t address : ℕ) (right : Right) (base : ℕ) : Type 0 where
  pub row : ObjectRow
  pub found : Some row ≡ allowed_row state t address right
  pub is : base ≡ row.base

-- why a load or a store is refused, with the right that it wants
abbrev pub access_refusal : State → ℕ → ℕ → Right → Option Refusal
access_refusal state t a right = first_refusal ((not (is_aligned a), Align) ∷ (not (allowed state t a right), Denied) ∷ [])

-- the access of a load or a store, with the right that it wants; one of no thread makes none
abbrev pub word_accesses : State → ℕ → ℕ → Right → List Access
word_accesses state t a right = if is_thread state t then word_access t a right else []
