-- Devices that are attached, each at the base of an object.
use Rattle.std.specs.{List.{filter, list_any}, Prelude.{◌==◌, ◌&&◌, ◌∷◌, [], ℕ, Bool, List, Option, map, not, position}}
use Rattle.std.specs.Prelude.{slice_index_or, slice_set, true}
use Rattle.mg_window.specs.Devices.{Held}

-- Devices of a type, each with its base, in the order in which they were attached.
abbrev pub Listed : Type 0 → Type 0
Listed D = List (ℕ × D)

-- The same, if all that is known of a device is its kind, its room and its tape.
abbrev pub Attached : Type 0
Attached = Listed Held

-- what is known of the devices of a list
abbrev pub seen : {D : Type 0} → (D → Held) → Listed D → Attached
seen {D} held windows = map (λ (window : ℕ × D). (window.0, held window.1)) windows

-- whether a device is at this base
abbrev pub is_at : {D : Type 0} → ℕ → ℕ × D → Bool
is_at base window = window.0 == base

abbrev pub is_there : {D : Type 0} → Listed D → ℕ → Bool
is_there windows base = list_any (is_at base) windows

-- the place of the device at a base
abbrev pub place_at : {D : Type 0} → Listed D → ℕ → Option ℕ
place_at windows base = position (is_at base) windows

-- whether no base is there twice
abbrev pub are_apart : {D : Type 0} → Listed D → Bool
are_apart [] = true
are_apart ((base, device) ∷ windows) = not (is_there windows base) && are_apart windows

-- the base and the device at a place; past the end a device of kind 0 with no room
abbrev pub window_at : Attached → ℕ → ℕ × Held
window_at windows i = slice_index_or windows i (0, record { kind = 0; room = 0; tape = [] })

abbrev pub base_at : Attached → ℕ → ℕ
base_at windows i = (window_at windows i).0

abbrev pub device_at : Attached → ℕ → Held
device_at windows i = (window_at windows i).1

-- another device in place of one
abbrev pub with_device : Attached → ℕ → Held → Attached
with_device windows i device = slice_set windows i (base_at windows i, device)

-- those at other bases
abbrev pub without : {D : Type 0} → Listed D → ℕ → Listed D
without {D} windows base = filter (λ (window : ℕ × D). not (window.0 == base)) windows
