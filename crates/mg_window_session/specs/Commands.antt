-- The words of a run with device windows.
use Rattle.std.specs.{List.list_any, Option.option_map_or, Prelude.{ℕ, ◌==◌, ◌&&◌, nat_le, Bool, false, true, List, []}}
use Rattle.std.specs.Prelude.{◌∷◌, ◌++◌, drop, if◌then◌else◌, length, take, Option, Some, None, codes}
use Rattle.{mg_commands.specs.Commands.before_colon, mg_model.specs.Words.{and_then, same_bytes}}
use Rattle.mg_window.specs.{Attached.Attached, Devices.Held}
use Rattle.mg_model.specs.Words as numbers

-- the number of the kind that a word names
abbrev pub kind_named : List ℕ → Option ℕ
kind_named word =
    if same_bytes word (codes "latch") then Some 1
    else if same_bytes word (codes "console") then Some 2
    else if same_bytes word (codes "counter") then Some 3
    else None

-- a kind and the base that a device of it is to be at
abbrev pub Asked : Type 0
Asked = ℕ × ℕ

-- `KIND:BASE`: the kind before the first colon, and the number after it
abbrev pub device_parts : List ℕ → List ℕ → Option Asked
device_parts kind [] = None
device_parts kind (colon ∷ base) = and_then (kind_named kind) (λ k. and_then (numbers.number_of base) (λ b. Some (k, b)))

abbrev pub device_named : List ℕ → Option Asked
device_named word = device_parts (take (before_colon word) word) (drop (before_colon word) word)

-- whether one of these is at the base
abbrev pub is_taken : ℕ → List Asked → Bool
is_taken base devices = list_any (λ (device : Asked). device.1 == base) devices

-- one device more, at a base that none of the others has
abbrev pub device_more : List Asked → Asked → Option (List Asked)
device_more devices device = if is_taken device.1 devices then None else Some (devices ++ device ∷ [])

-- these devices, and those that the words name, all at bases that differ
abbrev pub devices_from : List Asked → List (List ℕ) → Option (List Asked)
devices_from devices [] = Some devices
devices_from devices (word ∷ more) =
    and_then (device_named word) (λ device. and_then (device_more devices device) (λ those. devices_from those more))

-- up to 16 devices
abbrev pub devices_named : List (List ℕ) → Option (List Asked)
devices_named words = if nat_le (length words) 16 then devices_from [] words else None

abbrev pub dev_words : List ℕ → List (List ℕ) → Option (List Asked)
dev_words word devices = if same_bytes word (codes "dev") then devices_named devices else None

-- the devices that are named, if the words after the program's name are `VOLUME dev KIND:BASE ..`
abbrev pub dev_of : List (List ℕ) → Option (List Asked)
dev_of (volume ∷ word ∷ devices) = dev_words word devices
dev_of words = None

-- whether a window is the one named
abbrev pub is_that : ℕ × Held → Asked → Bool
is_that window asked = window.0 == asked.1 && window.1.kind == asked.0

-- whether the windows are those that are named, in their order
abbrev pub are_those : Attached → List Asked → Bool
are_those [] [] = true
are_those (window ∷ windows) (asked ∷ more) = is_that window asked && are_those windows more
are_those windows devices = false

-- whether the words are those of a run with these windows
abbrev pub asks_for : List (List ℕ) → Attached → Bool
asks_for words windows = option_map_or (λ devices. are_those windows devices) (dev_of words) false
