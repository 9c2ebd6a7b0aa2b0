-- How rows are spelled in bytes. Each row is spelled in one way alone, so bytes are read as a row if writing that row gives
-- them back. That bytes spell a row exactly when a row in its ranges has them is a law (`rows_are_spelled_in_one_way` in
-- `mg_rows`). So the ways to write a row are the whole meaning; the ways to read it are there to be computed.
use Rattle.std.specs.{List.range_with_len, Option.option_map_or, Prelude.{ℕ, ◌+◌, ◌-◌, ◌*◌, ◌==◌, ◌&&◌, nat_lt, Bool}}
use Rattle.std.specs.Prelude.{true, not, min, List, [], ◌∷◌, ◌++◌, flat_map, if◌then◌else◌, is_some, length, map}
use Rattle.std.specs.Prelude.{replicate, slice_index, Option, Some, None}
use Rattle.mg_model.specs.Bytes.{are_zeros, bytes_at, number_at, numbers_at, padded_to, words_bytes, offsets_by}
use Rattle.mg_model.specs.{Layout.{block_size, magic}, Settings.{Settings, within_limits}, State.{CallFrame, Counters}}
use Rattle.mg_model.specs.{State.{ObjectRow, ThreadRow, state_row}, Tariff.is_tariff, Tests.are_counters}
use Rattle.mg_model.specs.{Tests.{is_object_row, is_thread_row}, Words.same_bytes, declared.accounts.AccRow.AccRow}
use Rattle.mg_model.specs.declared.layout.TheConstants.{ACCOUNT_SIZE as account_size, VERSION as version}
use Rattle.mg_model.specs.declared.limits.TheConstants.{ENTRY_POINT_LIMIT as entry_point_limit}
use Rattle.mg_model.specs.declared.limits.TheConstants.{FRAME_LIMIT as frame_limit, PASSWORD_LIMIT as password_limit}
use Rattle.mg_model.specs.declared.{limits.TheConstants.SLOT_LIMIT as slot_limit, slots.{Pw.Pw, Slot.Slot}}
use Rattle.mg_model.specs.declared.threads.ThrState.{ThrState, TheVariants.{Ready, Stopped, Faulted}}
use Rattle.mg_model.specs.declared.threads.Fault.TheVariants as fault

-- What some bytes spell of a row: nothing, that the row is free, or a live row.
abbrev pub Read : Type 0 → Type 0
Read R = Option (Option R)

abbrev pub free_row : {R : Type 0} → Read R
free_row = Some None

abbrev pub live_row : {R : Type 0} → R → Read R
live_row row = Some (Some row)

-- All zeros spell a free row. Other bytes spell the row that has these fields, if it keeps its rule and these are its bytes.
abbrev pub row_read : {R : Type 0} → (R → Bool) → (R → List ℕ) → (List ℕ → R) → List ℕ → Read R
row_read rule spell fields bytes =
    if are_zeros bytes then free_row
    else if rule (fields bytes) && same_bytes (spell (fields bytes)) bytes then live_row (fields bytes)
    else None

-- An account. Each row lists its words in the order of their places. The line that reads a word names the byte at which the
-- word begins.
abbrev pub account_bytes : AccRow → List ℕ
account_bytes row = padded_to account_size (words_bytes (1 ∷ row.password ∷ row.balance ∷ row.owed ∷ []))

abbrev pub account_fields : List ℕ → AccRow
account_fields bytes = record { password = number_at bytes 8; balance = number_at bytes 16; owed = number_at bytes 24 }

abbrev pub account_read : List ℕ → Read AccRow
account_read bytes = row_read (λ _. true) account_bytes account_fields bytes

-- An object: nine words, the last three of them its extension, and from byte 80 on four columns with room for 32 passwords, their
-- rights in a byte each, 16 entries and 32 untils.
abbrev pub object_bytes : ObjectRow → List ℕ
object_bytes row =
    padded_to 80 (words_bytes (
    1 ∷ row.base ∷ row.pages ∷ row.account ∷ length row.passwords ∷ length row.entries
    ∷ (if is_some row.extension then 1 else 0)
    ∷ option_map_or (λ (slot : Slot). slot.base) row.extension 0
    ∷ option_map_or (λ (slot : Slot). slot.password) row.extension 0
    ∷ []))
    ++ (padded_to 256 (words_bytes (map (λ (pw : Pw). pw.password) row.passwords))
    ++ (padded_to 32 (map (λ (pw : Pw). pw.rights) row.passwords)
    ++ (padded_to 128 (words_bytes row.entries)
    ++ (padded_to 256 (words_bytes (map (λ (pw : Pw). pw.until) row.passwords))
    ++ replicate 272 0))))

-- the password row at a place of its columns
abbrev pub password_at : List ℕ → ℕ → Pw
password_at bytes j =
    record { password = number_at bytes (80 + 8 * j); rights = slice_index bytes (336 + j); until = number_at bytes (496 + 8 * j) }

-- The fields that these bytes have. If a count is above its limit, one row more than the limit is read: `is_object_row`
-- refuses that.
abbrev pub object_fields : List ℕ → ObjectRow
object_fields bytes = record {
  base = number_at bytes 8;
  pages = number_at bytes 16;
  account = number_at bytes 24;
  passwords = map (λ j. password_at bytes j) (range_with_len 0 (min (number_at bytes 32) (password_limit + 1)));
  entries = numbers_at bytes 368 (min (number_at bytes 40) (entry_point_limit + 1));
  extension = if number_at bytes 48 == 1 then Some record { base = number_at bytes 56; password = number_at bytes 64 } else None;
}

abbrev pub object_read : List ℕ → Read ObjectRow
object_read bytes = row_read is_object_row object_bytes object_fields bytes

-- a thread: a block, with six words, its registers from byte 64 on, and its frames from byte 128 on
abbrev pub state_numbered : ℕ → ThrState
state_numbered n =
    if n == 0 then Ready
    else if n == 1 then Stopped
    else if n == 2 then Faulted fault.Align
    else if n == 3 then Faulted fault.Denied
    else Faulted fault.Opcode

-- a frame of a thread: the address that it returns to, how many slots it has, and the slots, each a base and a password
abbrev pub frame_bytes : CallFrame → List ℕ
frame_bytes frame =
    padded_to 144
    (words_bytes (frame.back ∷ length frame.slots ∷ flat_map {A = ℕ} (λ (slot : Slot). slot.base ∷ slot.password ∷ []) frame.slots))

abbrev pub thread_bytes : ThreadRow → List ℕ
thread_bytes row =
    padded_to 64 (words_bytes (1 ∷ row.birth ∷ row.creator ∷ row.pc ∷ (state_row row.state).0 ∷ length row.frames ∷ []))
    ++ padded_to (block_size - 64) (words_bytes row.regs ++ flat_map frame_bytes row.frames)

abbrev pub slots_at : List ℕ → ℕ → ℕ → List Slot
slots_at bytes offset n = map (λ o. record { base = number_at bytes o; password = number_at bytes (o + 8) }) (offsets_by 16 offset n)

abbrev pub frame_at : List ℕ → ℕ → CallFrame
frame_at bytes offset =
    record {
      back = number_at bytes offset;
      slots = slots_at bytes (offset + 16)
          (min (number_at bytes (offset + 8)) (slot_limit + 1));
    }

abbrev pub thread_fields : List ℕ → ThreadRow
thread_fields bytes = record {
  birth = number_at bytes 8;
  creator = number_at bytes 16;
  pc = number_at bytes 24;
  state = state_numbered (number_at bytes 32);
  regs = numbers_at bytes 64 8;
  frames = map (λ o. frame_at bytes o) (offsets_by 144 128 (min (number_at bytes 40) (frame_limit + 1)));
}

abbrev pub thread_read : List ℕ → Read ThreadRow
thread_read bytes = row_read is_thread_row thread_bytes thread_fields bytes

-- the globals: a block, never free
abbrev pub globals_bytes : Counters → List ℕ
globals_bytes counters = padded_to block_size (words_bytes (counters.draws ∷ counters.period ∷ counters.cursor ∷ counters.births ∷ []))

abbrev pub globals_fields : List ℕ → Counters
globals_fields bytes =
    record { draws = number_at bytes 0; period = number_at bytes 8; cursor = number_at bytes 16; births = number_at bytes 24 }

abbrev pub globals_read : List ℕ → Option Counters
globals_read bytes =
    if are_counters (globals_fields bytes) && same_bytes (globals_bytes (globals_fields bytes)) bytes
    then Some (globals_fields bytes)
    else None

-- The superblock: the magic, the version, the frames, the credits, the seed of 32 bytes, and four steps of two words.
abbrev pub super_bytes : Settings → List ℕ
super_bytes settings =
    magic ++ padded_to (block_size - 8)
    (words_bytes (version ∷ settings.frames ∷ settings.credits ∷ [])
    ++ (settings.seed ++ words_bytes (flat_map (λ (step : ℕ × ℕ). step.0 ∷ step.1 ∷ []) settings.tariff)))

abbrev pub super_fields : List ℕ → Settings
super_fields bytes =
    record {
      frames = number_at bytes 16;
      seed = bytes_at bytes 32 32;
      credits = number_at bytes 24;
      tariff = map (λ o. (number_at bytes o, number_at bytes (o + 8))) (offsets_by 16 64 4);
    }

abbrev pub are_settings : Settings → Bool
are_settings settings = within_limits settings.frames settings.credits && is_tariff settings.tariff

-- What a superblock spells: none, one of an older version, a damaged one, or the settings of a volume.
pub data SuperRead : Type 0 where
  NotSuper : SuperRead
  OldSuper : SuperRead
  BadSuper : SuperRead
  Spells : Settings → SuperRead

abbrev pub super_read : List ℕ → SuperRead
super_read bytes =
    if not (same_bytes magic (bytes_at bytes 0 8)) then NotSuper
    else if nat_lt (number_at bytes 8) version then OldSuper
    else if are_settings (super_fields bytes) && same_bytes (super_bytes (super_fields bytes)) bytes then Spells (super_fields bytes)
    else BadSuper
