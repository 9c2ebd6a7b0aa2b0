-- How a superblock and an object are spelled in version 1, where a password never ends and its row has no until. Of a row that
-- was read the untils are 0; the row that it becomes has the until of a password that never ends.
use Rattle.std.specs.Prelude.{ℕ, zero, suc, ◌+◌, ◌-◌, ◌*◌, ◌&&◌, nat_le, nat_lt, Bool, not, min, List, [], ◌∷◌, ◌++◌}
use Rattle.std.specs.Prelude.{if◌then◌else◌, length, map, replicate, slice_index, ◌==◌, Option, Some, None, option_map}
use Rattle.mg_migrate.specs.Layout1.{object1_end, object1_entries, object1_rights, object1_size, password1_limit}
use Rattle.{mg_migrate.specs.Layout1.version1, mg_model.specs.Abbreviations.{free_or, live_if, object_head, step_words}}
use Rattle.mg_model.specs.{Bytes.{bytes_at, number_at, numbers_at, padded_to, words_bytes}, Layout.{block_size, magic}}
use Rattle.mg_model.specs.{Limits.{entry_point_limit, never}, Settings.Settings, Spelling.{Read, are_settings}}
use Rattle.mg_model.specs.{Spelling.super_fields, State.ObjectRow, Tests.is_object_row, Words.same_bytes}
use Rattle.mg_model.specs.declared.slots.Pw.{Pw}

-- the superblock: it differs in its version alone
abbrev pub super1_bytes : Settings → List ℕ
super1_bytes settings =
    magic ++ padded_to (block_size - 8)
    (words_bytes (version1 ∷ settings.frames ∷ settings.credits ∷ []) ++ (settings.seed ++ words_bytes (step_words settings.tariff)))

-- What a superblock spells to who looks for version 1: none, one of an older version, one of a newer version, a damaged one, or
-- the settings of a volume.
pub data Super1Read : Type 0 where
  NotSuper1 : Super1Read
  OldSuper1 : Super1Read
  NewSuper1 : Super1Read
  BadSuper1 : Super1Read
  Spells1 : Settings → Super1Read

abbrev pub super1_read : List ℕ → Super1Read
super1_read bytes =
    if not (same_bytes magic (bytes_at bytes 0 8)) then NotSuper1
    else if nat_lt (number_at bytes 8) version1 then OldSuper1
    else if nat_lt version1 (number_at bytes 8) then NewSuper1
    else if are_settings (super_fields bytes) && same_bytes (super1_bytes (super_fields bytes)) bytes then Spells1 (super_fields bytes)
    else BadSuper1

-- an object
abbrev pub object1_bytes : ObjectRow → List ℕ
object1_bytes row =
    padded_to 80 (object_head row)
    ++ (padded_to (object1_rights - 80) (words_bytes (map (λ (pw : Pw). pw.password) row.passwords))
    ++ (padded_to (object1_entries - object1_rights) (map (λ (pw : Pw). pw.rights) row.passwords)
    ++ (padded_to (object1_end - object1_entries) (words_bytes row.entries)
    ++ replicate (object1_size - object1_end) 0)))

-- this many password rows, from place k on
abbrev pub passwords1_at : List ℕ → ℕ → ℕ → List Pw
passwords1_at bytes k zero = []
passwords1_at bytes k (suc n) =
    record { password = number_at bytes (80 + 8 * k); rights = slice_index bytes (object1_rights + k); until = 0 }
    ∷ passwords1_at bytes (k + 1) n

-- the fields; of a count past its limit one more is read, which no rule lets pass
abbrev pub object1_fields : List ℕ → ObjectRow
object1_fields bytes = record {
  base = number_at bytes 8;
  pages = number_at bytes 16;
  account = number_at bytes 24;
  passwords = passwords1_at bytes 0 (min (number_at bytes 32) (password1_limit + 1));
  entries = numbers_at bytes object1_entries (min (number_at bytes 40) (entry_point_limit + 1));
  extension = if number_at bytes 48 == 1 then Some record { base = number_at bytes 56; password = number_at bytes 64 } else None;
}

-- what a password and an object become: each password never ends, and all else is as it was
abbrev pub lift_password : Pw → Pw
lift_password pw = record pw { until = never }

abbrev pub lift_row : ObjectRow → ObjectRow
lift_row row = record row { passwords = map lift_password row.passwords }

-- what a live row keeps: at most sixteen passwords, and beside that the rules of the row that it becomes
abbrev pub is_object1_row : ObjectRow → Bool
is_object1_row row = nat_le (length row.passwords) password1_limit && is_object_row (lift_row row)

abbrev pub object1_read : List ℕ → Read ObjectRow
object1_read bytes =
    free_or bytes (live_if (is_object1_row (object1_fields bytes)) (object1_bytes (object1_fields bytes)) bytes (object1_fields bytes))

-- what is read of a row, lifted
abbrev pub lift_read : Read ObjectRow → Read ObjectRow
lift_read read = option_map (λ (row : Option ObjectRow). option_map lift_row row) read
