-- What a reader answers if no row is spelled, and what it answers if one was written.
use Rattle.mg_model.specs.{Ranges.{IsCounters, IsWord}, RowLemmas.{account_fields-written, account-live, globals-read}, Spelling.account_bytes}
use Rattle.mg_model.specs.{Spelling.{account_read, globals_bytes, globals_fields, globals_read}, State.Counters, Tests.are_counters, Words.same_bytes}
use Rattle.{mg_model.specs.declared.accounts.AccRow.AccRow, std.proofs.Common.{◌≡◌, ◌&&◌, ℕ, List, false, IsTrue, if◌then◌else◌, Some, None, refl}}
use Rattle.std.proofs.{Common.{ap, subst, arith}, lemmas.{Bool.{and_right, Decides.nat_tests}, Nat.from_le_bytes-to_le_bytes_8}}

pub account-back : (row : AccRow) → IsWord row.password → IsWord row.balance → IsWord row.owed → account_read (account_bytes row) ≡ Some (Some row)
account-back row password balance owed = account-live (account_bytes row) row refl (account_fields-written row password balance owed) refl

pub globals-none : (bytes : List ℕ) (counters : Counters) → counters ≡ globals_fields bytes → same_bytes (globals_bytes counters) bytes ≡ false → globals_read bytes ≡ None
globals-none bytes counters same differ =
    let P : Counters → Type 0 = λ f. (if are_counters f && same_bytes (globals_bytes f) bytes then Some f else None) ≡ None in
    subst P same (ap (λ t. if t then Some counters else None) (and_right (are_counters counters) (same_bytes (globals_bytes counters) bytes) differ))

counters_of : ℕ → ℕ → ℕ → ℕ → Counters
counters_of draws period cursor births = record { draws = draws; period = period; cursor = cursor; births = births }

globals_fields-written : (counters : Counters) → IsCounters counters → globals_fields (globals_bytes counters) ≡ counters
unfolding counters_of
globals_fields-written counters keeps = grind (arith, from_le_bytes-to_le_bytes_8, counters_of)

counters-keep : (counters : Counters) → IsCounters counters → IsTrue (are_counters counters)
counters-keep counters keeps = grind (arith, nat_tests)

pub globals-back : (counters : Counters) → IsCounters counters → globals_read (globals_bytes counters) ≡ Some counters
globals-back counters keeps = globals-read (globals_bytes counters) counters (globals_fields-written counters keeps) (counters-keep counters keeps) refl
