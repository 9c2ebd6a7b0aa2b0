-- If something is not spelled, or an account follows a free row, there is no state.
use Rattle.std.{proofs.{Common.{arith, refl, ap, ◌∙◌}, lemmas.Bool.Decides.nat_tests}, specs.Option.option_map_or}
use Rattle.std.specs.Prelude.{◌≡◌, ℕ, false, List, drop, if◌then◌else◌, take, Option, None, Some}
use Rattle.mg_model.specs.Abbreviations.{account_row_bytes, fitting, object_row_bytes, thread_row_bytes, whole_table}
use Rattle.mg_model.specs.{Bytes.are_zeros, Layout.globals_block, Limits.{account_limit, thread_limit, object_limit}}
use Rattle.mg_model.specs.{Replay.block_of, Settings.Settings, Spelling.{account_read, globals_read, object_read}}
use Rattle.mg_model.specs.{Spelling.thread_read, State.{Counters, ObjectRow, ThreadRow}, Volume.{Damaged, Rows}}
use Rattle.mg_model.specs.{Volume.{VolumeRead, has_no_gap, live_rows, rows_of, state_spelled}, VolumeLemmas.rows_from}
use Rattle.mg_model.specs.{VolumeLemmas.rows_with, declared.accounts.AccRow.AccRow}
use Rattle.mg_rules.specs.{RowsTold.{HasNoState, NoCounters}, TableRows.{AreLive, NotSpelled}, TableTold.HasRest}

-- over what is read, whatever it is
module _ (frames : ℕ) (whole : List ℕ) where
  no_accounts : (c : Option Counters) (t : Option (List (ℕ × ThreadRow))) (o : Option (List (ℕ × ObjectRow))) → rows_from frames c None t o whole ≡ None
  no_accounts None t o = refl
  no_accounts (Some c) t o = refl

  no_threads : (c : Option Counters) (a : Option (List (ℕ × AccRow))) (o : Option (List (ℕ × ObjectRow))) → rows_from frames c a None o whole ≡ None
  no_threads None a o = refl
  no_threads (Some c) None o = refl
  no_threads (Some c) (Some a) o = refl

  no_objects : (c : Option Counters) (a : Option (List (ℕ × AccRow))) (t : Option (List (ℕ × ThreadRow))) → rows_from frames c a t None whole ≡ None
  no_objects None a t = refl
  no_objects (Some c) None t = refl
  no_objects (Some c) (Some a) None = refl
  no_objects (Some c) (Some a) (Some t) = refl

  no_table : (c : Option Counters) (a : Option (List (ℕ × AccRow))) (t : Option (List (ℕ × ThreadRow))) (o : Option (List (ℕ × ObjectRow))) → are_zeros (drop frames whole) ≡ false → rows_from frames c a t o whole ≡ None
  no_table None a t o rest = refl
  no_table (Some c) None t o rest = refl
  no_table (Some c) (Some a) None o rest = refl
  no_table (Some c) (Some a) (Some t) None rest = refl
  no_table (Some c) (Some a) (Some t) (Some o) rest = ap (λ b. if b then Some (rows_with c a t o (take frames whole)) else None) rest

-- an account after a free row
module _ (settings : Settings) (image : List (List ℕ)) where
  abbrev reading : Option Rows → VolumeRead
  reading found = option_map_or (λ rows. fitting rows (state_spelled image settings rows)) found Damaged

  gap_unfit : (rows : Rows) → has_no_gap 0 rows.accounts ≡ false → reading (Some rows) ≡ Damaged
  gap_unfit rows gap = grind (arith)

  unfit : (n : ℕ) (c : Option Counters) (t : Option (List (ℕ × ThreadRow))) (o : Option (List (ℕ × ObjectRow))) (whole : List ℕ) (rows : List (ℕ × AccRow)) → has_no_gap 0 rows ≡ false → reading (rows_from n c (Some rows) t o whole) ≡ Damaged
  unfit n None t o whole rows gap = refl
  unfit n (Some c) None o whole rows gap = refl
  unfit n (Some c) (Some t) None whole rows gap = refl
  unfit n (Some c) (Some t) (Some o) whole rows gap = grind (arith, nat_tests, rows_with, gap_unfit)

module _ (settings : Settings) (image : List (List ℕ)) where
  abbrev frames : ℕ
  frames = settings.frames

  abbrev whole : List ℕ
  whole = whole_table image settings.frames

  abbrev counters : Option Counters
  counters = globals_read (block_of image globals_block)

  abbrev accounts : ℕ → Option (List (ℕ × AccRow))
  accounts n = live_rows (λ i. account_read (account_row_bytes image i)) 0 n

  abbrev threads : ℕ → Option (List (ℕ × ThreadRow))
  threads n = live_rows (λ i. thread_read (thread_row_bytes image i)) 0 n

  abbrev objects : ℕ → Option (List (ℕ × ObjectRow))
  objects n = live_rows (λ i. object_read (object_row_bytes image i)) 0 n

  no_state : rows_of image settings.frames ≡ None → HasNoState settings image
  no_state none = record { none = ap (reading settings image) none }

  pub without-counters : NoCounters image → HasNoState settings image
  without-counters missing = no_state (ap (λ c. rows_from frames c (accounts account_limit) (threads thread_limit) (objects object_limit) whole) missing.none)

  pub without-threads : NotSpelled (λ i. thread_read (thread_row_bytes image i)) thread_limit → HasNoState settings image
  without-threads missing = no_state (ap (λ t. rows_from frames counters (accounts account_limit) t (objects object_limit) whole) missing.none ∙ no_threads frames whole counters (accounts account_limit) (objects object_limit))

  pub without-objects : NotSpelled (λ i. object_read (object_row_bytes image i)) object_limit → HasNoState settings image
  without-objects missing = no_state (ap (λ o. rows_from frames counters (accounts account_limit) (threads thread_limit) o whole) missing.none ∙ no_objects frames whole counters (accounts account_limit) (threads thread_limit))

  pub without-zeros : HasRest image settings.frames → HasNoState settings image
  without-zeros missing = no_state (no_table frames whole counters (accounts account_limit) (threads thread_limit) (objects object_limit) missing.rest)

  pub without-accounts : NotSpelled (λ i. account_read (account_row_bytes image i)) account_limit → HasNoState settings image
  without-accounts missing = no_state (ap (λ a. rows_from frames counters a (threads thread_limit) (objects object_limit) whole) missing.none ∙ no_accounts frames whole counters (threads thread_limit) (objects object_limit))

  -- when an account follows a free row
  pub with-gap : (rows : List (ℕ × AccRow)) → AreLive (λ i. account_read (account_row_bytes image i)) account_limit rows → has_no_gap 0 rows ≡ false → HasNoState settings image
  with-gap rows live gap = record {
    none =
        ap (reading settings image) (ap (λ a. rows_from frames counters a (threads thread_limit) (objects object_limit) whole) live.are)
        ∙ unfit settings image frames counters (threads thread_limit) (objects object_limit) whole rows gap;
  }
