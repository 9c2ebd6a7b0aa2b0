-- What a volume holds in memory.
use Rattle.std.specs.Prelude.{ℕ, List}
use Rattle.mg_model.specs.{Settings.Settings, State.{Counters, ObjectRow, ThreadRow}, declared.accounts.AccRow.AccRow}
use Rattle.mg_pages.specs.declared.pages.Pages.{Pages}

-- the settings, the counters, the objects in the order of their bases, each with the place of its row, the accounts, the
-- threads with their numbers, and the pages
pub record VolumeHeld : Type 0 where
  pub settings : Settings
  pub counters : Counters
  pub objects : List (ℕ × ObjectRow)
  pub accounts : List AccRow
  pub threads : List (ℕ × ThreadRow)
  pub pages : Pages
