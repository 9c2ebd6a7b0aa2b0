-- A thread that moves elsewhere: another pc, another state and other registers, in its row and in its block; and its block as it
-- is staged.
use Rattle.std.specs.Prelude.{◌≡◌, ℕ, List, Option, Some}
use Rattle.{mg_disk.specs.Disk.{Image, block_at}, mg_model.specs.{Layout.globals_block, Spelling.globals_bytes}}
use Rattle.mg_model.specs.{Spelling.{thread_bytes, thread_read}, State.{Counters, ThreadRow}}
use Rattle.{mg_model.specs.declared.threads.ThrState.ThrState, mg_pages.specs.Meaning.StagesBlock}
use Rattle.mg_pages.specs.declared.pages.Pages.{Pages}
use Rattle.mg_pages.specs.Meaning as pages

-- the row of a thread that moves elsewhere
abbrev pub stands_at : ℕ → ThrState → List ℕ → ThreadRow → ThreadRow
stands_at pc state regs row = record row { pc = pc; state = state; regs = regs }

-- a block that is staged is staged with other bytes: those of the second row if it had those of the first
pub record Respells (block : ℕ) (row row' : ThreadRow) (old new : Pages) : Type 0 where
  pub bytes : List ℕ
  pub restages : pages.Restages block bytes old new
  pub are : (image : Image) → pages.IsSpelledBy old image → block_at (pages.coming old image) block ≡ thread_bytes row → bytes ≡ thread_bytes row'

-- the block of the counters, that is staged, is staged with those of these counters if it had those of any
pub record RespellsCounters (counters : Counters) (old new : Pages) : Type 0 where
  pub bytes : List ℕ
  pub restages : pages.Restages globals_block bytes old new
  pub are : (image : Image) → pages.IsSpelledBy old image → (was : Counters) → block_at (pages.coming old image) globals_block ≡ globals_bytes was → bytes ≡ globals_bytes counters

-- a block is staged that spells this row of a thread, or that there is none; nothing else has changed
pub record StagesThread (block : ℕ) (row : Option ThreadRow) (old new : Pages) : Type 0 where
  pub bytes : List ℕ
  pub read : thread_read bytes ≡ Some row
  pub staged : StagesBlock block bytes old new
