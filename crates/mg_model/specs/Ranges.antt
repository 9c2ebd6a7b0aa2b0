-- What the fields of a live row keep.
use Rattle.std.specs.{Option.ForSome, Prelude.{◌≡◌, ◌≢◌, ℕ, ◌+◌, ◌*◌, ◌/◌, ◌%◌, ◌^◌, ◌<◌, ◌≤◌, length, All, AllPairs}}
use Rattle.mg_model.specs.{Abbreviations.first_back, PasswordRows.IsPassword, State.{ObjectRow, CallFrame, ThreadRow}}
use Rattle.mg_model.specs.{State.Counters, declared.limits.TheConstants.ACCOUNT_LIMIT as account_limit}
use Rattle.mg_model.specs.declared.limits.TheConstants.{BIRTH_LIMIT as birth_limit, DRAW_LIMIT as draw_limit}
use Rattle.mg_model.specs.declared.limits.TheConstants.{ENTRY_POINT_LIMIT as entry_point_limit}
use Rattle.mg_model.specs.declared.limits.TheConstants.{FIRST_PAGE as first_page, FRAME_LIMIT as frame_limit}
use Rattle.mg_model.specs.declared.limits.TheConstants.{OBJECT_PAGE_LIMIT as object_page_limit, PAGE_END as page_end}
use Rattle.mg_model.specs.declared.limits.TheConstants.{PASSWORD_LIMIT as password_limit, PERIOD_LIMIT as period_limit}
use Rattle.mg_model.specs.declared.limits.TheConstants.{SLOT_LIMIT as slot_limit, THREAD_LIMIT as thread_limit}
use Rattle.mg_model.specs.declared.slots.Slot.{Slot}

-- a number of 64 bits
abbrev pub IsWord : ℕ → Type 0
IsWord n = n < 2 ^ 64

pub record IsSlot (slot : Slot) : Type 0 where
  pub base : IsWord slot.base
  pub password : IsWord slot.password

-- an extension has a base
pub record IsExtension (slot : Slot) : Type 0 where
  pub fields : IsSlot slot
  pub some : slot.base ≢ 0

-- an entry is the address of a word of the object
pub record IsEntryOf (base pages address : ℕ) : Type 0 where
  pub aligned : address % 8 ≡ 0
  pub above : base ≤ address
  pub below : address < base + 4096 * pages

-- the pages that an object may have
pub record IsPlace (base pages : ℕ) : Type 0 where
  pub aligned : base % 4096 ≡ 0
  pub low : first_page ≤ base / 4096
  pub some : 1 ≤ pages
  pub few : pages ≤ object_page_limit
  pub high : base / 4096 + pages ≤ page_end

pub record IsObjectRow (row : ObjectRow) : Type 0 where
  pub place : IsPlace row.base row.pages
  pub account_some : 1 ≤ row.account
  pub account_few : row.account ≤ account_limit
  pub few_passwords : length row.passwords ≤ password_limit
  pub passwords : All IsPassword row.passwords
  pub few_entries : length row.entries ≤ entry_point_limit
  pub entries : All (IsEntryOf row.base row.pages) row.entries
  pub distinct : AllPairs (λ x y. x ≢ y) row.entries
  pub extension : ForSome row.extension IsExtension

pub record IsCallFrame (frame : CallFrame) : Type 0 where
  pub back : IsWord frame.back
  pub aligned : frame.back % 8 ≡ 0
  pub few : length frame.slots ≤ slot_limit
  pub slots : All IsSlot frame.slots

pub record IsThreadRow (row : ThreadRow) : Type 0 where
  pub birth : IsWord row.birth
  pub creator : row.creator < row.birth
  pub pc : IsWord row.pc
  pub aligned : row.pc % 8 ≡ 0
  pub eight : length row.regs ≡ 8
  pub registers : All IsWord row.regs
  pub some_frame : 1 ≤ length row.frames
  pub few_frames : length row.frames ≤ frame_limit
  pub frames : All IsCallFrame row.frames
  pub bottom : first_back row.frames ≡ 0

pub record IsCounters (counters : Counters) : Type 0 where
  pub some_draws : 2 ≤ counters.draws
  pub draws : counters.draws ≤ draw_limit
  pub period : counters.period ≤ period_limit
  pub cursor : counters.cursor ≤ thread_limit
  pub some_births : 1 ≤ counters.births
  pub births : counters.births ≤ birth_limit
