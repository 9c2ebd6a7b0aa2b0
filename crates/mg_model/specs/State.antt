-- What the machine holds.
use Rattle.std.specs.Prelude.{ℕ, List, Option, codes}
use Rattle.mg_model.specs.{Settings.Settings, declared.{accounts.AccRow.AccRow, slots.{Pw.Pw, Slot.Slot}}}
use Rattle.mg_model.specs.declared.threads.ThrState.{ThrState, TheVariants.{Ready, Stopped, Faulted}}
use Rattle.mg_model.specs.declared.threads.Fault.TheVariants as fault

-- what is known of an object besides its words
pub record ObjectRow : Type 0 where
  pub base : ℕ
  pub pages : ℕ
  pub account : ℕ
  pub passwords : List Pw
  pub entries : List ℕ
  pub extension : Option Slot

-- an object: the list has every word of it; a word that was never stored to is 0
pub record Object : Type 0 where
  pub row : ObjectRow
  pub words : List ℕ

-- a frame of a thread: the address that its call returns to, and the slots that it runs under
pub record CallFrame : Type 0 where
  pub back : ℕ
  pub slots : List Slot

-- the state of a thread: its number on a disk, and its text
abbrev pub state_row : ThrState → ℕ × List ℕ
state_row Ready = (0, codes "Ready")
state_row Stopped = (1, codes "Stopped")
state_row (Faulted fault.Align) = (2, codes "Faulted Align")
state_row (Faulted fault.Denied) = (3, codes "Faulted Denied")
state_row (Faulted fault.Opcode) = (4, codes "Faulted Opcode")

-- what is known of a thread; its present frame is the last
pub record ThreadRow : Type 0 where
  pub birth : ℕ
  pub creator : ℕ
  pub pc : ℕ
  pub state : ThrState
  pub regs : List ℕ
  pub frames : List CallFrame

pub record Thread : Type 0 where
  pub number : ℕ
  pub row : ThreadRow

-- how many passwords were drawn, the period, the thread that `next` ran last, and the last birth number
pub record Counters : Type 0 where
  pub draws : ℕ
  pub period : ℕ
  pub cursor : ℕ
  pub births : ℕ

-- the objects are in the order of their bases, the threads in the order of their numbers; account n is at place n - 1
pub record State : Type 0 where
  pub settings : Settings
  pub counters : Counters
  pub objects : List Object
  pub accounts : List AccRow
  pub threads : List Thread
