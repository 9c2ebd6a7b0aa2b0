-- What every state of the machine keeps.
use Rattle.std.specs.{Option.ForSome, Prelude.{◌≡◌, ◌≢◌, ℕ, ◌*◌, ◌<◌, ◌≤◌, IsTrue, List, length, All, AllPairs, Some}}
use Rattle.std.specs.Prelude.{sum_by}
use Rattle.mg_model.specs.{Bank.used, Domains.row_of, Limits.debt_limit, Objects.{page_of, page_behind}}
use Rattle.mg_model.specs.{Ranges.{IsCounters, IsObjectRow, IsThreadRow, IsWord}, Rights.IsRights, Settings.Settings}
use Rattle.mg_model.specs.{Settings.within_limits, State.{State, Object, Thread, ThreadRow}, Tariff.is_tariff}
use Rattle.mg_model.specs.declared.{accounts.AccRow.AccRow, calls.{Call.Call, Line.Line}}
use Rattle.mg_model.specs.declared.limits.TheConstants.{ACCOUNT_LIMIT as account_limit, OBJECT_LIMIT as object_limit}
use Rattle.mg_model.specs.declared.limits.TheConstants.{THREAD_LIMIT as thread_limit}
use Rattle.mg_model.specs.declared.calls.Call.TheVariants as call

pub record IsSettings (settings : Settings) : Type 0 where
  pub limits : IsTrue (within_limits settings.frames settings.credits)
  pub tariff : IsTrue (is_tariff settings.tariff)
  pub long : length settings.seed ≡ 32
  pub seed : All (λ byte. byte < 256) settings.seed

-- an object has 512 words of 64 bits for each page
pub record IsObject (object : Object) : Type 0 where
  pub row : IsObjectRow object.row
  pub long : length object.words ≡ 512 * object.row.pages
  pub words : All IsWord object.words

-- one object lies before another, and they share no page
abbrev pub IsBefore : Object → Object → Type 0
IsBefore object later = page_behind object.row ≤ page_of later.row

-- objects are in the order of their bases and do not overlap; an account that is there pays for each
pub record AreObjects (frames accounts : ℕ) (objects : List Object) : Type 0 where
  pub few : length objects ≤ object_limit
  pub each : All IsObject objects
  pub apart : AllPairs IsBefore objects
  pub paid : All (λ (object : Object). object.row.account ≤ accounts) objects
  pub fit : used objects ≤ frames

pub record IsAccount (period : ℕ) (row : AccRow) : Type 0 where
  pub password : IsWord row.password
  pub owed : row.owed ≤ debt_limit period

-- there is a treasury, and the balances sum to the credits
pub record AreAccounts (credits period : ℕ) (accounts : List AccRow) : Type 0 where
  pub some : 1 ≤ length accounts
  pub few : length accounts ≤ account_limit
  pub each : All (IsAccount period) accounts
  pub sum : sum_by (λ (row : AccRow). row.balance) accounts ≡ credits

-- a thread's number is 1 to 256, and it was born by now
pub record IsThread (births : ℕ) (thread : Thread) : Type 0 where
  pub some : 1 ≤ thread.number
  pub few : thread.number ≤ thread_limit
  pub row : IsThreadRow thread.row
  pub born : thread.row.birth ≤ births

-- threads are in the order of their numbers; no two have one birth
pub record AreThreads (births : ℕ) (threads : List Thread) : Type 0 where
  pub each : All (IsThread births) threads
  pub ordered : AllPairs (λ (x y : Thread). x.number < y.number) threads
  pub distinct : AllPairs (λ (x y : Thread). x.row.birth ≢ y.row.birth) threads

-- thread 1 lives, was born first, and was created by none
pub record IsFirst (row : ThreadRow) : Type 0 where
  pub birth : row.birth ≡ 1
  pub creator : row.creator ≡ 0

pub record IsWellFormed (state : State) : Type 0 where
  pub settings : IsSettings state.settings
  pub counters : IsCounters state.counters
  pub objects : AreObjects state.settings.frames (length state.accounts) state.objects
  pub accounts : AreAccounts state.settings.credits state.counters.period state.accounts
  pub threads : AreThreads state.counters.births state.threads
  pub first : (row : ThreadRow) × (row_of state 1 ≡ Some row) × IsFirst row

-- the arguments of a call are in their ranges
abbrev pub HasRanges : Call → Type 0
HasRanges (call.Load a) = IsWord a
HasRanges (call.Store a value) = IsWord a × IsWord value
HasRanges (call.Create n account password) = IsWord n × IsWord account × IsWord password
HasRanges (call.Delete b) = IsWord b
HasRanges (call.Info b) = IsWord b
HasRanges (call.Pwadd b rights until) = IsWord b × IsRights rights × ForSome until IsWord
HasRanges (call.Pwdel b password) = IsWord b × IsWord password
HasRanges (call.Entry b off) = IsWord b × IsWord off
HasRanges (call.Ext b clist password) = IsWord b × IsWord clist × IsWord password
HasRanges (call.Recharge b account password) = IsWord b × IsWord account × IsWord password
HasRanges (call.Apdadd clist password) = IsWord clist × IsWord password
HasRanges (call.Apddel index) = IsWord index
HasRanges call.Apdlist = Unit {0}
HasRanges (call.Pdx a mask) = IsWord a × mask < 256
HasRanges call.Ret = Unit {0}
HasRanges (call.Thread pc) = IsWord pc
HasRanges (call.End i) = IsWord i
HasRanges (call.Resume i) = IsWord i
HasRanges call.Turn = Unit {0}
HasRanges call.Next = Unit {0}
HasRanges (call.Account account password amount) = IsWord account × IsWord password × IsWord amount
HasRanges (call.Pay account password to amount) = IsWord account × IsWord password × IsWord to × IsWord amount
HasRanges (call.Balance account password) = IsWord account × IsWord password
HasRanges call.Rent = Unit {0}
HasRanges call.Bad = Unit {0}

pub record IsInRange (line : Line) : Type 0 where
  pub thread : IsWord line.thread
  pub call : HasRanges line.call

-- a step from a well-formed state by a line in range gives one
abbrev pub KeepsWellFormed : (State → Line → State) → Type 0
KeepsWellFormed step = (state : State) (line : Line) → IsWellFormed state → IsInRange line → IsWellFormed (step state line)
