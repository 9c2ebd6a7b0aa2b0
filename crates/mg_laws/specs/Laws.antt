-- Laws of the machine, as statements on its steps, its access and its input.
use Rattle.std.specs.Prelude.{◌≡◌, ◌<◌, ◌≤◌, ◌+◌, ◌*◌, ℕ, Bool, true, false, List, All, None}
use Rattle.mg_model.specs.{Access.{at, domain_of, thread_of}, Domains.with_thread, Limits.{first_page, page_end}}
use Rattle.mg_model.specs.{Objects.is_free, Refused.Answer, Settings.Settings, State.{Object, State, Thread}}
use Rattle.mg_model.specs.{Turn.thread_is_ready, WellFormed.{AreObjects, IsInRange, IsSettings, IsWellFormed}}
use Rattle.mg_model.specs.declared.{calls.{Call.Call, Line.Line}, replies.Refusal.{Refusal, TheVariants.Idle}}
use Rattle.mg_model.specs.declared.{replies.Reply.{Reply, TheVariants.{No, Ran}}, rights.Right.Right}
use Rattle.mg_model.specs.declared.threads.ThrState.{ThrState}
use Rattle.mg_model.specs.declared.calls.Call.TheVariants as call

-- the state of settings within their limits is well formed
abbrev pub BeginsWellFormed : (Settings → State) → Type 0
BeginsWellFormed begin = (settings : Settings) → IsSettings settings → IsWellFormed (begin settings)

-- the lines of any bytes are in range
abbrev pub ReadsInRange : (List ℕ → List Line) → Type 0
ReadsInRange read = (bytes : List ℕ) → All IsInRange (read bytes)

-- lines in range, one after another, keep a well-formed state
abbrev pub RunsKeepWellFormed : (State → List Line → State) → Type 0
RunsKeepWellFormed run = (state : State) (lines : List Line) → IsWellFormed state → All IsInRange lines → IsWellFormed (run state lines)

-- a line that is refused leaves the state as it was
abbrev pub RefusedLeaves : (State → Line → Answer) → Type 0
RefusedLeaves steps = (state : State) (line : Line) (word : Refusal) → (steps state line).1 ≡ No word → (steps state line).0 ≡ state

-- Which access is allowed rests on the objects, the period and the slots of the thread's last frame alone. No other part of
-- the state, no thread's number and no earlier access matters.
abbrev pub RestsOnDomain : (State → ℕ → ℕ → Right → Bool) → Type 0
RestsOnDomain may =
    (one other : State) (t u address : ℕ) (right : Right) → one.objects ≡ other.objects → one.counters.period ≡ other.counters.period → domain_of one t ≡ domain_of other u →
    may one t address right ≡ may other u address right

-- the state with this thread Ready, Stopped or Faulted
abbrev pub as_state : State → ℕ → ThrState → State
as_state state t kind = with_thread state t (λ thread. record thread { state = kind })

abbrev pub is_turn : Call → Bool
is_turn call.Turn = true
is_turn call.Next = true
is_turn _ = false

-- a line that is no turn gets the same answer whatever the state of any thread is
abbrev pub AnswersWhateverState : (State → Line → Answer) → Type 0
AnswersWhateverState steps = (state : State) (line : Line) (t : ℕ) (kind : ThrState) → is_turn line.call ≡ false → (steps (as_state state t kind) line).1 ≡ (steps state line).1

-- the lowest pages at which n pages meet no object
pub record IsLowest (objects : List Object) (n page : ℕ) : Type 0 where
  pub low : first_page ≤ page
  pub high : page + n ≤ page_end
  pub free : is_free objects n page ≡ true
  pub least : (other : ℕ) → first_page ≤ other → is_free objects n other ≡ true → page ≤ other

-- among objects that fit into 65,536 frames there is room for one more, and these are the lowest pages at which it meets none
abbrev pub FindsLowest : (List Object → ℕ → ℕ) → Type 0
FindsLowest find = (frames accounts : ℕ) (objects : List Object) (n : ℕ) → AreObjects frames accounts objects → frames ≤ 65536 → 1 ≤ n → n ≤ 1024 → IsLowest objects n (find objects n)

-- no address of the n pages from this one on is in an object
abbrev pub MeetsNone : List Object → ℕ → ℕ → Type 0
MeetsNone objects n page = (address : ℕ) → 4096 * page ≤ address → address < 4096 * (page + n) → at objects address ≡ None

-- the lowest n pages of which no address is in an object
pub record IsLowestOf (objects : List Object) (n page : ℕ) : Type 0 where
  pub low : first_page ≤ page
  pub high : page + n ≤ page_end
  pub free : MeetsNone objects n page
  pub least : (other : ℕ) → first_page ≤ other → MeetsNone objects n other → page ≤ other

-- the same by addresses, in each state that is well formed
abbrev pub TakesLowest : (List Object → ℕ → ℕ) → Type 0
TakesLowest lowest = (state : State) (n : ℕ) → IsWellFormed state → 1 ≤ n → n ≤ 1024 → IsLowestOf state.objects n (lowest state.objects n)

-- the least number, from 1 on, that no thread has
pub record IsLeastFree (state : State) (number : ℕ) : Type 0 where
  pub some : 1 ≤ number
  pub free : thread_of state number ≡ None
  pub least : (other : ℕ) → 1 ≤ other → thread_of state other ≡ None → number ≤ other

-- a new thread gets that number
abbrev pub TakesLeastNumber : (List Thread → ℕ) → Type 0
TakesLeastNumber free = (state : State) → IsWellFormed state → IsLeastFree state (free state.threads)

-- The thread that runs next: a Ready one. If it is above the cursor, it is the least Ready one there. Else no Ready one is
-- above the cursor, and it is the least of all.
pub record IsNextReady (state : State) (number : ℕ) : Type 0 where
  pub ready : thread_is_ready state number ≡ true
  pub above : state.counters.cursor < number → (other : ℕ) → thread_is_ready state other ≡ true → state.counters.cursor < other → number ≤ other
  pub around : number ≤ state.counters.cursor → (other : ℕ) → thread_is_ready state other ≡ true → (other ≤ state.counters.cursor) × (number ≤ other)

-- no thread is Ready
abbrev pub NoneReady : State → Type 0
NoneReady state = (number : ℕ) → thread_is_ready state number ≡ true → ⊥

-- what `next` answers in a state
abbrev pub RanNext : State → Reply → Type 0
RanNext state (Ran number left) = IsNextReady state number
RanNext state other = (other ≡ No Idle) × NoneReady state

abbrev pub RunsNextReady : (State → Answer) → Type 0
RunsNextReady next = (state : State) → IsWellFormed state → RanNext state (next state).1
