-- Which accesses of a session are warm, and what its lines may cost.
--
-- An access is warm if an earlier line made an allowed access with its key and nothing came between: no line that disturbs,
-- and no allowed access with another key that has the same seat. The earlier lines of a session are given here as a list of
-- events, the last one first.
use Rattle.std.specs.{List.list_any, Option.option_map_or, Prelude.{ℕ, ◌+◌, ◌*◌, ◌&&◌, nat_le, nat_lt, Bool, true}}
use Rattle.std.specs.Prelude.{false, not, List, [], ◌∷◌, ◌++◌, if◌then◌else◌, Option, Some}
use Rattle.mg_model.specs.{Access.allowed, Accesses.{Access, accesses, fetched, turning, line_words}, Keys.Key}
use Rattle.mg_model.specs.{Keys.{first_at, has_seat, is_key, key_of, seat_of, keys_taken}, ObjectCalls.is_aligned}
use Rattle.mg_model.specs.{Script.operand, State.{Object, State, Thread, ThreadRow}, Step.step, Turn.picked}
use Rattle.mg_model.specs.declared.{calls.{Call.Call, Line.Line}, instructions.Instr.Instr}
use Rattle.mg_model.specs.declared.limits.TheConstants.{PAGE_SIZE as page_size, SEARCH_LIMIT as search_limit}
use Rattle.mg_model.specs.declared.{replies.Reply.{Reply, TheVariants.No}, rights.Right.TheVariants.W}
use Rattle.mg_model.specs.declared.calls.Call.TheVariants as call
use Rattle.mg_model.specs.declared.instructions.Instr.TheVariants as op

-- a line that is refused disturbs nothing
abbrev pub is_ok : Reply → Bool
is_ok (No word) = false
is_ok _ = true

-- whether an address lies in the first page of an object: there capability lists are read
abbrev pub in_first_page : List Object → ℕ → Bool
in_first_page objects address =
    list_any (λ (object : Object). nat_le object.row.base address && nat_lt address (object.row.base + page_size)) objects

-- whether an instruction stores a word into a first page; a store that faults stores none
abbrev pub stores_first_page : State → ℕ → ℕ → Bool
stores_first_page state t address = is_aligned address && (allowed state t address W && in_first_page state.objects address)

-- whether a turn that fetches this word leaves rights as they are: `sys`, `pdx` and `ret` may change them, whatever they are
-- answered
abbrev pub is_calm : State → ℕ → ThreadRow → Option Instr → Bool
is_calm state t thread (Some op.Sys) = false
is_calm state t thread (Some (op.Pdx a b)) = false
is_calm state t thread (Some op.Ret) = false
is_calm state t thread (Some (op.Store a b i)) = not (stores_first_page state t (operand thread b i))
is_calm state t thread _ = true

abbrev pub is_calm_turn : State → Option Thread → Bool
is_calm_turn state turns = option_map_or (λ (thread : Thread). is_calm state thread.number thread.row (fetched state thread)) turns true

-- whether a call disturbs if it is answered ok
abbrev pub disturbs : State → ℕ → Call → Bool
disturbs state t (call.Load a) = false
disturbs state t (call.Info b) = false
disturbs state t (call.Balance account password) = false
disturbs state t call.Apdlist = false
disturbs state t (call.Store a value) = in_first_page state.objects a
disturbs state t call.Turn = not (is_calm_turn state (turning state t))
disturbs state t call.Next = not (is_calm_turn state (picked state))
disturbs state t _ = true

-- whether a line disturbs: what was known of rights before it no longer counts after it
abbrev pub is_disturbing : State → Line → Bool
is_disturbing state line = is_ok (step state line).1 && disturbs state line.thread line.call

-- an earlier line of the session, and the state before it
pub record Event : Type 0 where
  pub state : State
  pub line : Line

-- the keys taken since the last line that disturbs, the last one first
abbrev pub recent : List Event → List Key
recent [] = []
recent (event ∷ past) =
    if is_disturbing event.state event.line then [] else keys_taken event.state (accesses event.state event.line) ++ recent past

-- whether a key was taken since then, and after that no other key took its seat
abbrev pub is_recent : List Event → Key → Bool
is_recent past key = option_map_or (λ last. is_key last key) (first_at (seat_of key) (recent past)) false

-- whether an access is warm after earlier lines and, in its own line, after earlier accesses
abbrev pub is_warm : List Event → State → List Access → Access → Bool
is_warm past state before access =
    option_map_or (λ key. is_recent past key && has_seat (keys_taken state before) key) (key_of state access) false

-- how many accesses fail a test; the test gets each access with those that came before it in its line
abbrev pub failing : (List Access → Access → Bool) → List Access → List Access → ℕ
failing test before [] = 0
failing test before (access ∷ more) = (if test before access then 0 else 1) + failing test (before ++ access ∷ []) more

-- what a line may cost: its own words, and a whole search for each access that is not warm
abbrev pub line_cost : List Event → State → Line → ℕ
line_cost past state line = line_words state line + search_limit * failing (is_warm past state) [] (accesses state line)

-- what lines may cost after earlier ones
abbrev pub cost_behind : List Event → State → List Line → ℕ
cost_behind past state [] = 0
cost_behind past state (line ∷ more) =
    line_cost past state line + cost_behind (record { state = state; line = line } ∷ past) (step state line).0 more

-- what the lines of a session may cost, from its first state on
abbrev pub cost : State → List Line → ℕ
cost state lines = cost_behind [] state lines
