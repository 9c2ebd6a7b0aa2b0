-- Which accesses a line makes, and which words it itself loads, fetches or stores.
--
-- Both are those of the state before the line. A line makes an access when it tests a right. If an earlier test of the line
-- already decides, the later test is not made.
use Rattle.std.specs.{Option.option_map_or, Prelude.{ℕ, ◌+◌, ◌&&◌, nat_lt, List, [], ◌∷◌, ◌++◌, if◌then◌else◌, map}}
use Rattle.std.specs.Prelude.{Option, Some, None}
use Rattle.mg_model.specs.{Access.{allowed, thread_of}, ObjectCalls.is_aligned, Objects.word_at, Script.decoded}
use Rattle.mg_model.specs.{Script.{operand, register}, State.{State, Thread, ThreadRow}, Threads.is_thread, Turn.picked}
use Rattle.mg_model.specs.{Turn.{script_call, thread_is_ready}, declared.calls.{Call.Call, Line.Line}}
use Rattle.mg_model.specs.declared.{instructions.Instr.Instr, rights.Right.{Right, TheVariants.{R, W, X, D, P, O}}}
use Rattle.mg_model.specs.declared.calls.Call.TheVariants as call
use Rattle.mg_model.specs.declared.instructions.Instr.TheVariants as op

-- the access of a thread to an address with a right
pub record Access : Type 0 where
  pub thread : ℕ
  pub address : ℕ
  pub right : Right

-- one right is tested, at one address
abbrev pub one_access : ℕ → ℕ → Right → List Access
one_access t address right = record { thread = t; address = address; right = right } ∷ []

-- the same when the address is tested first: if it is not the address of a word, the call ends before its right is looked at
abbrev pub word_access : ℕ → ℕ → Right → List Access
word_access t address right = if is_aligned address then one_access t address right else []

-- the first of these rights that is allowed, and those before it
abbrev pub tried : State → ℕ → ℕ → List Right → List Right
tried state t address [] = []
tried state t address (right ∷ rights) = if allowed state t address right then right ∷ [] else right ∷ tried state t address rights

-- the rights are tried in turn, in the order of their bits, until one is allowed
abbrev pub any_access : State → ℕ → ℕ → List Access
any_access state t address =
    map (λ right. record { thread = t; address = address; right = right }) (tried state t address (R ∷ W ∷ X ∷ D ∷ P ∷ O ∷ []))

-- the accesses of a call, made by a thread that lives
abbrev pub call_accesses : State → ℕ → Call → List Access
call_accesses state t (call.Load a) = word_access t a R
call_accesses state t (call.Store a value) = word_access t a W
call_accesses state t (call.Delete b) = one_access t b D
call_accesses state t (call.Info b) = any_access state t b
call_accesses state t (call.Pwadd b rights until) = one_access t b O
call_accesses state t (call.Pwdel b password) = one_access t b O
call_accesses state t (call.Entry b off) = one_access t b O
call_accesses state t (call.Ext b clist password) = one_access t b O
call_accesses state t (call.Recharge b account password) = one_access t b O
call_accesses state t (call.Pdx a mask) = word_access t a P
call_accesses state t (call.Thread pc) = word_access t pc X
call_accesses state t _ = []

-- the instruction at the thread's pc, if it may fetch the word and the word spells one
abbrev pub fetched : State → Thread → Option Instr
fetched state thread = if allowed state thread.number thread.row.pc X then decoded (word_at state.objects thread.row.pc) else None

-- The accesses of an instruction, made by the thread with this number and this row. A mask of more than 8 bits is refused
-- before the right is looked at.
abbrev pub instruction_accesses : State → ℕ → ThreadRow → Option Instr → List Access
instruction_accesses state t thread (Some (op.Load a b i)) = word_access t (operand thread b i) R
instruction_accesses state t thread (Some (op.Store a b i)) = word_access t (operand thread b i) W
instruction_accesses state t thread (Some (op.Pdx a b)) = if nat_lt 255 (register thread b) then [] else word_access t (register thread a) P
instruction_accesses state t thread (Some op.Sys) = call_accesses state t (script_call thread)
instruction_accesses state t thread _ = []

-- a turn fetches a word, and then does what it says
abbrev pub turn_accesses : State → Thread → List Access
turn_accesses state thread =
    one_access thread.number thread.row.pc X ++ instruction_accesses state thread.number thread.row (fetched state thread)

-- the thread that a `turn` runs; if it is not Ready, the turn runs nothing
abbrev pub turning : State → ℕ → Option Thread
turning state t = if thread_is_ready state t then thread_of state t else None

abbrev pub accesses_of : State → ℕ → Call → List Access
accesses_of state t call.Turn = option_map_or (λ thread. turn_accesses state thread) (turning state t) []
accesses_of state t call.Next = option_map_or (λ thread. turn_accesses state thread) (picked state) []
accesses_of state t other = if is_thread state t then call_accesses state t other else []

-- the accesses of a line, in the order in which they are made
abbrev pub accesses : State → Line → List Access
accesses state line = accesses_of state line.thread line.call

-- one word, if the address is a word's and the access is allowed
abbrev pub word_under : State → ℕ → ℕ → Right → ℕ
word_under state t address right = if is_aligned address && allowed state t address right then 1 else 0

-- how many words a call loads or stores
abbrev pub call_words : State → ℕ → Call → ℕ
call_words state t (call.Load a) = word_under state t a R
call_words state t (call.Store a value) = word_under state t a W
call_words state t _ = 0

abbrev pub instruction_words : State → ℕ → ThreadRow → Option Instr → ℕ
instruction_words state t thread (Some (op.Load a b i)) = word_under state t (operand thread b i) R
instruction_words state t thread (Some (op.Store a b i)) = word_under state t (operand thread b i) W
instruction_words state t thread (Some op.Sys) = call_words state t (script_call thread)
instruction_words state t thread _ = 0

-- the word that is fetched, whatever it spells, and the words that its instruction loads or stores
abbrev pub turn_words : State → Thread → ℕ
turn_words state thread =
    if allowed state thread.number thread.row.pc X then 1 + instruction_words state thread.number thread.row (fetched state thread) else 0

abbrev pub words_by : State → ℕ → Call → ℕ
words_by state t call.Turn = option_map_or (λ thread. turn_words state thread) (turning state t) 0
words_by state t call.Next = option_map_or (λ thread. turn_words state thread) (picked state) 0
words_by state t other = if is_thread state t then call_words state t other else 0

-- how many words a line itself loads, fetches or stores
abbrev pub line_words : State → Line → ℕ
line_words state line = words_by state line.thread line.call
