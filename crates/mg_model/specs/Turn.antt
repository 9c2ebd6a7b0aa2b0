-- Turns: a thread runs one word of its script.
use Rattle.std.specs.{Option.{option_map_or, option_or}, Prelude.{ℕ, ◌+◌, ◌-◌, ◌*◌, ◌%◌, ◌^◌, ◌==◌, ◌&&◌, nat_le}}
use Rattle.std.specs.Prelude.{nat_lt, Bool, true, false, not, List, [], ◌∷◌, if◌then◌else◌, find, Option, Some, None}
use Rattle.mg_model.specs.{Access.allowed, BankCalls.{balance, open_account, pay}, Domains.{apdadd, apddel, apdlist}}
use Rattle.mg_model.specs.{Domains.{pdx, ret, row_of, with_thread}, ObjectCalls.{create, delete, entry, ext, info}}
use Rattle.mg_model.specs.{ObjectCalls.{is_aligned, load, pwadd, pwdel, recharge, store}, Objects.{with_word, word_at}}
use Rattle.mg_model.specs.{Refused.{Answer, checked, refusal_row}, Script.{decoded, jumped, operand, register}}
use Rattle.mg_model.specs.{Script.{with_register, word_end}, State.{State, Thread, ThreadRow}, Threads.end_thread}
use Rattle.mg_model.specs.{Threads.{make_thread, resume}, declared.{calls.Call.Call, instructions.Instr.Instr}}
use Rattle.mg_model.specs.declared.{limits.TheConstants.ALL_RIGHTS as all_rights, replies.Reply.Reply}
use Rattle.mg_model.specs.declared.{rights.Right.TheVariants.{R, W, X}, threads.{After.After, Fault.Fault}}
use Rattle.mg_model.specs.declared.threads.ThrState.{ThrState, TheVariants.{Ready, Stopped, Faulted}}
use Rattle.mg_model.specs.declared.calls.Call.TheVariants as call
use Rattle.mg_model.specs.declared.instructions.Instr.TheVariants as op
use Rattle.mg_model.specs.declared.replies.Refusal.TheVariants as refusal
use Rattle.mg_model.specs.declared.replies.Reply.TheVariants as reply
use Rattle.mg_model.specs.declared.threads.After.TheVariants as after_turn
use Rattle.mg_model.specs.declared.threads.Fault.TheVariants as fault

-- The calls of a thread that lives: a line makes them, and a script too. Of the other four, `turn`, `next`, `rent` and Bad,
-- only Bad is possible here: a script makes it when its registers spell no call. A line with one of the four has a row of
-- its own in `step`.
abbrev pub thread_call : State → ℕ → Call → Answer
thread_call state t (call.Load a) = load state t a
thread_call state t (call.Store a value) = store state t a value
thread_call state t (call.Create n account password) = create state n account password
thread_call state t (call.Delete b) = delete state t b
thread_call state t (call.Info b) = info state t b
thread_call state t (call.Pwadd b rights until) = pwadd state t b rights until
thread_call state t (call.Pwdel b password) = pwdel state t b password
thread_call state t (call.Entry b off) = entry state t b off
thread_call state t (call.Ext b clist password) = ext state t b clist password
thread_call state t (call.Recharge b account password) = recharge state t b account password
thread_call state t (call.Apdadd clist password) = apdadd state t clist password
thread_call state t (call.Apddel index) = apddel state t index
thread_call state t call.Apdlist = apdlist state t
thread_call state t (call.Pdx a mask) = pdx state t a mask
thread_call state t call.Ret = ret state t
thread_call state t (call.Thread pc) = make_thread state t pc
thread_call state t (call.End i) = end_thread state t i
thread_call state t (call.Resume i) = resume state t i
thread_call state t (call.Account account password amount) = open_account state account password amount
thread_call state t (call.Pay account password to amount) = pay state account password to amount
thread_call state t (call.Balance account password) = balance state account password
thread_call state t other = (state, reply.No refusal.Syntax)

-- the rights of a `pwadd` by a script are given as their bits
abbrev pub script_pwadd : ℕ → ℕ → Option ℕ → Call
script_pwadd b rights until = if nat_le 1 rights && nat_le rights all_rights then call.Pwadd b rights until else call.Bad

-- the call that a thread's registers spell: register 0 has its number, and from register 1 on come its arguments
abbrev pub script_call : ThreadRow → Call
script_call thread =
    let r = λ (k : ℕ). register thread k in
    if r 0 == 1 then call.Load (r 1)
    else if r 0 == 2 then call.Store (r 1) (r 2)
    else if r 0 == 3 then call.Create (r 1) (r 2) (r 3)
    else if r 0 == 4 then call.Delete (r 1)
    else if r 0 == 5 then call.Info (r 1)
    else if r 0 == 6 then script_pwadd (r 1) (r 2) None
    else if r 0 == 7 then call.Pwdel (r 1) (r 2)
    else if r 0 == 8 then call.Entry (r 1) (r 2)
    else if r 0 == 9 then call.Ext (r 1) (r 2) (r 3)
    else if r 0 == 10 then call.Recharge (r 1) (r 2) (r 3)
    else if r 0 == 11 then call.Apdadd (r 1) (r 2)
    else if r 0 == 12 then call.Apddel (r 1)
    else if r 0 == 13 then call.Thread (r 1)
    else if r 0 == 14 then call.End (r 1)
    else if r 0 == 15 then call.Resume (r 1)
    else if r 0 == 16 then call.Account (r 1) (r 2) (r 3)
    else if r 0 == 17 then call.Pay (r 1) (r 2) (r 3) (r 4)
    else if r 0 == 18 then call.Balance (r 1) (r 2)
    else if r 0 == 19 then script_pwadd (r 1) (r 2) (Some (r 3))
    else call.Bad

-- the values that an ok reply leaves in registers, in order; the bases of slots and the end of a turn leave no value
abbrev pub values_of : Reply → List ℕ
values_of (reply.Value w) = w ∷ []
values_of (reply.Count n) = n ∷ []
values_of (reply.Made base password) = base ∷ password ∷ []
values_of (reply.Opened number password) = number ∷ password ∷ []
values_of (reply.About base pages account passwords entries extension) = base ∷ pages ∷ account ∷ passwords ∷ entries ∷ extension ∷ []
values_of (reply.Funds balance owed pages) = balance ∷ owed ∷ pages ∷ []
values_of (reply.Collected period rate paid) = period ∷ rate ∷ paid ∷ []
values_of _ = []

-- these values are in the registers from register k on
abbrev pub with_registers : ThreadRow → ℕ → List ℕ → ThreadRow
with_registers thread k [] = thread
with_registers thread k (value ∷ values) = with_registers (with_register thread k value) (k + 1) values

-- A call by a script, and what its thread sees of the answer. If the call is refused, register 0 gets the refusal's number.
-- If it is ok, the row changes so.
abbrev pub with_answer : ℕ → (Reply → ThreadRow → ThreadRow) → Answer → State
with_answer t on_ok (state, reply.No word) = with_thread state t (λ thread. with_register thread 0 (refusal_row word).0)
with_answer t on_ok (state, said) = with_thread state t (on_ok said)

-- the thread faults, and nothing else of it changes
abbrev pub faulted : State → ℕ → Fault → State
faulted state t kind = with_thread state t (λ thread. record thread { state = Faulted kind })

-- the state with this row in place of the thread's
abbrev pub put_row : State → ℕ → ThreadRow → State
put_row state t thread = with_thread state t (λ _. thread)

-- a load or a store by a script: the address is tested first, then the right
abbrev pub unless_faulted : State → ℕ → ℕ → Bool → State → State
unless_faulted state t address may done =
    if not (is_aligned address) then faulted state t fault.Align
    else if not may then faulted state t fault.Denied
    else done

-- Runs the instruction at `here`. `state` has the thread as it was before, and `moved` is its row with the pc advanced. An
-- instruction that faults leaves the pc at `here`: the row of before gets the fault.
abbrev pub run_instruction : State → ℕ → ℕ → ThreadRow → Instr → State
run_instruction state t here moved op.Halt = put_row state t (record moved { state = Stopped })
run_instruction state t here moved (op.Set a i) = put_row state t (with_register moved a i)
run_instruction state t here moved (op.High a i) = put_row state t (with_register moved a (register moved a % 2 ^ 32 + i * 2 ^ 32))
run_instruction state t here moved (op.Add a b c) = put_row state t (with_register moved a ((register moved b + register moved c) % word_end))
run_instruction state t here moved (op.Sub a b c) =
    put_row state t (with_register moved a ((register moved b + word_end - register moved c) % word_end))
run_instruction state t here moved (op.Lt a b c) =
    put_row state t (with_register moved a (if nat_lt (register moved b) (register moved c) then 1 else 0))
run_instruction state t here moved (op.Load a b i) =
    let address = operand moved b i in
    unless_faulted state t address (allowed state t address R) (put_row state t (with_register moved a (word_at state.objects address)))
run_instruction state t here moved (op.Store a b i) =
    let address = operand moved b i in
    unless_faulted state t address (allowed state t address W)
    (put_row (record state { objects = with_word state.objects address (register moved a) }) t moved)
run_instruction state t here moved (op.Jump i) = put_row state t (jumped moved here i)
run_instruction state t here moved (op.Jz a i) = put_row state t (if register moved a == 0 then jumped moved here i else moved)
run_instruction state t here moved (op.Jnz a i) = put_row state t (if register moved a == 0 then moved else jumped moved here i)
run_instruction state t here moved (op.Pdx a b) =
    let advanced = put_row state t moved in
    let mask = register moved b in
    with_answer t (λ _ entered. with_register entered 0 0)
    (if nat_lt 255 mask then (advanced, reply.No refusal.Syntax) else pdx advanced t (register moved a) mask)
run_instruction state t here moved op.Ret = with_answer t (λ _ returned. returned) (ret (put_row state t moved) t)
run_instruction state t here moved op.Yield = put_row state t moved
run_instruction state t here moved op.Sys =
    with_answer t (λ said caller. with_registers caller 0 (0 ∷ values_of said))
    (thread_call (put_row state t moved) t (script_call moved))

-- the pc is first advanced by the width of a word; a word that is no instruction faults, and the pc stays
abbrev pub run_word : State → ℕ → ThreadRow → Option Instr → State
run_word state t thread None = faulted state t fault.Opcode
run_word state t thread (Some instr) = run_instruction state t thread.pc (record thread { pc = (thread.pc + 8) % word_end }) instr

-- a thread that is left in this state by its turn
abbrev pub as_after : ThrState → After
as_after Ready = after_turn.Ready
as_after Stopped = after_turn.Stopped
as_after (Faulted kind) = after_turn.Faulted kind

-- what the thread is after its turn
abbrev pub outcome_of : State → ℕ → After
outcome_of state t = option_map_or (λ (thread : ThreadRow). as_after thread.state) (row_of state t) after_turn.Ended

-- the state after the turn of a thread with this row
abbrev pub turned : State → ℕ → ThreadRow → State
turned state t thread =
    if allowed state t thread.pc X then run_word state t thread (decoded (word_at state.objects thread.pc))
    else faulted state t fault.Denied

abbrev pub turn_state : State → ℕ → State
turn_state state t = option_map_or (λ thread. turned state t thread) (row_of state t) state

abbrev pub is_ready : ThrState → Bool
is_ready Ready = true
is_ready _ = false

abbrev pub thread_is_ready : State → ℕ → Bool
thread_is_ready state t = option_map_or (λ (thread : ThreadRow). is_ready thread.state) (row_of state t) false

-- `turn`
abbrev pub turn : State → ℕ → Answer
turn state t =
    checked state ((not (thread_is_ready state t), refusal.NotReady) ∷ [])
    (turn_state state t, reply.Turned (outcome_of (turn_state state t) t))

-- the least number above the cursor of a thread that is Ready, else the least of a Ready thread; the threads are in order
abbrev pub ready_above : ℕ → List Thread → Option Thread
ready_above cursor threads = find (λ (thread : Thread). is_ready thread.row.state && nat_lt cursor thread.number) threads

abbrev pub picked : State → Option Thread
picked state = option_or (ready_above state.counters.cursor state.threads) (ready_above 0 state.threads)

-- the cursor becomes the thread that runs, and then it has its turn
abbrev pub run_next : State → Option Thread → Answer
run_next state None = (state, reply.No refusal.Idle)
run_next state (Some thread) =
    let before = record state { counters = record state.counters { cursor = thread.number } } in
    (turn_state before thread.number, reply.Ran thread.number (outcome_of (turn_state before thread.number) thread.number))

-- `next`
abbrev pub next : State → Answer
next state = run_next state (picked state)
