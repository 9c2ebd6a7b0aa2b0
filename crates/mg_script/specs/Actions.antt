-- What an instruction does to the machine, as an action with the thread's whole row.
use Rattle.std.specs.Prelude.{ℕ, ◌≡◌, ◌<◌, ◌∷◌, nat_lt, if◌then◌else◌}
use Rattle.mg_model.specs.{Abbreviations.refusal_number, Access.allowed, Domains.{pdx, ret}, Objects.with_word}
use Rattle.mg_model.specs.{Objects.word_at, Script.{operand, register, with_register}, State.{State, ThreadRow}}
use Rattle.mg_model.specs.Turn.{put_row, with_answer, script_call, thread_call, unless_faulted, values_of}
use Rattle.mg_model.specs.{Turn.with_registers, declared.{calls.Call.Call, instructions.Instr.Instr}}
use Rattle.mg_model.specs.declared.{replies.Reply.Reply, rights.Right.TheVariants.{R, W}}
use Rattle.mg_script.specs.declared.actions.Action.{Action}
use Rattle.mg_model.specs.declared.calls.Call.TheVariants as call
use Rattle.mg_model.specs.declared.instructions.Instr.TheVariants as op
use Rattle.mg_model.specs.declared.replies.Refusal.TheVariants as refusal
use Rattle.mg_model.specs.declared.replies.Reply.TheVariants as reply
use Rattle.mg_script.specs.declared.actions.Action.TheVariants as action

-- The row of a thread after the reply to a call that it made by `sys`: register 0 has the refusal's number, or 0 and the next
-- registers the values.
abbrev pub settled : Reply → ThreadRow → ThreadRow
settled (reply.No word) thread = with_register thread 0 (refusal_number word)
settled said thread = with_registers thread 0 (0 ∷ values_of said)

-- The state after the turn of thread t. The row is the thread's with its pc advanced, and the action is what its instruction
-- requires.
abbrev pub carried_out : State → ℕ → ThreadRow → Action → State
carried_out state t thread (action.Next row) = put_row state t row
carried_out state t thread (action.Load address to) =
    unless_faulted state t address (allowed state t address R) (put_row state t (with_register thread to (word_at state.objects address)))
carried_out state t thread (action.Store address value) =
    unless_faulted state t address (allowed state t address W) (put_row (record state { objects = with_word state.objects address value }) t thread)
carried_out state t thread (action.Pdx address mask) =
    let before = put_row state t thread in
    with_answer t (λ _ entered. with_register entered 0 0) (if nat_lt 255 mask then (before, reply.No refusal.Syntax) else pdx before t address mask)
carried_out state t thread action.Ret = with_answer t (λ _ returned. returned) (ret (put_row state t thread) t)
carried_out state t thread action.Sys = with_answer t (λ said caller. settled said caller) (thread_call (put_row state t thread) t (script_call thread))

-- the call of a `pdx` with any mask
abbrev pub entering_call : ℕ → ℕ → Call
entering_call address mask = if nat_lt 255 mask then call.Bad else call.Pdx address mask

-- The call that an instruction makes. The row is the thread's. An instruction that makes none makes Bad, which changes nothing.
abbrev pub call_of : ThreadRow → Instr → Call
call_of thread (op.Load a b i) = call.Load (operand thread b i)
call_of thread (op.Store a b i) = call.Store (operand thread b i) (register thread a)
call_of thread (op.Pdx a b) = entering_call (register thread a) (register thread b)
call_of thread op.Ret = call.Ret
call_of thread op.Sys = script_call thread
call_of thread other = call.Bad

-- the same of an action
abbrev pub called_by : ThreadRow → Action → Call
called_by thread (action.Next row) = call.Bad
called_by thread (action.Load address to) = call.Load address
called_by thread (action.Store address value) = call.Store address value
called_by thread (action.Pdx address mask) = entering_call address mask
called_by thread action.Ret = call.Ret
called_by thread action.Sys = script_call thread

-- a load names one of the eight registers
abbrev pub HasRegister : Action → Type 0
HasRegister (action.Load address to) = to < 8
HasRegister other = Unit {0}

-- a row after the turn differs from the row before it in nothing but the pc, the state and the registers
abbrev pub OnlyMoves : ThreadRow → Action → Type 0
OnlyMoves thread (action.Next row) = row ≡ record thread { pc = row.pc; state = row.state; regs = row.regs }
OnlyMoves thread other = Unit {0}
