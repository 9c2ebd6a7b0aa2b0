-- What an instruction requires of the machine, and how the turn continues with it.
use Rattle.std.specs.{Option.option_map_or, Prelude.{ℕ, ◌≡◌, ◌<◌, ◌+◌, ◌-◌, ◌%◌, ◌++◌, nat_le, Bool, true, false, List}}
use Rattle.std.specs.Prelude.{[], ◌∷◌, if◌then◌else◌, length, take, Option, Some, None}
use Rattle.mg_model.specs.{Abbreviations.{advanced, refusal_number}, Access.last_slots, Domains.last_back}
use Rattle.mg_model.specs.{Script.{decoded, with_register, word_end}, State.{CallFrame, State, ThreadRow}, Turn.put_row}
use Rattle.mg_model.specs.{Turn.run_instruction, declared.{calls.Call.Call, replies.{Refusal.Refusal, Reply.Reply}}}
use Rattle.mg_model.specs.declared.threads.{Fault.Fault, ThrState.TheVariants.Faulted}
use Rattle.mg_script.specs.{Actions.{call_of, called_by, carried_out, settled}, declared.actions.Action.Action}
use Rattle.mg_script.specs.declared.effects.{Effect.Effect, Standing.Standing}
use Rattle.mg_model.specs.declared.calls.Call.TheVariants as call
use Rattle.mg_model.specs.declared.replies.Refusal.TheVariants as refusal
use Rattle.mg_model.specs.declared.replies.Reply.TheVariants as reply
use Rattle.mg_model.specs.declared.threads.Fault.TheVariants as fault
use Rattle.mg_script.specs.declared.actions.Action.TheVariants as action
use Rattle.mg_script.specs.declared.effects.Effect.TheVariants as effect

-- the parts of a row that an instruction changes by itself, and the row with other such parts
abbrev pub standing : ThreadRow → Standing
standing thread = record { pc = thread.pc; state = thread.state; regs = thread.regs }

abbrev pub stood : Standing → ThreadRow → ThreadRow
stood stands thread = record thread { pc = stands.pc; state = stands.state; regs = stands.regs }

-- the action of an effect, for a thread with this row
abbrev pub action_of : ThreadRow → Effect → Action
action_of thread (effect.Next stands) = action.Next (stood stands thread)
action_of thread (effect.Load address to) = action.Load address to
action_of thread (effect.Store address value) = action.Store address value
action_of thread (effect.Pdx address mask) = action.Pdx address mask
action_of thread effect.Ret = action.Ret
action_of thread effect.Sys = action.Sys

-- The state after the turn of thread t, whose row this is with its pc advanced, and the call that the effect makes.
abbrev pub finished : State → ℕ → ThreadRow → Effect → State
finished state t thread effect = carried_out state t thread (action_of thread effect)

abbrev pub made_by : ThreadRow → Effect → Call
made_by thread effect = called_by thread (action_of thread effect)

-- Whether a script can make this call: `apdlist`, `pdx`, `ret`, `turn`, `next` and `rent` have no number. Registers that
-- spell no call make Bad.
abbrev pub is_spelled : Call → Bool
is_spelled call.Apdlist = false
is_spelled (call.Pdx address mask) = false
is_spelled call.Ret = false
is_spelled call.Turn = false
is_spelled call.Next = false
is_spelled call.Rent = false
is_spelled other = true

-- a load stores its word in one of the eight registers, and a pc is a multiple of 8
abbrev pub HasPlace : Effect → Type 0
HasPlace (effect.Next stands) = stands.pc % 8 ≡ 0
HasPlace (effect.Load address to) = to < 8
HasPlace other = Unit {0}

-- a row after the turn has the frames of the row before it
abbrev pub HasFrames : ThreadRow → Effect → Type 0
HasFrames thread (effect.Next stands) = (stood stands thread).frames ≡ thread.frames
HasFrames thread other = Unit {0}

-- the call of a turn, by the word that was fetched, or None if it may not be fetched
abbrev pub begun : ThreadRow → Option ℕ → Call
begun thread None = call.Bad
begun thread (Some word) = option_map_or (λ instr. call_of thread instr) (decoded word) call.Bad

-- a call that a script spelled is one that it can make
abbrev pub IsSpelledBy : Effect → Call → Type 0
IsSpelledBy effect.Sys made = is_spelled made ≡ true
IsSpelledBy other made = Unit {0}

-- the fault of a load or a store that is refused
abbrev pub fault_of : Refusal → Fault
fault_of refusal.Align = fault.Align
fault_of other = fault.Denied

abbrev pub faulted_row : Fault → ThreadRow → ThreadRow
faulted_row kind thread = record thread { state = Faulted kind }

-- the state after the turn of a thread with this row, by the word that was fetched
abbrev pub turned_on : State → ℕ → ThreadRow → Option ℕ → State
turned_on state t thread None = put_row state t (faulted_row fault.Denied thread)
turned_on state t thread (Some word) = option_map_or (λ instr. run_instruction state t thread.pc (advanced thread) instr) (decoded word) (put_row state t (faulted_row fault.Opcode thread))

-- the row after a call that was refused
abbrev pub refused_row : Refusal → ThreadRow → ThreadRow
refused_row word thread = with_register (advanced thread) 0 (refusal_number word)

-- the frames with the last one returning to the next word; the bottom one returns nowhere
abbrev pub returning_on : List CallFrame → List CallFrame
returning_on frames =
    if nat_le (length frames) 1 then frames
    else take (length frames - 1) frames ++ record { back = (last_back frames + 8) % word_end; slots = last_slots frames } ∷ []

-- The row of a thread that made the call of an effect, from the row after the call.
abbrev pub loaded : ℕ → Reply → ThreadRow → ThreadRow
loaded to (reply.Value word) thread = with_register (advanced thread) to word
loaded to (reply.No word) thread = faulted_row (fault_of word) thread
loaded to other thread = thread

abbrev pub stored : Reply → ThreadRow → ThreadRow
stored reply.Done thread = advanced thread
stored (reply.No word) thread = faulted_row (fault_of word) thread
stored other thread = thread

abbrev pub entered : Reply → ThreadRow → ThreadRow
entered (reply.No word) thread = refused_row word thread
entered other thread = with_register (record thread { frames = returning_on thread.frames }) 0 0

abbrev pub returned : Reply → ThreadRow → ThreadRow
returned (reply.No word) thread = refused_row word thread
returned other thread = thread

abbrev pub resumed : Effect → Reply → ThreadRow → ThreadRow
resumed (effect.Next stands) said thread = stood stands thread
resumed (effect.Load address to) said thread = loaded to said thread
resumed (effect.Store address value) said thread = stored said thread
resumed (effect.Pdx address mask) said thread = entered said thread
resumed effect.Ret said thread = returned said thread
resumed effect.Sys said thread = settled said (advanced thread)
