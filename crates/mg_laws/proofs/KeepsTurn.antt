-- A thread's calls and its turns keep the state well formed.
use Rattle.mg_laws.proofs.{Keeps.unless_refused-keeps, KeepsBank.{balance-keeps, open_account-keeps, pay-keeps}, KeepsCreate.create-keeps}
use Rattle.mg_laws.proofs.{KeepsDomains.{apdadd-keeps, apddel-keeps, find-All, pdx-keeps, ret-keeps}, KeepsObjects.{delete-keeps, entry-keeps}}
use Rattle.mg_laws.proofs.KeepsObjects.{ext-keeps, info-keeps, load-keeps, objects-keep, pwadd-keeps, pwdel-keeps, recharge-keeps, store-keeps}
use Rattle.mg_laws.proofs.{KeepsRows.{KeepsRow, row-formed, with_thread-keeps}, KeepsThreads.{end_thread-keeps, make_thread-keeps, resume-keeps}}
use Rattle.mg_laws.proofs.{KeptObjects.AreObjects-with_word, KeptRegisters.{HasImmediate, advanced-keeps, decoded-immediate, jumped-keeps}}
use Rattle.mg_laws.proofs.KeptRegisters.{kept_register, kept_registers, kept_same, kept_state, refusal_number-word, register-word}
use Rattle.{mg_laws.proofs.ReplyWords.{thread_call-words, word_at-word}, mg_model.specs.{Abbreviations.{advanced, refusal_number}, Access.allowed}}
use Rattle.mg_model.specs.{Domains.{pdx, ret, row_of}, Objects.{with_word, word_at}, Ranges.{IsThreadRow, IsWord}, Refused.Answer, Script.decoded}
use Rattle.mg_model.specs.{Script.{jumped, operand, register, with_register}, State.{State, Thread, ThreadRow}, Turn.{faulted, is_ready, next}}
use Rattle.mg_model.specs.Turn.{picked, put_row, ready_above, run_instruction, run_next, run_word, with_answer, script_call, thread_call, turn}
use Rattle.mg_model.specs.{Turn.{turn_state, turned, unless_faulted, values_of, with_registers}, WellFormed.{HasRanges, IsThread, IsWellFormed}}
use Rattle.mg_model.specs.declared.{calls.Call.Call, instructions.Instr.Instr, replies.Reply.Reply, rights.Right.TheVariants.{R, W, X}}
use Rattle.{mg_model.specs.declared.threads.{Fault.Fault, ThrState.TheVariants.{Faulted, Stopped}}, std.proofs.Common.{ℕ, ◌+◌, ◌*◌, ◌%◌, ◌^◌, ◌≤◌}}
use Rattle.std.proofs.Common.{◌≡◌, Bool, not, cond, eqb, ltb, ◌&&◌, All, ◌∷◌, length, Option, Some, None, refl, sym, ◌∙◌, subst, arith}
use Rattle.std.{proofs.{Math.Nat.mod-lt, lemmas.{Bool.cond_both, List.Elements.All-cons, Option.same_Some}}, specs.Option.{ForSome, option_map_or}}
use Rattle.std.specs.Option.{option_or}
use Rattle.mg_model.specs.declared.calls.Call.TheVariants as call
use Rattle.mg_model.specs.declared.instructions.Instr.TheVariants as op
use Rattle.mg_model.specs.declared.replies.Refusal.TheVariants as refusal
use Rattle.mg_model.specs.declared.replies.Reply.TheVariants as reply
use Rattle.mg_model.specs.declared.threads.Fault.TheVariants as fault

pub thread_call-keeps : (state : State) (t : ℕ) (made : Call) → IsWellFormed state → HasRanges made → IsWellFormed (thread_call state t made).0
thread_call-keeps state t (call.Load a) formed ranges = load-keeps state t a formed
thread_call-keeps state t (call.Store a value) formed ranges = store-keeps state t a value formed ranges.1
thread_call-keeps state t (call.Create n account password) formed ranges = create-keeps state n account password formed
thread_call-keeps state t (call.Delete b) formed ranges = delete-keeps state t b formed
thread_call-keeps state t (call.Info b) formed ranges = info-keeps state t b formed
thread_call-keeps state t (call.Pwadd b rights until) formed ranges = pwadd-keeps state t b rights until formed ranges.1
thread_call-keeps state t (call.Pwdel b password) formed ranges = pwdel-keeps state t b password formed
thread_call-keeps state t (call.Entry b off) formed ranges = entry-keeps state t b off formed
thread_call-keeps state t (call.Ext b clist password) formed ranges = ext-keeps state t b clist password formed ranges.1 ranges.2
thread_call-keeps state t (call.Recharge b account password) formed ranges = recharge-keeps state t b account password formed
thread_call-keeps state t (call.Apdadd clist password) formed ranges = apdadd-keeps state t clist password formed ranges.0 ranges.1
thread_call-keeps state t (call.Apddel index) formed ranges = apddel-keeps state t index formed
thread_call-keeps state t call.Apdlist formed ranges = formed
thread_call-keeps state t (call.Pdx a mask) formed ranges = pdx-keeps state t a mask formed ranges.0
thread_call-keeps state t call.Ret formed ranges = ret-keeps state t formed
thread_call-keeps state t (call.Thread pc) formed ranges = make_thread-keeps state t pc formed ranges
thread_call-keeps state t (call.End i) formed ranges = end_thread-keeps state t i formed
thread_call-keeps state t (call.Resume i) formed ranges = resume-keeps state t i formed
thread_call-keeps state t (call.Account account password amount) formed ranges = open_account-keeps state account password amount formed
thread_call-keeps state t (call.Pay account password to amount) formed ranges = pay-keeps state account password to amount formed
thread_call-keeps state t (call.Balance account password) formed ranges = balance-keeps state account password formed
thread_call-keeps state t call.Turn formed ranges = formed
thread_call-keeps state t call.Next formed ranges = formed
thread_call-keeps state t call.Rent formed ranges = formed
thread_call-keeps state t call.Bad formed ranges = formed

script_call-ranges : (row : ThreadRow) → IsThreadRow row → HasRanges (script_call row)
script_call-ranges row is = grind arith

-- another row in place of the thread's
pub put_row-keeps : (state : State) (t : ℕ) (row new : ThreadRow) → IsWellFormed state → row_of state t ≡ Some row → KeepsRow row new → IsWellFormed (put_row state t new)
put_row-keeps state t row new formed is kept =
    with_thread-keeps state t (λ _. new) formed (λ other there _. subst (λ (x : ThreadRow). KeepsRow x new) (same_Some _ _ (sym is ∙ there)) kept)

pub faulted-keeps : (state : State) (t : ℕ) (kind : Fault) → IsWellFormed state → IsWellFormed (faulted state t kind)
faulted-keeps state t kind formed = with_thread-keeps state t (λ thread. record thread { state = Faulted kind }) formed (λ row _ is. kept_state row row (Faulted kind) (kept_same row is))

unless_faulted-keeps : (state : State) (t address : ℕ) (may : Bool) (done : State) → IsWellFormed state → IsWellFormed done → IsWellFormed (unless_faulted state t address may done)
unless_faulted-keeps state t address may done formed after =
    cond_both (not (eqb (address % 8) 0)) _ _ IsWellFormed (λ _. faulted-keeps state t fault.Align formed)
    (λ _. cond_both (not may) _ _ IsWellFormed (λ _. faulted-keeps state t fault.Denied formed) (λ _. after))

-- a call by a script
with_answer-keeps : (t : ℕ) (on_ok : Reply → ThreadRow → ThreadRow) (answer : Answer) → IsWellFormed answer.0 → ((row : ThreadRow) → IsThreadRow row → KeepsRow row (on_ok answer.1 row)) → IsWellFormed (with_answer t on_ok answer)
with_answer-keeps t on_ok (state, reply.No word) formed keeps =
    with_thread-keeps state t (λ thread. with_register thread 0 (refusal_number word)) formed (λ row _ is. kept_register row row 0 (refusal_number word) (kept_same row is) (refusal_number-word word))
with_answer-keeps t on_ok (state, said) formed keeps = with_thread-keeps state t (on_ok said) formed (λ row _ is. keeps row is)

-- another word of an object
pub with_word-keeps : (state : State) (a value : ℕ) → IsWellFormed state → IsWord value → IsWellFormed (record state { objects = with_word state.objects a value })
with_word-keeps state a value formed word =
    objects-keep state (with_word state.objects a value) formed (AreObjects-with_word state.settings.frames (length state.accounts) a value state.objects word formed.objects)

module _ (state : State) (t : ℕ) (row thread : ThreadRow) (here : ℕ) (formed : IsWellFormed state) (there : row_of state t ≡ Some row) (kept : KeepsRow row thread) (aligned : here % 8 ≡ 0) where
  run-keeps : (instr : Instr) → HasImmediate instr → IsWellFormed (run_instruction state t here thread instr)
  run-keeps op.Halt has = put_row-keeps state t row _ formed there (kept_state row thread Stopped kept)
  run-keeps (op.Set a i) has = put_row-keeps state t row _ formed there (kept_register row thread a i kept (omega arith))
  run-keeps (op.High a i) has = put_row-keeps state t row _ formed there (kept_register row thread a (register thread a % 2 ^ 32 + i * 2 ^ 32) kept (omega arith))
  run-keeps (op.Add a b c) has = put_row-keeps state t row _ formed there (kept_register row thread a _ kept (mod-lt _ (omega arith)))
  run-keeps (op.Sub a b c) has = put_row-keeps state t row _ formed there (kept_register row thread a _ kept (mod-lt _ (omega arith)))
  run-keeps (op.Lt a b c) has =
      let bit : IsWord (cond (ltb (register thread b) (register thread c)) 1 0) = cond_both (ltb (register thread b) (register thread c)) 1 0 IsWord (λ _. omega arith) (λ _. omega arith) in
      put_row-keeps state t row _ formed there (kept_register row thread a _ kept bit)
  run-keeps (op.Load a b i) has =
      let address : ℕ = operand thread b i in
      unless_faulted-keeps state t address (allowed state t address R) _ formed
      (put_row-keeps state t row _ formed there (kept_register row thread a (word_at state.objects address) kept (word_at-word state address formed)))
  run-keeps (op.Store a b i) has =
      let address : ℕ = operand thread b i in
      unless_faulted-keeps state t address (allowed state t address W) _ formed
      (put_row-keeps (record state { objects = with_word state.objects address (register thread a) }) t row thread (with_word-keeps state address (register thread a) formed (register-word thread a kept.row)) there kept)
  run-keeps (op.Jump i) has = put_row-keeps state t row _ formed there (jumped-keeps row thread here i kept aligned)
  run-keeps (op.Jz a i) has =
      put_row-keeps state t row _ formed there
      (cond_both (eqb (register thread a) 0) (jumped thread here i) thread (KeepsRow row) (λ _. jumped-keeps row thread here i kept aligned) (λ _. kept))
  run-keeps (op.Jnz a i) has =
      put_row-keeps state t row _ formed there
      (cond_both (eqb (register thread a) 0) thread (jumped thread here i) (KeepsRow row) (λ _. kept) (λ _. jumped-keeps row thread here i kept aligned))
  run-keeps (op.Pdx a b) has =
      let mask : ℕ = register thread b in
      let before : State = put_row state t thread in
      let formed' : IsWellFormed before = put_row-keeps state t row thread formed there kept in
      with_answer-keeps t (λ _ entered. with_register entered 0 0) (cond (ltb 255 mask) (before, reply.No refusal.Syntax) (pdx before t (register thread a) mask))
      (cond_both (ltb 255 mask) (before, reply.No refusal.Syntax) (pdx before t (register thread a) mask) (λ (answer : Answer). IsWellFormed answer.0)
      (λ _. formed')
      (λ _. pdx-keeps before t (register thread a) mask formed' (register-word thread a kept.row)))
      (λ r is. kept_register r r 0 0 (kept_same r is) (omega arith))
  run-keeps op.Ret has =
      let before : State = put_row state t thread in
      let formed' : IsWellFormed before = put_row-keeps state t row thread formed there kept in
      with_answer-keeps t (λ _ returned. returned) (ret before t) (ret-keeps before t formed') (λ r is. kept_same r is)
  run-keeps op.Yield has = put_row-keeps state t row thread formed there kept
  run-keeps op.Sys has =
      let before : State = put_row state t thread in
      let formed' : IsWellFormed before = put_row-keeps state t row thread formed there kept in
      let answer : Answer = thread_call before t (script_call thread) in
      let words : All IsWord (0 ∷ values_of answer.1) = All-cons IsWord 0 (values_of answer.1) (omega arith) (thread_call-words before t (script_call thread) formed').words in
      with_answer-keeps t (λ said caller. with_registers caller 0 (0 ∷ values_of said)) answer (thread_call-keeps before t (script_call thread) formed' (script_call-ranges thread kept.row))
      (λ r is. kept_registers r r 0 (0 ∷ values_of answer.1) (kept_same r is) words)

-- the turn of a thread that lives
run_word-keeps : (state : State) (t : ℕ) (row : ThreadRow) (o : Option Instr) → IsWellFormed state → row_of state t ≡ Some row → ForSome o HasImmediate → IsWellFormed (run_word state t row o)
run_word-keeps state t row None formed there has = faulted-keeps state t fault.Opcode formed
run_word-keeps state t row (Some instr) formed there has =
    let is : IsThreadRow row = row-formed state t row formed there in
    run-keeps state t row (advanced row) row.pc formed there (advanced-keeps row is) is.aligned instr (has instr refl)

turned-keeps : (state : State) (t : ℕ) (row : ThreadRow) → IsWellFormed state → row_of state t ≡ Some row → IsWellFormed (turned state t row)
turned-keeps state t row formed there =
    cond_both (allowed state t row.pc X) _ _ IsWellFormed
    (λ _. run_word-keeps state t row (decoded (word_at state.objects row.pc)) formed there (λ instr same. decoded-immediate (word_at state.objects row.pc) instr (word_at-word state row.pc formed) same))
    (λ _. faulted-keeps state t fault.Denied formed)

turn_of_row : (state : State) (t : ℕ) (o : Option ThreadRow) → IsWellFormed state → row_of state t ≡ o → IsWellFormed (option_map_or (λ thread. turned state t thread) o state)
turn_of_row state t None formed is = formed
turn_of_row state t (Some row) formed is = turned-keeps state t row formed is

pub turn_state-keeps : (state : State) (t : ℕ) → IsWellFormed state → IsWellFormed (turn_state state t)
turn_state-keeps state t formed = turn_of_row state t (row_of state t) formed refl

pub turn-keeps : (state : State) (t : ℕ) → IsWellFormed state → IsWellFormed (turn state t).0
turn-keeps state t formed = unless_refused-keeps _ state _ formed (λ _. turn_state-keeps state t formed)

-- the cursor
pub with_cursor-keeps : (state : State) (n : ℕ) → IsWellFormed state → n ≤ 256 → IsWellFormed (record state { counters = record state.counters { cursor = n } })
with_cursor-keeps state n formed few = grind arith

run_next-keeps : (state : State) (o : Option Thread) → IsWellFormed state → ForSome o (IsThread state.counters.births) → IsWellFormed (run_next state o).0
run_next-keeps state None formed each = formed
run_next-keeps state (Some thread) formed each =
    turn_state-keeps (record state { counters = record state.counters { cursor = thread.number } }) thread.number (with_cursor-keeps state thread.number formed (each thread refl).few)

either-some : (P : Thread → Type 0) (a b : Option Thread) → ForSome a P → ForSome b P → ForSome (option_or a b) P
either-some P None b first second = second
either-some P (Some thread) b first second = first

pub next-keeps : (state : State) → IsWellFormed state → IsWellFormed (next state).0
next-keeps state formed =
    run_next-keeps state (picked state) formed
    (either-some (IsThread state.counters.births) (ready_above state.counters.cursor state.threads) (ready_above 0 state.threads)
    (λ thread is. find-All (IsThread state.counters.births) (λ (x : Thread). is_ready x.row.state && ltb state.counters.cursor x.number) state.threads thread formed.threads.each is)
    (λ thread is. find-All (IsThread state.counters.births) (λ (x : Thread). is_ready x.row.state && ltb 0 x.number) state.threads thread formed.threads.each is))
