-- A thread's calls, its turns and all lines keep seats backed, except those that they end.
use Rattle.mg_laws.proofs.Backs.{first-backed, last-backed, none-backed, rests-backed, same-backed, unless_refused-backed, with_word-backed}
use Rattle.mg_laws.proofs.BacksObjects.{create-backed, delete-backed, entry-backed, ext-backed, pwadd-backed, pwdel-backed, recharge-backed}
use Rattle.mg_laws.proofs.{BacksObjects.store-backed, BacksThreads.{account-backed, apdadd-backed, apddel-backed, end-backed, frames-backed}}
use Rattle.mg_laws.proofs.{BacksThreads.{pay-backed, pdx-backed, rent-backed, resume-backed, ret-backed, thread-backed}, Finds.find-hit}
use Rattle.mg_laws.proofs.{KeepsRows.{find_at_place, found, row-formed, row_of-thread}, KeepsTurn.{put_row-keeps, with_cursor-keeps}}
use Rattle.mg_laws.{proofs.{KeptRegisters.advanced-keeps, Passed.unrefused}, specs.Backing.{CallsKeepBacked, StepsKeepBacked}}
use Rattle.mg_model.specs.{Abbreviations.{advanced, refusal_number}, Access.{allowed, thread_of}, Accesses.turning, Backed.{KeepsBacked, by_none}}
use Rattle.mg_model.specs.{Backed.{by_thread, by_word, ended_by_call, ended_by_instruction, ended_by_turn, ended_of}, Domains.{pdx, ret, row_of}}
use Rattle.mg_model.specs.{Objects.{with_word, word_at}, Refused.Answer, Script.{decoded, jumped, operand, register, with_register}, State.State}
use Rattle.mg_model.specs.{State.{Thread, ThreadRow}, Step.{of_thread, step, step_of}, Threads.is_thread, Turn.{faulted, is_ready, picked, put_row}}
use Rattle.mg_model.specs.Turn.{ready_above, run_instruction, run_next, run_word, with_answer, script_call, thread_call, thread_is_ready, turn}
use Rattle.mg_model.specs.{Turn.{turn_state, turned, unless_faulted, values_of, with_registers}, WellFormed.{IsThread, IsWellFormed}}
use Rattle.mg_model.specs.declared.{calls.Call.Call, instructions.Instr.Instr, replies.Reply.Reply, rights.Right.TheVariants.{R, W, X}}
use Rattle.{mg_model.specs.declared.{seats.Seat.Seat, threads.{Fault.Fault, ThrState.TheVariants.Faulted}}, std.proofs.Common.{arith, ℕ, List, []}}
use Rattle.std.proofs.Common.{◌∷◌, ◌+◌, ◌%◌, if◌then◌else◌, ◌≤◌, ◌≡◌, ◌&&◌, Bool, true, false, not, cond, eqb, ltb, Contains, Option, Some, None}
use Rattle.std.proofs.{Common.{refl, sym, ap, ◌∙◌, subst}, lemmas.{Bool.{cond_both, cond-true, not-false}, List.Elements.All-contains}}
use Rattle.std.{proofs.lemmas.Option.same_Some, specs.Option.{option_map_or, option_or}}
use Rattle.mg_model.specs.declared.calls.Call.TheVariants as call
use Rattle.mg_model.specs.declared.instructions.Instr.TheVariants as op
use Rattle.mg_model.specs.declared.replies.Refusal.TheVariants as refusal
use Rattle.mg_model.specs.declared.replies.Reply.TheVariants as reply
use Rattle.mg_model.specs.declared.threads.Fault.TheVariants as fault

pub call-backed : CallsKeepBacked (λ state t made. (thread_call state t made).0)
call-backed state t (call.Load a) formed = unless_refused-backed by_none state _ (state, _) (λ _. same-backed by_none state)
call-backed state t (call.Store a value) formed = store-backed state t a value
call-backed state t (call.Create n account password) formed = create-backed state n account password formed
call-backed state t (call.Delete b) formed = delete-backed state t b
call-backed state t (call.Info b) formed = unless_refused-backed by_none state _ (state, _) (λ _. same-backed by_none state)
call-backed state t (call.Pwadd b rights until) formed = pwadd-backed state t b rights until
call-backed state t (call.Pwdel b password) formed = pwdel-backed state t b password
call-backed state t (call.Entry b off) formed = entry-backed state t b off
call-backed state t (call.Ext b clist password) formed = ext-backed state t b clist password
call-backed state t (call.Recharge b account password) formed = recharge-backed state t b account password
call-backed state t (call.Apdadd clist password) formed = apdadd-backed state t clist password
call-backed state t (call.Apddel index) formed = apddel-backed state t index
call-backed state t (call.Pdx a mask) formed = pdx-backed state t a mask
call-backed state t call.Ret formed = ret-backed state t
call-backed state t (call.Thread pc) formed = thread-backed state t pc formed
call-backed state t (call.End i) formed = end-backed state t i
call-backed state t (call.Resume i) formed = resume-backed state t i
call-backed state t (call.Account account password amount) formed = account-backed state account password amount
call-backed state t (call.Pay account password to amount) formed = pay-backed state account password to amount
call-backed state t (call.Balance account password) formed = unless_refused-backed by_none state _ (state, _) (λ _. same-backed by_none state)
call-backed state t _ formed = same-backed _ state

-- the objects decide which seats a call ends
same_ended : (old new : State) (t : ℕ) (made : Call) → new.objects ≡ old.objects → ended_by_call new t made ≡ ended_by_call old t made
same_ended old new t made same = ap (λ objects. let state : State = record old { objects = objects } in ended_by_call state t made) same

-- a fault ends no seat
faulted-backed : (state : State) (t : ℕ) (kind : Fault) → KeepsBacked by_none state (faulted state t kind)
faulted-backed state t kind = frames-backed state t (λ thread. record thread { state = Faulted kind }) (λ row is. refl)

unless_faulted-backed : (ended : Seat → Bool) (state : State) (t address : ℕ) (may : Bool) (done : State) → KeepsBacked ended state done → KeepsBacked ended state (unless_faulted state t address may done)
unless_faulted-backed ended state t address may done keeps =
    let at_fault : (kind : Fault) → KeepsBacked ended state (faulted state t kind) = λ kind. none-backed ended state (faulted state t kind) (faulted-backed state t kind) in
    cond_both (not (eqb (address % 8) 0)) _ _ (KeepsBacked ended state) (λ _. at_fault fault.Align)
    (λ _. cond_both (not may) _ _ (KeepsBacked ended state) (λ _. at_fault fault.Denied) (λ _. keeps))

-- a call by a script, and what its thread sees of the answer
with_answer-backed : (ended : Seat → Bool) (old : State) (t : ℕ) (on_ok : Reply → ThreadRow → ThreadRow) (answer : Answer) → ((said : Reply) (row : ThreadRow) → (on_ok said row).frames ≡ row.frames) → KeepsBacked ended old answer.0 → KeepsBacked ended old (with_answer t on_ok answer)
with_answer-backed ended old t on_ok (state, reply.No word) same keeps = last-backed ended old state _ keeps (frames-backed state t (λ thread. with_register thread 0 (refusal_number word)) (λ row is. refl))
with_answer-backed ended old t on_ok (state, said) same keeps = last-backed ended old state _ keeps (frames-backed state t (on_ok said) (λ row is. same said row))

with_registers-frames : (row : ThreadRow) (k : ℕ) (values : List ℕ) → (with_registers row k values).frames ≡ row.frames
with_registers-frames row k [] = refl
with_registers-frames row k (value ∷ values) = with_registers-frames (with_register row k value) (k + 1) values

module _ (state : State) (t : ℕ) (row : ThreadRow) (formed : IsWellFormed state) (is : row_of state t ≡ Some row) where
  -- another row in place of the thread's, with its frames
  put-backed : (new : ThreadRow) → new.frames ≡ row.frames → KeepsBacked by_none state (put_row state t new)
  put-backed new same = frames-backed state t (λ _. new) (λ old there. same ∙ ap (λ (r : ThreadRow). r.frames) (same_Some row old (sym is ∙ there)))

  before_formed : IsWellFormed (put_row state t (advanced row))
  before_formed = put_row-keeps state t row (advanced row) formed is (advanced-keeps row (row-formed state t row formed is))

  -- a call that a script makes, once its pc is advanced
  then-backed : (ended : Seat → Bool) (new : State) → KeepsBacked ended (put_row state t (advanced row)) new → KeepsBacked ended state new
  then-backed ended new keeps = first-backed ended state (put_row state t (advanced row)) new (put-backed (advanced row) refl) keeps

  run-backed : (instr : Instr) → KeepsBacked (ended_by_instruction state t row (Some instr)) state (run_instruction state t row.pc (advanced row) instr)
  run-backed op.Halt = put-backed _ refl
  run-backed (op.Set a i) = put-backed _ refl
  run-backed (op.High a i) = put-backed _ refl
  run-backed (op.Add a b c) = put-backed _ refl
  run-backed (op.Sub a b c) = put-backed _ refl
  run-backed (op.Lt a b c) = put-backed _ refl
  run-backed (op.Load a b i) =
      let address : ℕ = operand row b i in
      unless_faulted-backed by_none state t address (allowed state t address R) _ (put-backed _ refl)
  run-backed (op.Store a b i) =
      let address : ℕ = operand row b i in
      let mid : State = record state { objects = with_word state.objects address (register row a) } in
      unless_faulted-backed (by_word address) state t address (allowed state t address W) _
      (last-backed (by_word address) state mid (put_row mid t (advanced row)) (with_word-backed state address (register row a))
      (frames-backed mid t (λ _. advanced row) (λ old there. ap (λ (r : ThreadRow). r.frames) (same_Some row old (sym is ∙ there)))))
  run-backed (op.Jump i) = put-backed _ refl
  run-backed (op.Jz a i) = put-backed (cond (eqb (register row a) 0) (jumped (advanced row) row.pc i) (advanced row)) (cond_both (eqb (register row a) 0) _ _ (λ (r : ThreadRow). r.frames ≡ row.frames) (λ _. refl) (λ _. refl))
  run-backed (op.Jnz a i) = put-backed (cond (eqb (register row a) 0) (advanced row) (jumped (advanced row) row.pc i)) (cond_both (eqb (register row a) 0) _ _ (λ (r : ThreadRow). r.frames ≡ row.frames) (λ _. refl) (λ _. refl))
  run-backed (op.Pdx a b) =
      let mask : ℕ = register row b in
      let mid : State = put_row state t (advanced row) in
      with_answer-backed (by_thread t) state t (λ _ entered. with_register entered 0 0) (cond (ltb 255 mask) (mid, reply.No refusal.Syntax) (pdx mid t (register row a) mask)) (λ _ _. refl)
      (cond_both (ltb 255 mask) (mid, reply.No refusal.Syntax) (pdx mid t (register row a) mask) (λ (answer : Answer). KeepsBacked (by_thread t) state answer.0)
      (λ _. none-backed (by_thread t) state mid (put-backed (advanced row) refl))
      (λ _. then-backed (by_thread t) _ (pdx-backed mid t (register row a) mask)))
  run-backed op.Ret =
      let mid : State = put_row state t (advanced row) in
      with_answer-backed (by_thread t) state t (λ _ returned. returned) (ret mid t) (λ _ _. refl) (then-backed (by_thread t) _ (ret-backed mid t))
  run-backed op.Yield = put-backed _ refl
  run-backed op.Sys =
      let mid : State = put_row state t (advanced row) in
      let ended : Seat → Bool = ended_by_call state t (script_call row) in
      with_answer-backed ended state t (λ said caller. with_registers caller 0 (0 ∷ values_of said)) (thread_call mid t (script_call row)) (λ said r. with_registers-frames r 0 (0 ∷ values_of said))
      (then-backed ended _ (subst (λ (e : Seat → Bool). KeepsBacked e mid (thread_call mid t (script_call row)).0) (same_ended state mid t (script_call row) refl) (call-backed mid t (script_call row) before_formed)))

  word-backed : (o : Option Instr) → KeepsBacked (ended_by_instruction state t row o) state (run_word state t row o)
  word-backed None = faulted-backed state t fault.Opcode
  word-backed (Some instr) = run-backed instr

  turned-backed : (may : Bool) → allowed state t row.pc X ≡ may →
      KeepsBacked (ended_by_instruction state t row (if may then decoded (word_at state.objects row.pc) else None)) state (if may then run_word state t row (decoded (word_at state.objects row.pc)) else faulted state t fault.Denied)
  turned-backed true may = word-backed (decoded (word_at state.objects row.pc))
  turned-backed false may = faulted-backed state t fault.Denied

-- the turn of a thread that is there
thread_turn-backed : (state : State) (t : ℕ) (thread : Thread) → IsWellFormed state → thread_of state t ≡ Some thread → KeepsBacked (ended_by_turn state (Some thread)) state (turn_state state t)
thread_turn-backed state t thread formed is =
    let number : thread.number ≡ t = (found t state.threads thread is).number in
    let here : thread_of state thread.number ≡ Some thread = ap (λ (n : ℕ). thread_of state n) number ∙ is in
    let row : row_of state thread.number ≡ Some thread.row = row_of-thread state thread.number thread here in
    let turned : turn_state state t ≡ turned state thread.number thread.row = ap (λ (n : ℕ). turn_state state n) (sym number) ∙ ap (λ (o : Option ThreadRow). option_map_or (λ r. turned state thread.number r) o state) row in
    subst (λ (new : State). KeepsBacked (ended_by_turn state (Some thread)) state new) (sym turned)
    (turned-backed state thread.number thread.row formed row (allowed state thread.number thread.row.pc X) refl)

turn-backed : (state : State) (t : ℕ) → IsWellFormed state → KeepsBacked (ended_by_turn state (turning state t)) state (turn state t).0
turn-backed state t formed =
    unless_refused-backed (ended_by_turn state (turning state t)) state _ (turn_state state t, _)
    (λ none.
    let ready : thread_is_ready state t ≡ true = not-false (thread_is_ready state t) (unrefused _ _ _ none).0 in
    subst (λ (o : Option Thread). KeepsBacked (ended_by_turn state o) state (turn_state state t)) (sym (cond-true _ _ _ ready)) (by_found (thread_of state t) refl))
  where
    by_found : (o : Option Thread) → thread_of state t ≡ o → KeepsBacked (ended_by_turn state o) state (turn_state state t)
    by_found None is = grind (arith, same-backed)
    by_found (Some thread) is = thread_turn-backed state t thread formed is

-- the thread that is picked is one of the threads
picked_among : (threads : List Thread) (c : ℕ) (first : Option Thread) (thread : Thread) → ready_above c threads ≡ first → option_or first (ready_above 0 threads) ≡ Some thread → Contains threads thread
picked_among threads c None thread is picks = (find-hit (λ (x : Thread). is_ready x.row.state && ltb 0 x.number) threads thread picks).among
picked_among threads c (Some other) thread is picks = (find-hit (λ (x : Thread). is_ready x.row.state && ltb c x.number) threads thread (is ∙ picks)).among

-- so its number finds it
picked_is : (state : State) (thread : Thread) → IsWellFormed state → Contains state.threads thread → thread_of state thread.number ≡ Some thread
picked_is state thread formed among =
    find_at_place thread.number state.threads among.0 thread formed.threads.ordered among.1 (ap (λ (x : Thread). x.number) among.2)
    ∙ ap (λ (x : Thread). Some x) among.2

run_next-backed : (state : State) (o : Option Thread) → IsWellFormed state → picked state ≡ o → KeepsBacked (ended_by_turn state o) state (run_next state o).0
run_next-backed state None formed is = same-backed by_none state
run_next-backed state (Some thread) formed is =
    let mid : State = record state { counters = record state.counters { cursor = thread.number } } in
    let among : Contains state.threads thread = picked_among state.threads state.counters.cursor (ready_above state.counters.cursor state.threads) thread refl is in
    let few : thread.number ≤ 256 = (All-contains (IsThread state.counters.births) state.threads thread formed.threads.each among).few in
    let there : thread_of mid thread.number ≡ Some thread = picked_is state thread formed among in
    let ended : Seat → Bool = ended_by_turn state (Some thread) in
    first-backed ended state mid _ (λ seat _. rests-backed state mid seat refl refl (λ slot here. here))
    (thread_turn-backed mid thread.number thread (with_cursor-keeps state thread.number formed few) there)

of_thread-backed : (ended : Seat → Bool) (state : State) (t : ℕ) (done : Answer) → KeepsBacked ended state done.0 → KeepsBacked ended state (of_thread state t done).0
of_thread-backed ended state t done keeps = cond_both (is_thread state t) _ _ (λ (answer : Answer). KeepsBacked ended state answer.0) (λ _. keeps) (λ _. same-backed ended state)

step_of-backed : (state : State) (t : ℕ) (made : Call) → IsWellFormed state → KeepsBacked (ended_of state t made) state (step_of state t made).0
step_of-backed state t call.Bad formed = same-backed by_none state
step_of-backed state t call.Rent formed = rent-backed state
step_of-backed state t call.Next formed = run_next-backed state (picked state) formed refl
step_of-backed state t call.Turn formed = of_thread-backed _ state t _ (turn-backed state t formed)
step_of-backed state t other formed = of_thread-backed _ state t _ (call-backed state t other formed)

pub step-backed : StepsKeepBacked (λ state line. (step state line).0)
step-backed state line formed = step_of-backed state line.thread line.call formed
