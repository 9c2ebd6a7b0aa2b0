-- The cursor may be moved before a turn or after it.
use Rattle.{mg_laws.specs.Scripts.{RestsOnNoCursor, at_cursor}, mg_model.specs.Abbreviations.{advanced, born, free_number, unless_refused}}
use Rattle.mg_model.specs.{Access.domain_of, Bank.{balance_of, credited, owed_by, pages_of, debited}, Domains.{pdx, ret, row_of, with_slots}}
use Rattle.mg_model.specs.{Domains.with_thread, Limits.never, ObjectCalls.{about, drawn, extension_of, has_password, next_password, row_at}}
use Rattle.mg_model.specs.{ObjectCalls.{with_entry, with_row_at}, Objects.{lowest_free, new_object, with_object, with_word, without_object, word_at}}
use Rattle.mg_model.specs.{Refused.Answer, State.{State, Thread, ThreadRow}, Threads.{birth_of, new_thread, with_new_thread}, Turn.put_row}
use Rattle.mg_model.specs.Turn.{run_instruction, run_word, with_answer, script_call, thread_call, turn_state, turned, unless_faulted, values_of}
use Rattle.mg_model.specs.{Turn.with_registers, declared.{calls.Call.Call, instructions.Instr.Instr, replies.{Refusal.Refusal, Reply.Reply}}}
use Rattle.{mg_model.specs.declared.threads.ThrState.TheVariants.Ready, std.proofs.Common.{arith, ℕ, suc, ◌+◌, ◌*◌, ◌++◌, ◌≡◌, Bool, eqb, not, []}}
use Rattle.std.{proofs.{Common.{◌∷◌, filter, length, Option, Some, None, refl, ap, ◌∙◌}, lemmas.Bool.cond_both}, specs.Option.option_map_or}
use Rattle.std.specs.Prelude.{drop, take, unwrap_or}
use Rattle.mg_model.specs.declared.calls.Call.TheVariants as call
use Rattle.mg_model.specs.declared.instructions.Instr.TheVariants as op
use Rattle.mg_model.specs.declared.replies.Reply.TheVariants as reply

module _ (n : ℕ) where
  abbrev C : State → State
  C state = at_cursor state n

  abbrev moved : Answer → Answer
  moved after = (C after.0, after.1)

  row-over : (state : State) (refused : Option Refusal) (after : Answer) → unless_refused refused (C state) (moved after) ≡ moved (unless_refused refused state after)
  row-over state None after = refl
  row-over state (Some word) after = refl

  pdx-over : (state : State) (t a mask : ℕ) → pdx (C state) t a mask ≡ moved (pdx state t a mask)
  pdx-over state t a mask = grind (arith, row-over)

  ret-over : (state : State) (t : ℕ) → ret (C state) t ≡ moved (ret state t)
  ret-over state t = grind (arith, row-over)

  call-over : (state : State) (t : ℕ) (made : Call) → thread_call (C state) t made ≡ moved (thread_call state t made)
  call-over state t (call.Load a) = row-over state _ (state, reply.Value (word_at state.objects a))
  call-over state t (call.Store a value) = row-over state _ (record state { objects = with_word state.objects a value }, reply.Done)
  call-over state t (call.Create k account password) = row-over state _ (record (drawn state) { objects = with_object (new_object (4096 * lowest_free state.objects k) k account (next_password state)) state.objects }, reply.Made (4096 * lowest_free state.objects k) (next_password state))
  call-over state t (call.Delete b) = row-over state _ (record state { objects = without_object (row_at state b).base state.objects }, reply.Done)
  call-over state t (call.Info b) = row-over state _ (state, about (row_at state b))
  call-over state t (call.Pwadd b rights until) = row-over state _ (with_row_at (drawn state) b (λ object. record object { passwords = object.passwords ++ record { password = next_password state; rights = rights; until = unwrap_or until never } ∷ [] }), reply.Value (next_password state))
  call-over state t (call.Pwdel b password) = row-over state _ (with_row_at state b (λ object. record object { passwords = filter (λ pw. not (has_password password pw)) object.passwords }), reply.Done)
  call-over state t (call.Entry b off) = row-over state _ (with_row_at state b (λ object. with_entry object ((row_at state b).base + off)), reply.Value ((row_at state b).base + off))
  call-over state t (call.Ext b clist password) = row-over state _ (with_row_at state b (λ object. record object { extension = extension_of clist password }), reply.Done)
  call-over state t (call.Recharge b account password) = row-over state _ (with_row_at state b (λ object. record object { account = account }), reply.Done)
  call-over state t (call.Apdadd clist password) = row-over state _ (with_slots state t (domain_of state t ++ record { base = clist; password = password } ∷ []), reply.Count (length (domain_of state t)))
  call-over state t (call.Apddel index) = row-over state _ (with_slots state t (take index (domain_of state t) ++ drop (suc index) (domain_of state t)), reply.Done)
  call-over state t call.Apdlist = refl
  call-over state t (call.Pdx a mask) = pdx-over state t a mask
  call-over state t call.Ret = ret-over state t
  call-over state t (call.Thread pc) = row-over state _ (record (born state) { threads = with_new_thread (new_thread (free_number state.threads) (state.counters.births + 1) (birth_of state t) pc (domain_of state t)) state.threads }, reply.Count (free_number state.threads))
  call-over state t (call.End i) = row-over state _ (record state { threads = filter (λ (x : Thread). not (eqb x.number i)) state.threads }, reply.Done)
  call-over state t (call.Resume i) = row-over state _ (with_thread state i (λ (r : ThreadRow). record r { state = Ready }), reply.Done)
  call-over state t (call.Account account password amount) = row-over state _ (record (drawn state) { accounts = debited state.accounts account amount ++ record { password = next_password state; balance = amount; owed = 0 } ∷ [] }, reply.Opened (length state.accounts + 1) (next_password state))
  call-over state t (call.Pay account password to amount) = row-over state _ (record state { accounts = credited (debited state.accounts account amount) to amount }, reply.Done)
  call-over state t (call.Balance account password) = row-over state _ (state, reply.Funds (balance_of state.accounts account) (owed_by state.accounts account) (pages_of state.objects account))
  call-over state t call.Turn = refl
  call-over state t call.Next = refl
  call-over state t call.Rent = refl
  call-over state t call.Bad = refl

  with_answer-over : (t : ℕ) (on_ok : Reply → ThreadRow → ThreadRow) (after : Answer) → with_answer t on_ok (moved after) ≡ C (with_answer t on_ok after)
  with_answer-over t on_ok (state, reply.No word) = refl
  with_answer-over t on_ok (state, other) = refl

  faulted-over : (state : State) (t address : ℕ) (may : Bool) (done : State) → unless_faulted (C state) t address may (C done) ≡ C (unless_faulted state t address may done)
  faulted-over state t address may done = grind arith

  run-over : (state : State) (t here : ℕ) (thread : ThreadRow) (instr : Instr) → run_instruction (C state) t here thread instr ≡ C (run_instruction state t here thread instr)
  run-over state t here thread (op.Load a b i) = grind (arith, faulted-over)
  run-over state t here thread (op.Store a b i) = grind (arith, faulted-over)
  run-over state t here thread (op.Pdx a b) = grind (arith, cond_both, pdx-over, with_answer-over)
  run-over state t here thread op.Ret = grind (arith, ret-over, with_answer-over)
  run-over state t here thread op.Sys =
      let before = put_row state t thread in
      let told : Reply → ThreadRow → ThreadRow = λ said caller. with_registers caller 0 (0 ∷ values_of said) in
      ap (with_answer t told) (call-over before t (script_call thread)) ∙ with_answer-over t told (thread_call before t (script_call thread))
  run-over state t here thread other = refl

  word-over : (state : State) (t : ℕ) (thread : ThreadRow) (o : Option Instr) → run_word (C state) t thread o ≡ C (run_word state t thread o)
  word-over state t thread None = refl
  word-over state t thread (Some instr) = run-over state t thread.pc (advanced thread) instr

  turned-over : (state : State) (t : ℕ) (thread : ThreadRow) → turned (C state) t thread ≡ C (turned state t thread)
  turned-over state t thread = grind (arith, word-over)

  by_row : (state : State) (t : ℕ) (o : Option ThreadRow) → option_map_or (λ thread. turned (C state) t thread) o (C state) ≡ C (option_map_or (λ thread. turned state t thread) o state)
  by_row state t None = refl
  by_row state t (Some thread) = turned-over state t thread

pub turn-over : RestsOnNoCursor turn_state
turn-over state t n = by_row n state t (row_of state t)
