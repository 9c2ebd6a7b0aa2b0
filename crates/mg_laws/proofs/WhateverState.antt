-- A line that is no turn gets the same answer whatever the state of any thread is.
use Rattle.mg_laws.{proofs.KeepsRows.{changed, changed-number}, specs.Laws.{AnswersWhateverState, as_state, is_turn}}
use Rattle.mg_model.specs.{Abbreviations.{free_number, unless_refused}, Access.{domain_of, last_slots}, Bank.{balance_of, owed_by, pages_of}}
use Rattle.mg_model.specs.{Bank.{rate_now, rent_paid}, BankCalls.rent, Domains.{frames_of, pdx}, ObjectCalls.{about, next_password, row_at}}
use Rattle.mg_model.specs.{Objects.{lowest_free, word_at}, Refused.Answer, State.{State, Thread}, Step.{of_thread, step, step_of}, Threads.birth_of}
use Rattle.mg_model.specs.{Threads.{creator_of, end_thread, free_number_from, is_thread, make_thread, resume}, Turn.thread_call}
use Rattle.{mg_model.specs.declared.{calls.Call.Call, replies.Refusal.Refusal, threads.ThrState.ThrState}, std.proofs.Common.{arith, ℕ, ◌+◌, ◌-◌}}
use Rattle.std.proofs.Common.{◌*◌, ◌≡◌, Bool, true, false, cond, eqb, List, [], ◌∷◌, length, map, is_some, Option, Some, None, refl}
use Rattle.std.{proofs.lemmas.List.length-map, specs.{Option.option_map_or, Prelude.find}}
use Rattle.mg_model.specs.declared.calls.Call.TheVariants as call
use Rattle.mg_model.specs.declared.replies.Refusal.TheVariants as refusal
use Rattle.mg_model.specs.declared.replies.Reply.TheVariants as reply

-- the answer of a row is a function of its refusals and of its reply
same_answer : (refused : Option Refusal) (s new : State) (done other : Answer) → done.1 ≡ other.1 → (unless_refused refused s done).1 ≡ (unless_refused refused new other).1
same_answer None s new done other same = same
same_answer (Some word) s new done other same = refl

same_choice : (b : Bool) (done other : Answer) (s new : State) → done.1 ≡ other.1 → (cond b done (s, reply.No refusal.NoThread)).1 ≡ (cond b other (new, reply.No refusal.NoThread)).1
same_choice true done other s new same = same
same_choice false done other s new same = refl

module _ (t : ℕ) (kind : ThrState) where
  abbrev put : Thread → Thread
  put thread = changed t (λ row. record row { state = kind }) thread

  find-put : {A : Type 0} (g : Option Thread → A) → ((thread : Thread) → g (Some (record thread { row = record (thread.row) { state = kind } })) ≡ g (Some thread)) → (u : ℕ) (threads : List Thread) →
      g (find (λ (x : Thread). eqb x.number u) (map put threads)) ≡ g (find (λ (x : Thread). eqb x.number u) threads)
  find-put g same u [] = refl
  find-put g same u (x ∷ xs) = grind (arith, (find-put g same u xs))

  free_number-put : (n : ℕ) (threads : List Thread) → free_number_from n (map put threads) ≡ free_number_from n threads
  free_number-put n [] = refl
  free_number-put n (x ∷ xs) = grind (arith, (free_number-put (n + 1) xs), changed-number)

module _ (state : State) (t : ℕ) (kind : ThrState) where
  same_domain : (u : ℕ) → domain_of (as_state state t kind) u ≡ domain_of state u
  same_domain u = find-put t kind (λ (o : Option Thread). option_map_or (λ (x : Thread). last_slots x.row.frames) o []) (λ _. refl) u state.threads

  same_frames : (u : ℕ) → frames_of (as_state state t kind) u ≡ frames_of state u
  same_frames u = find-put t kind (λ (o : Option Thread). option_map_or (λ (x : Thread). x.row.frames) o []) (λ _. refl) u state.threads

  same_birth : (u : ℕ) → birth_of (as_state state t kind) u ≡ birth_of state u
  same_birth u = find-put t kind (λ (o : Option Thread). option_map_or (λ (x : Thread). x.row.birth) o 0) (λ _. refl) u state.threads

  same_creator : (u : ℕ) → creator_of (as_state state t kind) u ≡ creator_of state u
  same_creator u = find-put t kind (λ (o : Option Thread). option_map_or (λ (x : Thread). x.row.creator) o 0) (λ _. refl) u state.threads

  same_is_thread : (u : ℕ) → is_thread (as_state state t kind) u ≡ is_thread state u
  same_is_thread u = find-put t kind (λ (o : Option Thread). is_some o) (λ _. refl) u state.threads

  same_number : free_number (map (put t kind) state.threads) ≡ free_number state.threads
  same_number = free_number-put t kind 1 state.threads

  answer_here : (refused : Option Refusal) (done other : Answer) → done.1 ≡ other.1 → (unless_refused refused (as_state state t kind) done).1 ≡ (unless_refused refused state other).1
  answer_here refused done other same = same_answer refused (as_state state t kind) state done other same

  same_make_thread : (u pc : ℕ) → (make_thread (as_state state t kind) u pc).1 ≡ (make_thread state u pc).1
  same_make_thread u pc = rw (same_domain u, same_number, length-map) (answer_here _ _ _ (refl {a = reply.Count (free_number state.threads)}))

  same_end_thread : (u i : ℕ) → (end_thread (as_state state t kind) u i).1 ≡ (end_thread state u i).1
  same_end_thread u i = rw (same_is_thread i, same_creator i, same_birth u) (answer_here _ _ _ (refl {a = reply.Done}))

  same_resume : (u i : ℕ) → (resume (as_state state t kind) u i).1 ≡ (resume state u i).1
  same_resume u i = rw (same_is_thread i, same_creator i, same_birth u) (answer_here _ _ _ (refl {a = reply.Done}))

  same_pdx : (u a mask : ℕ) → (pdx (as_state state t kind) u a mask).1 ≡ (pdx state u a mask).1
  same_pdx u a mask = rw (same_domain u, same_frames u) (answer_here _ _ _ (refl {a = reply.Count (length (frames_of state u) + 1)}))

  same_call : (u : ℕ) (made : Call) → (thread_call (as_state state t kind) u made).1 ≡ (thread_call state u made).1
  same_call u (call.Load a) = rw (same_domain u) (answer_here _ _ _ (refl {a = reply.Value (word_at state.objects a)}))
  same_call u (call.Store a value) = rw (same_domain u) (answer_here _ _ _ (refl {a = reply.Done}))
  same_call u (call.Create n account password) = answer_here _ _ _ (refl {a = reply.Made (4096 * lowest_free state.objects n) (next_password state)})
  same_call u (call.Delete b) = rw (same_domain u) (answer_here _ _ _ (refl {a = reply.Done}))
  same_call u (call.Info b) = rw (same_domain u) (answer_here _ _ _ (refl {a = about (row_at state b)}))
  same_call u (call.Pwadd b rights until) = rw (same_domain u) (answer_here _ _ _ (refl {a = reply.Value (next_password state)}))
  same_call u (call.Pwdel b password) = rw (same_domain u) (answer_here _ _ _ (refl {a = reply.Done}))
  same_call u (call.Entry b off) = rw (same_domain u) (answer_here _ _ _ (refl {a = reply.Value ((row_at state b).base + off)}))
  same_call u (call.Ext b clist password) = rw (same_domain u) (answer_here _ _ _ (refl {a = reply.Done}))
  same_call u (call.Recharge b account password) = rw (same_domain u) (answer_here _ _ _ (refl {a = reply.Done}))
  same_call u (call.Apdadd clist password) = rw (same_domain u) (answer_here _ _ _ (refl {a = reply.Count (length (domain_of state u))}))
  same_call u (call.Apddel index) = rw (same_domain u) (answer_here _ _ _ (refl {a = reply.Done}))
  same_call u call.Apdlist = rw (same_domain u)
  same_call u (call.Pdx a mask) = same_pdx u a mask
  same_call u call.Ret = rw (same_frames u) (answer_here _ _ _ (refl {a = reply.Count (length (frames_of state u) - 1)}))
  same_call u (call.Thread pc) = same_make_thread u pc
  same_call u (call.End i) = same_end_thread u i
  same_call u (call.Resume i) = same_resume u i
  same_call u (call.Account account password amount) = answer_here _ _ _ (refl {a = reply.Opened (length state.accounts + 1) (next_password state)})
  same_call u (call.Pay account password to amount) = answer_here _ _ _ (refl {a = reply.Done})
  same_call u (call.Balance account password) = answer_here _ _ _ (refl {a = reply.Funds (balance_of state.accounts account) (owed_by state.accounts account) (pages_of state.objects account)})
  same_call u call.Turn = refl
  same_call u call.Next = refl
  same_call u call.Rent = refl
  same_call u call.Bad = refl

  same_rent : (rent (as_state state t kind)).1 ≡ (rent state).1
  same_rent = answer_here _ _ _ (refl {a = reply.Collected (state.counters.period + 1) (rate_now state) (rent_paid state)})

  same_of_thread : (u : ℕ) (done other : Answer) → done.1 ≡ other.1 → (of_thread (as_state state t kind) u done).1 ≡ (of_thread state u other).1
  same_of_thread u done other same = grind (arith, same_is_thread, same_choice)

  same_step : (u : ℕ) (made : Call) → is_turn made ≡ false → (step_of (as_state state t kind) u made).1 ≡ (step_of state u made).1
  same_step u call.Turn no_turn = absurd (cc)
  same_step u call.Next no_turn = absurd (cc)
  same_step u call.Bad no_turn = refl
  same_step u call.Rent no_turn = same_rent
  same_step u other no_turn = same_of_thread u (thread_call (as_state state t kind) u other) (thread_call state u other) (same_call u other)

pub answered_whatever : AnswersWhateverState step
answered_whatever state line t kind no_turn = same_step state t kind line.thread line.call no_turn
