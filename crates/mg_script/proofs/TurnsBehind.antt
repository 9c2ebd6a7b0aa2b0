-- A turn is a call, and then another row for the thread.
use Rattle.mg_laws.specs.{Backing.{BackingRestsOnDomain, FramesKeepBacked}, Scripts.{RestsOnNoRegister, is_by_script, with_frames_of}}
use Rattle.mg_model.specs.{Abbreviations.{advanced, entered_slots, refusal_number, unless_refused}, Access.{allowed, domain_of, last_slots}}
use Rattle.mg_model.specs.{Access.thread_of, Backed.{KeepsBacked, by_none}, Domains.{frames_of, last_back, pdx, ret, row_of, with_thread}}
use Rattle.mg_model.specs.{ObjectCalls.is_aligned, Objects.{with_word, word_at}, Ranges.IsThreadRow, Refused.{Answer, checked}, Script.decoded}
use Rattle.mg_model.specs.{Script.with_register, State.{State, Thread, ThreadRow}, Turn.{faulted, put_row, run_instruction, run_word, with_answer}}
use Rattle.mg_model.specs.{Turn.{script_call, thread_call, turned, values_of, with_registers}, WellFormed.{IsThread, IsWellFormed}}
use Rattle.mg_model.specs.declared.{calls.Call.Call, instructions.Instr.Instr, replies.{Refusal.Refusal, Reply.Reply}, rights.Right.TheVariants.R}
use Rattle.mg_model.specs.declared.{rights.Right.TheVariants.{W, X}, slots.Slot.Slot, threads.ThrState.TheVariants.Ready}
use Rattle.mg_script.proofs.{FramesBehind.{returning_on-put, returning_on-slots}, RowChanges.{domain-changed, frames-changed, with_thread-like}}
use Rattle.mg_script.{proofs.RowChanges.{with_thread-same, with_thread-then}, specs.{Actions.settled, Effects.{HasFrames, IsSpelledBy, entered}}}
use Rattle.mg_script.specs.Effects.{faulted_row, finished, is_spelled, loaded, made_by, resumed, returned, stood, stored, turned_on}
use Rattle.{mg_script.specs.{Turns.{TurnsAreCalls, TurnsRowsKeepBacked, fetched_word}, declared.effects.Effect.Effect}, std.proofs.Common.{arith, ℕ}}
use Rattle.std.proofs.Common.{◌+◌, ◌-◌, ◌≤◌, ◌≡◌, ◌++◌, Bool, true, false, cond, eqb, ltb, not, List, [], ◌∷◌, length, take, Option, Some, None, refl}
use Rattle.std.proofs.{Common.{sym, ap, ◌∙◌, subst, All}, lemmas.{Bool.cond_both, List.Elements.{All-head, All-tail}, Option.same_Some}}
use Rattle.std.specs.{Option.option_map_or, Prelude.find}
use Rattle.mg_model.specs.declared.calls.Call.TheVariants as call
use Rattle.mg_model.specs.declared.replies.Refusal.TheVariants as refusal
use Rattle.mg_model.specs.declared.replies.Reply.TheVariants as reply
use Rattle.mg_model.specs.declared.threads.Fault.TheVariants as fault
use Rattle.mg_script.specs.declared.effects.Effect.TheVariants as effect

-- the state with the row after a call
abbrev behind : ℕ → Effect → Answer → State
behind t asked called = with_thread called.0 t (λ row. resumed asked called.1 row)

-- how a thread enters and leaves an object
abbrev entering : ℕ → List Slot → ThreadRow → ThreadRow
entering a slots thread = record thread { pc = a; frames = thread.frames ++ record { back = thread.pc; slots = slots } ∷ [] }

abbrev leaving : ThreadRow → ThreadRow
leaving thread = record thread { pc = last_back thread.frames; frames = take (length thread.frames - 1) thread.frames }

abbrev in_frame : ThreadRow → ThreadRow
in_frame thread = with_register thread 0 0

-- what is found is an element
among : (Is : Thread → Type 0) (test : Thread → Bool) (xs : List Thread) (x : Thread) → All Is xs → find test xs ≡ Some x → Is x
among Is test [] x all is = absurd (cc)
among Is test (y ∷ xs) x all is =
    cond_both (test y) (Some y) (find test xs) (λ o. o ≡ Some x → Is x)
    (λ _ here. subst Is (same_Some y x here) (All-head Is y xs all))
    (λ _ later. among Is test xs x (All-tail Is y xs all) later)
    is

-- a call that a script spells is made by it
spelled-by_script : (made : Call) → is_spelled made ≡ true → is_by_script made ≡ true
spelled-by_script (call.Pdx a mask) is = absurd (cc)
spelled-by_script call.Ret is = absurd (cc)
spelled-by_script call.Apdlist is = refl
spelled-by_script call.Turn is = refl
spelled-by_script call.Next is = refl
spelled-by_script call.Rent is = refl
spelled-by_script other is = refl

-- a thread that is found has a row in its ranges
row-formed : (state : State) (t : ℕ) (thread : ThreadRow) → IsWellFormed state → row_of state t ≡ Some thread → IsThreadRow thread
row-formed state t thread formed there = by_found (thread_of state t) refl there
  where
    by_found : (o : Option Thread) → thread_of state t ≡ o → option_map_or (λ (x : Thread). Some x.row) o None ≡ Some thread → IsThreadRow thread
    by_found None is was = absurd (cc)
    by_found (Some x) is was = subst IsThreadRow (same_Some x.row thread was) (among (IsThread state.counters.births) (λ (y : Thread). eqb y.number t) state.threads x formed.threads.each is).row

-- what a script sees of a reply is settled in its row
with_answer-settled : (t : ℕ) (state : State) (said : Reply) → with_answer t (λ what caller. settled what caller) (state, said) ≡ with_thread state t (settled said)
with_answer-settled t state (reply.No word) = refl
with_answer-settled t state other = refl

module _ (state : State) (t : ℕ) (thread : ThreadRow) (formed : IsWellFormed state) (there : row_of state t ≡ Some thread) where
  like : (f g : ThreadRow → ThreadRow) → f thread ≡ g thread → with_thread state t f ≡ with_thread state t g
  like f g same = with_thread-like state t f g thread formed.threads.ordered there same

  -- the state with the pc advanced
  abbrev before : State
  before = with_thread state t advanced

  put-is : put_row state t (advanced thread) ≡ before
  put-is = like (λ _. advanced thread) advanced refl

  -- the turn by the word that was fetched
  turned-on : turned state t thread ≡ turned_on state t thread (fetched_word state t thread)
  turned-on = by_fetch (allowed state t thread.pc X)
    where
      by_decoded : (d : Option Instr) → run_word state t thread d ≡ option_map_or (λ instr. run_instruction state t thread.pc (advanced thread) instr) d (put_row state t (faulted_row fault.Opcode thread))
      by_decoded None = like (faulted_row fault.Opcode) (λ _. faulted_row fault.Opcode thread) refl
      by_decoded (Some instr) = refl

      by_fetch : (v : Bool) → cond v (run_word state t thread (decoded (word_at state.objects thread.pc))) (faulted state t fault.Denied) ≡ turned_on state t thread (cond v (Some (word_at state.objects thread.pc)) None)
      by_fetch true = by_decoded (decoded (word_at state.objects thread.pc))
      by_fetch false = like (faulted_row fault.Denied) (λ _. faulted_row fault.Denied thread) refl

  behind-load : (a to word : ℕ) (aligned may : Bool)
      → cond (not aligned) (faulted state t fault.Align) (cond (not may) (faulted state t fault.Denied) (put_row state t (with_register (advanced thread) to word)))
      ≡ behind t (effect.Load a to) (checked state ((not aligned, refusal.Align) ∷ (not may, refusal.Denied) ∷ []) (state, reply.Value word))
  behind-load a to word true true = like (λ _. with_register (advanced thread) to word) (λ r. with_register (advanced r) to word) refl
  behind-load a to word true false = refl
  behind-load a to word false may = refl

  behind-store : (a value : ℕ) (aligned may : Bool)
      → cond (not aligned) (faulted state t fault.Align) (cond (not may) (faulted state t fault.Denied) (put_row (record state { objects = with_word state.objects a value }) t (advanced thread)))
      ≡ behind t (effect.Store a value) (checked state ((not aligned, refusal.Align) ∷ (not may, refusal.Denied) ∷ []) (record state { objects = with_word state.objects a value }, reply.Done))
  behind-store a value true true = ap (λ (s : State). record s { objects = with_word state.objects a value }) put-is
  behind-store a value true false = refl
  behind-store a value false may = refl

  same_domain : (u : ℕ) → domain_of before u ≡ domain_of state u
  same_domain u = domain-changed state t u advanced (λ r. refl)

  same_frames : (u : ℕ) → frames_of before u ≡ frames_of state u
  same_frames u = frames-changed state t u advanced (λ r. refl)

  some_frame : 1 ≤ length thread.frames
  some_frame = (row-formed state t thread formed there).some_frame

  -- the row of one that entered
  entered-like : (a : ℕ) (slots : List Slot) → in_frame (entering a slots (advanced thread)) ≡ entered (reply.Count 0) (entering a slots thread)
  entered-like a slots = ap (λ frames. in_frame (record thread { pc = a; frames = frames })) (sym (returning_on-put thread.frames (record { back = thread.pc; slots = slots }) some_frame))

  behind-pdx : (a mask n : ℕ) (slots : List Slot) (refused : Option Refusal)
      → with_answer t (λ _ in_it. in_frame in_it) (unless_refused refused before (with_thread before t (entering a slots), reply.Count n)) ≡ behind t (effect.Pdx a mask) (unless_refused refused state (with_thread state t (entering a slots), reply.Count n))
  behind-pdx a mask n slots (Some word) = with_thread-then state t advanced (λ r. with_register r 0 (refusal_number word))
  behind-pdx a mask n slots None =
      with_thread-then before t (entering a slots) in_frame
      ∙ with_thread-then state t advanced (λ r. in_frame (entering a slots r))
      ∙ like (λ r. in_frame (entering a slots (advanced r))) (λ r. entered (reply.Count n) (entering a slots r)) (entered-like a slots)
      ∙ sym (with_thread-then state t (entering a slots) (entered (reply.Count n)))

  pdx-over : (a mask : ℕ) → with_answer t (λ _ in_it. in_frame in_it) (pdx before t a mask) ≡ behind t (effect.Pdx a mask) (pdx state t a mask)
  pdx-over a mask = rw (same_domain t, same_frames t) (behind-pdx a mask (length (frames_of state t) + 1) (entered_slots state t a mask) _)

  by_mask : (a mask : ℕ) (v : Bool) → with_answer t (λ _ in_it. in_frame in_it) (cond v (before, reply.No refusal.Syntax) (pdx before t a mask)) ≡ behind t (effect.Pdx a mask) (thread_call state t (cond v call.Bad (call.Pdx a mask)))
  by_mask a mask true = with_thread-then state t advanced (λ r. with_register r 0 (refusal_number refusal.Syntax))
  by_mask a mask false = pdx-over a mask

  behind-ret : (n : ℕ) (refused : Option Refusal) → with_answer t (λ _ out. out) (unless_refused refused before (with_thread before t leaving, reply.Count n)) ≡ behind t effect.Ret (unless_refused refused state (with_thread state t leaving, reply.Count n))
  behind-ret n (Some word) = with_thread-then state t advanced (λ r. with_register r 0 (refusal_number word))
  behind-ret n None = ap (λ (s : State). with_thread s t (λ r. r)) (with_thread-then state t advanced leaving)

  ret-over : with_answer t (λ _ out. out) (ret before t) ≡ behind t effect.Ret (ret state t)
  ret-over = rw (same_frames t) (behind-ret (length (frames_of state t) - 1) _)

  module _ (calls : RestsOnNoRegister thread_call) (ready : thread.state ≡ Ready) where
    sys-over : (made : Call) → is_by_script made ≡ true → with_answer t (λ said caller. settled said caller) (thread_call (put_row state t (advanced thread)) t made) ≡ behind t effect.Sys (thread_call state t made)
    sys-over made by =
        let called = thread_call state t made in
        let said = called.1 in
        let over = calls state t thread (advanced thread) made formed there (record { birth = refl; creator = refl; ready = ready; frames = refl }) by in
        let itself = calls state t thread thread made formed there (record { birth = refl; creator = refl; ready = ready; frames = refl }) by in
        let unchanged : put_row state t thread ≡ state = like (λ _. thread) (λ r. r) refl ∙ with_thread-same state t in
        let own : called.0 ≡ with_thread called.0 t (with_frames_of thread) = ap (λ (s : State). (thread_call s t made).0) (sym unchanged) ∙ ap (λ (a : Answer). a.0) itself in
        ap (with_answer t (λ what caller. settled what caller)) over
        ∙ with_answer-settled t (with_thread called.0 t (with_frames_of (advanced thread))) said
        ∙ with_thread-then called.0 t (with_frames_of (advanced thread)) (settled said)
        ∙ sym (with_thread-then called.0 t (with_frames_of thread) (λ r. settled said (advanced r)))
        ∙ ap (λ (s : State). with_thread s t (λ r. settled said (advanced r))) (sym own)

    finished-behind : (asked : Effect) → IsSpelledBy asked (made_by thread asked) → finished state t (advanced thread) asked ≡ behind t asked (thread_call state t (made_by thread asked))
    finished-behind (effect.Next stands) by = like (λ _. stood stands (advanced thread)) (λ r. stood stands r) refl
    finished-behind (effect.Load a to) by = behind-load a to (word_at state.objects a) (is_aligned a) (allowed state t a R)
    finished-behind (effect.Store a value) by = behind-store a value (is_aligned a) (allowed state t a W)
    finished-behind (effect.Pdx a mask) by =
        ap (λ (s : State). with_answer t (λ _ in_it. in_frame in_it) (cond (ltb 255 mask) (s, reply.No refusal.Syntax) (pdx s t a mask))) put-is
        ∙ by_mask a mask (ltb 255 mask)
    finished-behind effect.Ret by = ap (λ (s : State). with_answer t (λ _ out. out) (ret s t)) put-is ∙ ret-over
    finished-behind effect.Sys by = sys-over (script_call thread) (spelled-by_script (script_call thread) by)

pub turns_behind : RestsOnNoRegister thread_call → TurnsAreCalls
turns_behind calls state t thread asked formed there ready is = grind (arith, turned-on, finished-behind)

-- Rows after a call that leave the frames that the call left.
loaded-frames : (to : ℕ) (said : Reply) (thread : ThreadRow) → (loaded to said thread).frames ≡ thread.frames
loaded-frames to (reply.Value word) thread = refl
loaded-frames to (reply.No word) thread = refl
loaded-frames to other thread = refl

stored-frames : (said : Reply) (thread : ThreadRow) → (stored said thread).frames ≡ thread.frames
stored-frames reply.Done thread = refl
stored-frames (reply.No word) thread = refl
stored-frames other thread = refl

returned-frames : (said : Reply) (thread : ThreadRow) → (returned said thread).frames ≡ thread.frames
returned-frames (reply.No word) thread = refl
returned-frames other thread = refl

registers-frames : (thread : ThreadRow) (k : ℕ) (values : List ℕ) → (with_registers thread k values).frames ≡ thread.frames
registers-frames thread k [] = refl
registers-frames thread k (value ∷ values) = registers-frames (with_register thread k value) (k + 1) values

settled-frames : (said : Reply) (thread : ThreadRow) → (settled said thread).frames ≡ thread.frames
settled-frames (reply.No word) thread = refl
settled-frames other thread = registers-frames thread 0 (0 ∷ values_of other)

entered-slots : (said : Reply) (thread : ThreadRow) → last_slots (entered said thread).frames ≡ last_slots thread.frames
entered-slots (reply.No word) thread = refl
entered-slots other thread = returning_on-slots thread.frames

behind-backed : BackingRestsOnDomain → FramesKeepBacked → (state : State) (t : ℕ) (thread : ThreadRow) (asked : Effect) → row_of state t ≡ Some thread → HasFrames thread asked
    → let called = thread_call state t (made_by thread asked) in KeepsBacked by_none called.0 (behind t asked called)
behind-backed rests frames state t thread (effect.Next stands) there has = frames state t (λ r. stood stands r) (λ r is. refl)
behind-backed rests frames state t thread (effect.Load a to) there has =
    let called = thread_call state t (call.Load a) in
    frames called.0 t (loaded to called.1) (λ r _. loaded-frames to called.1 r)
behind-backed rests frames state t thread (effect.Store a value) there has =
    let called = thread_call state t (call.Store a value) in
    frames called.0 t (stored called.1) (λ r _. stored-frames called.1 r)
behind-backed rests frames state t thread (effect.Pdx a mask) there has = grind (arith, domain-changed, entered-slots)
behind-backed rests frames state t thread effect.Ret there has =
    let called = thread_call state t call.Ret in
    frames called.0 t (returned called.1) (λ r _. returned-frames called.1 r)
behind-backed rests frames state t thread effect.Sys there has =
    let called = thread_call state t (script_call thread) in
    frames called.0 t (λ r. settled called.1 (advanced r)) (λ r _. settled-frames called.1 (advanced r))

pub rows_backed : BackingRestsOnDomain → FramesKeepBacked → TurnsRowsKeepBacked
rows_backed rests frames state t thread asked formed there ready is =
    subst (λ (made : Call). KeepsBacked by_none (thread_call state t made).0 (behind t asked (thread_call state t made))) is.call
    (behind-backed rests frames state t thread asked there is.frames)
