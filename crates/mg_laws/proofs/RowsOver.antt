-- A thread's row may be replaced before a call of the thread or after it.
use Rattle.mg_laws.proofs.{Finds.{find-map, read-map}, KeepsRows.{IsBelow, changed, changed-number}, LeastNumber.free_number-least}
use Rattle.{mg_laws.specs.Scripts.{IsRowOf, RestsOnNoRegister, is_by_script, with_frames_of}, mg_model.specs.Abbreviations.{born, free_number}}
use Rattle.mg_model.specs.{Abbreviations.unless_refused, Access.{domain_of, thread_of}, Bank.{balance_of, credited, owed_by, pages_of, debited}}
use Rattle.mg_model.specs.{Domains.{row_of, with_last_slots, with_slots, with_thread}, KeptListLemmas.{AllPairs-head, AllPairs-tail}, Limits.never}
use Rattle.mg_model.specs.{ObjectCalls.{about, drawn, extension_of, has_password, next_password, row_at, with_entry, with_row_at}, Objects.with_word}
use Rattle.mg_model.specs.{Objects.{without_object, word_at, lowest_free, new_object, with_object}, Refused.Answer, State.{State, Thread, ThreadRow}}
use Rattle.mg_model.specs.{Threads.{birth_of, creator_of, free_number_from, is_thread, new_thread, with_new_thread}, Turn.thread_call}
use Rattle.mg_model.specs.{WellFormed.IsWellFormed, declared.{calls.Call.Call, replies.{Refusal.Refusal, Reply.Reply}, slots.Slot.Slot}}
use Rattle.{mg_model.specs.declared.threads.ThrState.TheVariants.Ready, std.proofs.Common.{ℕ, suc, ◌+◌, ◌++◌, ◌<◌, ◌≡◌, ◌≢◌, Bool, true, false, cond}}
use Rattle.std.proofs.Common.{eqb, not, List, [], ◌∷◌, filter, get_or, length, map, Option, Some, None, refl, sym, ap, ◌∙◌, subst, arith, ◌*◌}
use Rattle.std.{proofs.lemmas.{Bool.{cond_both, cond-false, eqb-true, ne_eqb}, List.length-map, Option.same_Some}, specs.Option.option_map_or}
use Rattle.std.specs.Prelude.{AllPairs, find, option_map, unwrap_or}
use Rattle.mg_model.specs.declared.calls.Call.TheVariants as call
use Rattle.mg_model.specs.declared.replies.Reply.TheVariants as reply

-- Two changes of threads, in either order.
either : (t : ℕ) (g : ThreadRow → ThreadRow) (x : Thread) (v : Bool) → eqb x.number t ≡ v → changed t g x ≡ cond v (record x { row = g x.row }) x
either t g x v is = ap (λ b. cond b (record x { row = g x.row }) x) is

changed-twice : (t i : ℕ) (f g : ThreadRow → ThreadRow) (x : Thread) → f (g x.row) ≡ g (f x.row) → changed i f (changed t g x) ≡ changed t g (changed i f x)
changed-twice t i f g x same = grind (arith, changed, either)

map-twice : {X : Type 0} (f g : X → X) → ((x : X) → f (g x) ≡ g (f x)) → (xs : List X) → map f (map g xs) ≡ map g (map f xs)
map-twice f g same [] = refl
map-twice f g same (x ∷ xs) = ap (λ y. y ∷ map f (map g xs)) (same x) ∙ ap (λ ys. g (f x) ∷ ys) (map-twice f g same xs)

threads-twice : (t i : ℕ) (f g : ThreadRow → ThreadRow) → ((row : ThreadRow) → f (g row) ≡ g (f row)) → (threads : List Thread) → map (changed i f) (map (changed t g) threads) ≡ map (changed t g) (map (changed i f) threads)
threads-twice t i f g same threads = map-twice (changed i f) (changed t g) (λ x. changed-twice t i f g x (same x.row)) threads

-- Lists of threads that are made and filtered by number.
module _ (t : ℕ) (g : ThreadRow → ThreadRow) where
  free_number-over : (n : ℕ) (threads : List Thread) → free_number_from n (map (changed t g) threads) ≡ free_number_from n threads
  free_number-over n [] = refl
  free_number-over n (x ∷ xs) = grind (arith, (free_number-over (n + 1) xs))

  without-over : (i : ℕ) (threads : List Thread) → filter (λ (x : Thread). not (eqb x.number i)) (map (changed t g) threads) ≡ map (changed t g) (filter (λ (x : Thread). not (eqb x.number i)) threads)
  without-over i [] = refl
  without-over i (x ∷ xs) = grind (arith, (without-over i xs), changed, changed-number)

  new-over : (new : Thread) (threads : List Thread) → new.number ≢ t → with_new_thread new (map (changed t g) threads) ≡ map (changed t g) (with_new_thread new threads)
  new-over new [] other = ap (λ x. x ∷ []) (sym (cond-false (eqb new.number t) (record new { row = g new.row }) new (ne_eqb _ _ other)))
  new-over new (x ∷ xs) other = grind (arith, (new-over new xs other))

module _ (state : State) (t : ℕ) (old row : ThreadRow) (formed : IsWellFormed state) (there : row_of state t ≡ Some old) (is : IsRowOf old row) where
  abbrev over : ThreadRow → ThreadRow
  over = with_frames_of row

  -- the state with the row replaced
  abbrev W : State → State
  W s = with_thread s t over

  abbrev put : State
  put = W state

  hit : (u : ℕ) (x : Thread) → eqb (changed t over x).number u ≡ eqb x.number u
  hit u x = ap (λ (n : ℕ). eqb n u) (changed-number t over x)

  found_over : (u : ℕ) → thread_of put u ≡ option_map (changed t over) (thread_of state u)
  found_over u = find-map (λ (x : Thread). eqb x.number u) (changed t over) (hit u) state.threads

  same_domain : (u : ℕ) → domain_of put u ≡ domain_of state u
  same_domain u = grind (arith, read-map, changed, hit, cond_both)

  same_is_thread : (u : ℕ) → is_thread put u ≡ is_thread state u
  same_is_thread u = grind (arith, found_over, changed)

  -- a part of the row that did not change
  same_part : (part : ThreadRow → ℕ) → ((frames : ThreadRow) → part (over frames) ≡ part row) → part row ≡ part old → (u : ℕ) → option_map_or (λ (x : Thread). part x.row) (thread_of put u) 0 ≡ option_map_or (λ (x : Thread). part x.row) (thread_of state u) 0
  same_part part rests same u = ap (λ o. option_map_or (λ (x : Thread). part x.row) o 0) (found_over u) ∙ by_found (thread_of state u) refl
    where
      own : (o : Option Thread) → thread_of state t ≡ o → option_map_or (λ (x : Thread). Some x.row) o None ≡ Some old → (x : Thread) → o ≡ Some x → x.row ≡ old
      own None found was x is = absurd (cc)
      own (Some y) found was x is = ap (λ (z : Thread). z.row) (sym (same_Some y x is)) ∙ same_Some y.row old was

      by_number : (x : Thread) (v : Bool) → eqb x.number t ≡ v → thread_of state u ≡ Some x → part (cond v (record x { row = over x.row }) x).row ≡ part x.row
      by_number x false other found = refl
      by_number x true at found = rests x.row ∙ same ∙ ap part (sym (own (thread_of state t) refl there x (here (eqb-true _ _ at))))
        where
          number : (test : Thread → Bool) (xs : List Thread) → find test xs ≡ Some x → test x ≡ true
          number test [] none = absurd (cc)
          number test (y ∷ ys) some =
              cond_both (test y) (Some y) (find test ys) (λ o. o ≡ Some x → test x ≡ true)
              (λ passes at. ap test (sym (same_Some y x at)) ∙ passes)
              (λ _ later. number test ys later) some

          here : x.number ≡ t → thread_of state t ≡ Some x
          here at_t = subst (λ n. find (λ (y : Thread). eqb y.number n) state.threads ≡ Some x) (sym (eqb-true _ _ (number (λ (y : Thread). eqb y.number u) state.threads found)) ∙ at_t) found

      by_found : (o : Option Thread) → thread_of state u ≡ o → option_map_or (λ (x : Thread). part x.row) (option_map (changed t over) o) 0 ≡ option_map_or (λ (x : Thread). part x.row) o 0
      by_found None found = refl
      by_found (Some x) found = by_number x (eqb x.number t) refl found

  same_birth : (u : ℕ) → birth_of put u ≡ birth_of state u
  same_birth u = same_part (λ (r : ThreadRow). r.birth) (λ other. refl) is.birth u

  same_creator : (u : ℕ) → creator_of put u ≡ creator_of state u
  same_creator u = same_part (λ (r : ThreadRow). r.creator) (λ other. refl) is.creator u

  -- a row of the table, by its effect when nothing refuses it
  row-over : (refused : Option Refusal) (after : Answer) → unless_refused refused put (W after.0, after.1) ≡ (W (unless_refused refused state after).0, (unless_refused refused state after).1)
  row-over None after = refl
  row-over (Some word) after = refl

  -- the same for an effect that is equal to that effect
  row-like : (refused : Option Refusal) (before new : State) (said : Reply) → before ≡ W new → unless_refused refused put (before, said) ≡ (W (unless_refused refused state (new, said)).0, (unless_refused refused state (new, said)).1)
  row-like None before new said same = ap (λ s. (s, said)) same
  row-like (Some word) before new said same = refl

  slots-over : (slots : List Slot) → with_slots put t slots ≡ W (with_slots state t slots)
  slots-over slots = ap (λ threads. record state { threads = threads }) (threads-twice t t (λ (r : ThreadRow). record r { frames = with_last_slots r.frames slots }) over (λ r. refl) state.threads)

  ready-over : (r : ThreadRow) → record (over r) { state = Ready } ≡ over (record r { state = Ready })
  ready-over r = ap (λ kind. record (over r) { state = kind }) (sym is.ready)

  resumed-over : (i : ℕ) → with_thread put i (λ (r : ThreadRow). record r { state = Ready }) ≡ W (with_thread state i (λ (r : ThreadRow). record r { state = Ready }))
  resumed-over i = ap (λ threads. record state { threads = threads }) (threads-twice t i (λ (r : ThreadRow). record r { state = Ready }) over ready-over state.threads)

  ended-over : (i : ℕ) → record put { threads = filter (λ (x : Thread). not (eqb x.number i)) put.threads } ≡ W (record state { threads = filter (λ (x : Thread). not (eqb x.number i)) state.threads })
  ended-over i = ap (λ threads. record state { threads = threads }) (without-over t over i state.threads)

  -- the number of a new thread is none of a thread that lives
  is_new : free_number state.threads ≢ t
  is_new same = grind (arith, free_number-least)

  born-over : (new : Thread) → new.number ≢ t → record (born put) { threads = with_new_thread new put.threads } ≡ W (record (born state) { threads = with_new_thread new state.threads })
  born-over new other = ap (λ threads. record (born state) { threads = threads }) (new-over t over new state.threads other)

  call-over : (made : Call) → is_by_script made ≡ true → thread_call put t made ≡ (W (thread_call state t made).0, (thread_call state t made).1)
  call-over (call.Load a) by = rw (same_domain t) (row-over _ (state, reply.Value (word_at state.objects a)))
  call-over (call.Store a value) by = rw (same_domain t) (row-over _ (record state { objects = with_word state.objects a value }, reply.Done))
  call-over (call.Create n account password) by =
      let base = 4096 * lowest_free state.objects n in
      row-over _ (record (drawn state) { objects = with_object (new_object base n account (next_password state)) state.objects }, reply.Made base (next_password state))
  call-over (call.Delete b) by = rw (same_domain t) (row-over _ (record state { objects = without_object (row_at state b).base state.objects }, reply.Done))
  call-over (call.Info b) by = rw (same_domain t) (row-over _ (state, about (row_at state b)))
  call-over (call.Pwadd b rights until) by =
      rw (same_domain t)
      (row-over _ (with_row_at (drawn state) b (λ object. record object { passwords = object.passwords ++ record { password = next_password state; rights = rights; until = unwrap_or until never } ∷ [] }), reply.Value (next_password state)))
  call-over (call.Pwdel b password) by = rw (same_domain t) (row-over _ (with_row_at state b (λ object. record object { passwords = filter (λ pw. not (has_password password pw)) object.passwords }), reply.Done))
  call-over (call.Entry b off) by = rw (same_domain t) (row-over _ (with_row_at state b (λ object. with_entry object ((row_at state b).base + off)), reply.Value ((row_at state b).base + off)))
  call-over (call.Ext b clist password) by = rw (same_domain t) (row-over _ (with_row_at state b (λ object. record object { extension = extension_of clist password }), reply.Done))
  call-over (call.Recharge b account password) by = rw (same_domain t) (row-over _ (with_row_at state b (λ object. record object { account = account }), reply.Done))
  call-over (call.Apdadd clist password) by = grind (arith, same_domain, row-like, slots-over)
  call-over (call.Apddel index) by = grind (arith, same_domain, row-like, slots-over)
  call-over call.Apdlist by = rw (same_domain t) refl
  call-over (call.Thread pc) by =
      let number = free_number state.threads in
      let new = new_thread number (state.counters.births + 1) (birth_of state t) pc (domain_of state t) in
      rw (same_domain t, same_birth t, free_number-over t over 1 state.threads, length-map)
      (row-like _ (record (born put) { threads = with_new_thread new put.threads }) (record (born state) { threads = with_new_thread new state.threads }) (reply.Count number) (born-over new is_new))
  call-over (call.End i) by =
      rw (same_is_thread i, same_creator i, same_birth t)
      (row-like _ (record put { threads = filter (λ (x : Thread). not (eqb x.number i)) put.threads }) (record state { threads = filter (λ (x : Thread). not (eqb x.number i)) state.threads }) reply.Done (ended-over i))
  call-over (call.Resume i) by =
      let ready : ThreadRow → ThreadRow = λ r. record r { state = Ready } in
      rw (same_is_thread i, same_creator i, same_birth t) (row-like _ (with_thread put i ready) (with_thread state i ready) reply.Done (resumed-over i))
  call-over (call.Account account password amount) by = grind (arith, row-over)
  call-over (call.Pay account password to amount) by = row-over _ (record state { accounts = credited (debited state.accounts account amount) to amount }, reply.Done)
  call-over (call.Balance account password) by = row-over _ (state, reply.Funds (balance_of state.accounts account) (owed_by state.accounts account) (pages_of state.objects account))
  call-over (call.Pdx a mask) by = absurd (cc)
  call-over call.Ret by = absurd (cc)
  call-over call.Turn by = refl
  call-over call.Next by = refl
  call-over call.Rent by = refl
  call-over call.Bad by = refl

-- threads whose numbers are larger stay
above : (t : ℕ) (f : ThreadRow → ThreadRow) (xs : List Thread) → ((k : ℕ) (d : Thread) → k < length xs → t < (get_or xs k d).number) → map (changed t f) xs ≡ xs
above t f [] larger = refl
above t f (y ∷ ys) larger =
    let here : t < y.number = larger 0 y (omega arith) in
    let other : y.number ≢ t = omega arith in
    ap (λ z. z ∷ map (changed t f) ys) (cond-false (eqb y.number t) (record y { row = f y.row }) y (ne_eqb _ _ other))
    ∙ ap (λ zs. y ∷ zs) (above t f ys (λ k d within. larger (suc k) d (omega arith)))

-- if numbers differ, the new row is the given row over the thread's own
put-over : (t : ℕ) (old row : ThreadRow) (threads : List Thread) → AllPairs IsBelow threads → option_map_or (λ (x : Thread). Some x.row) (find (λ (x : Thread). eqb x.number t) threads) None ≡ Some old → row.frames ≡ old.frames
    → map (changed t (λ _. row)) threads ≡ map (changed t (with_frames_of row)) threads
put-over t old row [] apart there same = refl
put-over t old row (x ∷ xs) apart there same = by_number (λ was. put-over t old row xs (AllPairs-tail IsBelow x xs apart) was same) (eqb x.number t) refl there
  where
    by_number : (option_map_or (λ (y : Thread). Some y.row) (find (λ (y : Thread). eqb y.number t) xs) None ≡ Some old → map (changed t (λ _. row)) xs ≡ map (changed t (with_frames_of row)) xs) → (v : Bool) → eqb x.number t ≡ v → option_map_or (λ (y : Thread). Some y.row) (cond v (Some x) (find (λ (y : Thread). eqb y.number t) xs)) None ≡ Some old
        → map (changed t (λ _. row)) (x ∷ xs) ≡ map (changed t (with_frames_of row)) (x ∷ xs)
    by_number rest true at was =
        let number : x.number ≡ t = eqb-true _ _ at in
        let larger : (k : ℕ) (d : Thread) → k < length xs → t < (get_or xs k d).number = λ k d within. subst (λ n. n < (get_or xs k d).number) number (AllPairs-head IsBelow x xs apart k d within) in
        let frames : row.frames ≡ x.row.frames = same ∙ ap (λ (r : ThreadRow). r.frames) (sym (same_Some x.row old was)) in
        ap (λ ys. changed t (λ _. row) x ∷ ys) (above t (λ _. row) xs larger)
        ∙ ap (λ y. y ∷ xs) (either t (λ _. row) x true at ∙ ap (λ fs. record x { row = record row { frames = fs } }) frames ∙ sym (either t (with_frames_of row) x true at))
        ∙ ap (λ ys. changed t (with_frames_of row) x ∷ ys) (sym (above t (with_frames_of row) xs larger))
    by_number rest false other was = grind (arith, changed, either)

pub calls_over : RestsOnNoRegister thread_call
calls_over state t old row made formed there is by =
    ap (λ threads. thread_call (record state { threads = threads }) t made) (put-over t old row state.threads formed.threads.ordered there is.frames)
    ∙ call-over state t old row formed there is made by
