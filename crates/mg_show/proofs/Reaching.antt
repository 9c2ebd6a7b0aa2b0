-- What is defined by the judgement of each access is what the walk over lists gives.
use Rattle.{mg_disk.specs.Disk.Image, mg_model.specs.{Access.{allowed, at, covers, domain_of, capabilities, holds, last_slots}, Ranges.IsObjectRow}}
use Rattle.mg_model.specs.{Rights.has_right, State.{ObjectRow, Thread, ThreadRow}, declared.{rights.Right.Right, slots.Slot.Slot}}
use Rattle.{mg_objects.specs.Held.AreApart, mg_show.{proofs.{ByPlaces.places-same, Letters.{none-has, rights-letters}}, specs.Marking.{Marks, given}}}
use Rattle.mg_show.specs.{ReachText.{letters_by, reach_line, reach_text, thread_reach}, Reached.{bits_line, marked_reach, row_reach, thread_reached}}
use Rattle.{mg_show.specs.{Reached.reached_by, Shown.{numbered, object_in, state_shown}, declared.held.Shown.Shown}, std.proofs.Common.slice_index}
use Rattle.std.proofs.Common.{ap, ◌≡◌, ℕ, suc, ◌+◌, ◌*◌, ◌<◌, ◌≤◌, List, [], ◌∷◌, ◌++◌, flat_map, if◌then◌else◌, length, map, Some, refl, sym, ◌∙◌}
use Rattle.std.proofs.{Common.{arith, get_or}, Math.Path.fun_ext, lemmas.{Bool.{eq-eqb, Decides.nat_tests}, List.Folds.flat_map-map}}
use Rattle.std.specs.{List.AllPairs, Option.option_map_or, Prelude.{slice_index_or, zero, ◌==◌, Bool, true, false, All, filter, find}}

-- the same at each element
pub flat_map_same : {X Y : Type 0} (f g : X → List Y) (xs : List X) → ((i : ℕ) → i < length xs → (d : X) → f (get_or xs i d) ≡ g (get_or xs i d)) → flat_map f xs ≡ flat_map g xs
flat_map_same f g [] same = refl
flat_map_same f g (x ∷ xs) same = λ i. same 0 (omega arith) x i ++ flat_map_same f g xs (λ k below d. same (suc k) (omega arith) d) i

-- elements that pass alike
passed_alike : {X Y : Type 0} (f : X → List Y) (test : X → Bool) (v : Bool) (xs : List X)
    → ((i : ℕ) → i < length xs → (d : X) → test (get_or xs i d) ≡ v)
    → flat_map f (filter test xs) ≡ (if v then flat_map f xs else [])
passed_alike f test true [] same = refl
passed_alike f test false [] same = refl
passed_alike f test v (x ∷ xs) same = grind (arith, same 0 (omega arith) x, (passed_alike f test v xs (λ i below d. same (suc i) (omega arith) d)))

module _ (shown : Shown) (r : Image) where
  -- an address of an object is that of no other
  at_own : (address : ℕ) (os : List (ℕ × ObjectRow)) → All (λ (o : ℕ × ObjectRow). IsObjectRow o.1) os → AreApart os → (i : ℕ)
      → i < length os → (d : ℕ × ObjectRow)
      → covers (get_or os i d).1 address ≡ true → at (map (object_in shown r) os) address ≡ Some (object_in shown r (get_or os i d))
  at_own address [] rows apart i below d inside = absurd (omega arith)
  at_own address (o ∷ os) rows apart zero below d inside = grind arith
  at_own address (o ∷ os) rows apart (suc i) below d inside =
      let rest = at_own address os (λ k d under. rows (suc k) d (omega arith)) (λ k l d before under. apart (suc k) (suc l) d (omega arith) (omega arith)) i (omega arith) d inside in
      grind (arith, nat_tests, rest, inside, (rows 0 d (omega arith)).place.aligned, apart 0 (suc i) d (omega arith) (omega arith))

  -- the thread with its number, where places rise
  domain_own : (threads : List (ℕ × ThreadRow)) → AllPairs (λ (x y : ℕ × ThreadRow). x.0 < y.0) threads → (i : ℕ) → i < length threads
      → (d : ℕ × ThreadRow)
      → option_map_or (λ (thread : Thread). last_slots thread.row.frames)
      (find (λ (thread : Thread). thread.number == (get_or threads i d).0 + 1) (map numbered threads)) []
      ≡ last_slots (get_or threads i d).1.frames
  domain_own [] rise i below d = absurd (omega arith)
  domain_own (t ∷ threads) rise zero below d = grind (arith, eq-eqb)
  domain_own (t ∷ threads) rise (suc i) below d =
      let rest = domain_own threads (λ k j d before under. rise (suc k) (suc j) d (omega arith) (omega arith)) i (omega arith) d in
      grind (arith, nat_tests, rest, rise 0 (suc i) d (omega arith) (omega arith))

  module _ (ranges : All (λ (o : ℕ × ObjectRow). IsObjectRow o.1) shown.objects) (apart : AreApart shown.objects) (thread : ℕ × ThreadRow)
      (domain : domain_of (state_shown shown r) (thread.0 + 1) ≡ last_slots thread.1.frames) where
    abbrev has : ObjectRow → Right → Bool
    has row right = given (holds shown.counters.period) (reached_by shown r thread) row right

    -- an access of the thread to an address of an object
    allowed_own : (i : ℕ) → i < length shown.objects → (d : ℕ × ObjectRow) (address : ℕ) (right : Right)
        → (get_or shown.objects i d).1.base ≤ address
        → address < (get_or shown.objects i d).1.base + 4096 * (get_or shown.objects i d).1.pages
        → allowed (state_shown shown r) (thread.0 + 1) address right ≡ has (get_or shown.objects i d).1 right
    allowed_own i below d address right above under = grind (arith, nat_tests, domain, above, under, at_own address shown.objects ranges apart i below d)

    reach_own : thread_reach (state_shown shown r) (thread.0 + 1) ≡ thread_reached shown r thread
    reach_own = grind (arith, flat_map-map, flat_map_same, fun_ext, allowed_own, passed_alike)

  pub reach_same : All (λ (o : ℕ × ObjectRow). IsObjectRow o.1) shown.objects → AreApart shown.objects
      → AllPairs (λ (x y : ℕ × ThreadRow). x.0 < y.0) shown.threads.items
      → flat_map (thread_reached shown r) shown.threads.items ≡ reach_text (state_shown shown r)
  reach_same ranges apart rise =
      let s = state_shown shown r in
      let text = λ (thread : Thread). thread_reach s thread.number in
      sym (
      flat_map-map text numbered shown.threads.items
      ∙ flat_map_same (λ (t : ℕ × ThreadRow). text (numbered t)) (thread_reached shown r) shown.threads.items
      (λ i below d. reach_own ranges apart (get_or shown.threads.items i d) (domain_own shown.threads.items rise i below d))
      )

-- the line of bits is that of the rights that they have
pub bits-line : (t base bits : ℕ) → bits_line t base bits ≡ reach_line t base (letters_by (has_right bits))
bits-line t base bits = grind (arith, nat_tests, rights-letters)

-- what a thread reaches by bytes that have the rights of its lists
pub thread-reached : (shown : Shown) (r : Image) (thread : ℕ × ThreadRow) (slots : List Slot) (zeros bytes : List ℕ)
    → slots ≡ last_slots thread.1.frames → ((i : ℕ) → slice_index zeros i ≡ 0)
    → Marks has_right (holds shown.counters.period) shown.objects
    (capabilities (state_shown shown r).objects shown.counters.period slots) zeros bytes
    → marked_reach (thread.0 + 1) bytes shown.objects ≡ thread_reached shown r thread
thread-reached shown r thread slots zeros bytes are none marks =
    let caps = λ (slots : List Slot). capabilities (state_shown shown r).objects shown.counters.period slots in
    places-same (λ i row. row_reach (thread.0 + 1) (has_right (slice_index bytes i)) row)
    (λ row. row_reach (thread.0 + 1) (given (holds shown.counters.period) (caps (last_slots thread.1.frames)) row) row) shown.objects
    (λ i below d.
    let row = (slice_index_or shown.objects i d).1 in
    let same : has_right (slice_index bytes i) ≡ given (holds shown.counters.period) (caps (last_slots thread.1.frames)) row =
    fun_ext (λ right. grind (arith, marks.are i below d right, none i, none-has 0 refl right, are)) in
    ap (λ (has : Right → Bool). row_reach (thread.0 + 1) has row) same)
