-- What a reader of a thread finds, part by part.
use Rattle.mg_model.specs.{Abbreviations.{frames_at, free_or, is_call_frame, live_if}, Bytes.{are_zeros, number_at, numbers_at}, Spelling.Read}
use Rattle.mg_model.specs.{Spelling.{frame_at, slots_at, state_numbered, thread_fields}, State.{CallFrame, ThreadRow}, Tests.is_thread_row}
use Rattle.{mg_model.specs.{Words.same_bytes, declared.{slots.Slot.Slot, threads.ThrState.ThrState}}, mg_rows.proofs.ThreadRows.thread_same}
use Rattle.{mg_rows.specs.ThreadParts.{begins, with_frames}, std.proofs.Common.{◌≡◌, ◌≢◌, ◌≤◌, ◌<◌, ◌+◌, ◌*◌, ◌%◌, ◌==◌, ◌&&◌, ◌++◌, [], ◌∷◌, ℕ}}
use Rattle.std.proofs.Common.{zero, suc, min, nat_le, get_or, Bool, true, false, List, length, drop, if◌then◌else◌, replicate, Option, Some, None}
use Rattle.std.proofs.{Common.{refl, sym, ap, subst, ◌∙◌, arith, append_assoc, add-one}, Math.{ListN.set, Seq.{drop-cons, set-append_seam}}}
use Rattle.std.proofs.lemmas.{Bool.{and_from, and_left, and_parts, and_right, eq-eqb, le-leb, le-ltb, lt-ltb, ne_eqb}, List.{append-nil, drop_all}}
use Rattle.std.{proofs.lemmas.List.Folds.list_all-append, specs.List.list_all}

-- the answer if a rule holds, and None otherwise
pub record Are {R : Type 0} (rule : Bool) (row found : R) : Type 0 where
  pub kept : rule ≡ true
  pub same : row ≡ found

pub some-are : {R : Type 0} (rule : Bool) (row found : R) → Some row ≡ (if rule then Some found else None) → Are rule row found
some-are true row found e = record { kept = refl; same = (cc) }
some-are false row found e = absurd (cc)

pub none-is : {R : Type 0} (rule : Bool) (found : R) → None ≡ (if rule then Some found else None) → rule ≡ false
none-is true found e = absurd (cc)
none-is false found e = refl

pub some-if : {R : Type 0} (rule : Bool) (row found : R) → rule ≡ true → row ≡ found → Some row ≡ (if rule then Some found else None)
some-if {R} rule row found kept same = let none : Option R = None in ap Some same ∙ ap (λ t. if t then Some found else none) (sym kept)

pub none-if : {R : Type 0} (rule : Bool) (found : R) → rule ≡ false → None ≡ (if rule then Some found else None)
none-if {R} rule found broken = let none : Option R = None in ap (λ t. if t then Some found else none) (sym broken)

-- one row
module _ {R : Type 0} (fields : List ℕ → R) (rule : R → Bool) (write : R → List ℕ) (bytes : List ℕ) (some : are_zeros bytes ≡ false) where
  abbrev read : Read R
  read = free_or bytes (live_if (rule (fields bytes)) (write (fields bytes)) bytes (fields bytes))

  reads : (answer : Bool) → (rule (fields bytes) && same_bytes (write (fields bytes)) bytes) ≡ answer → read ≡ (if answer then Some (Some (fields bytes)) else None)
  reads answer is = grind arith

  pub row-none : None ≡ (if rule (fields bytes) then Some (fields bytes) else None) → None ≡ read
  row-none found = sym (reads false (and_left (rule (fields bytes)) (same_bytes (write (fields bytes)) bytes) (none-is (rule (fields bytes)) (fields bytes) found)))

  module _ (row : R) (found : Some row ≡ (if rule (fields bytes) then Some (fields bytes) else None)) where
    are : Are (rule (fields bytes)) row (fields bytes)
    are = some-are (rule (fields bytes)) row (fields bytes) found

    pub row-some : same_bytes (write row) bytes ≡ true → Some (Some row) ≡ read
    row-some same = grind (arith, are, reads, and_from)

    pub row-other : same_bytes (write row) bytes ≡ false → None ≡ read
    row-other differ = sym (reads false (and_right (rule (fields bytes)) (same_bytes (write (fields bytes)) bytes) (subst (λ (r : R). same_bytes (write r) bytes ≡ false) are.same differ)))

-- one number, slot or frame more
module _ (bytes : List ℕ) where
  numbers_at-more : (at n o : ℕ) → o ≡ at + 8 * n → numbers_at bytes at (suc n) ≡ numbers_at bytes at n ++ number_at bytes o ∷ []
  numbers_at-more at zero o is = let e : at ≡ o = omega arith in ap (λ v. number_at bytes v ∷ []) e
  numbers_at-more at (suc n) o is = ap (λ v. number_at bytes at ∷ v) (numbers_at-more (at + 8) n o (omega arith))

  slot_in : ℕ → Slot
  slot_in o = record { base = number_at bytes o; password = number_at bytes (o + 8) }

  slots-more : (at n o : ℕ) → o ≡ at + 16 * n → slots_at bytes at (suc n) ≡ slots_at bytes at n ++ slot_in o ∷ []
  unfolding slot_in
  slots-more at zero o is = let e : at ≡ o = omega arith in ap (λ v. slot_in v ∷ []) e
  slots-more at (suc n) o is = ap (λ v. slot_in at ∷ v) (slots-more (at + 16) n o (omega arith))

  pub slots_at-more : (at n o : ℕ) → o ≡ at + 16 * n → slots_at bytes at (n + 1) ≡ slots_at bytes at n ++ record { base = number_at bytes o; password = number_at bytes (o + 8) } ∷ []
  unfolding slot_in
  slots_at-more at n o is = ap (slots_at bytes at) (add-one n) ∙ slots-more at n o is

  frames-more : (at n o : ℕ) → o ≡ at + 144 * n → frames_at bytes at (suc n) ≡ frames_at bytes at n ++ frame_at bytes o ∷ []
  frames-more at zero o is = let e : at ≡ o = omega arith in ap (λ v. frame_at bytes v ∷ []) e
  frames-more at (suc n) o is = ap (λ v. frame_at bytes at ∷ v) (frames-more (at + 144) n o (omega arith))

  pub frames_at-more : (at n o : ℕ) → o ≡ at + 144 * n → frames_at bytes at (n + 1) ≡ frames_at bytes at n ++ frame_at bytes o ∷ []
  frames_at-more at n o is = ap (frames_at bytes at) (add-one n) ∙ frames-more at n o is

  length-numbers_at : (at n : ℕ) → length (numbers_at bytes at n) ≡ n
  length-numbers_at at zero = refl
  length-numbers_at at (suc n) = ap suc (length-numbers_at (at + 8) n)

  pub length-slots_at : (at n : ℕ) → length (slots_at bytes at n) ≡ n
  length-slots_at at zero = refl
  length-slots_at at (suc n) = ap suc (length-slots_at (at + 16) n)

  pub length-frames_at : (at n : ℕ) → length (frames_at bytes at n) ≡ n
  length-frames_at at zero = refl
  length-frames_at at (suc n) = ap suc (length-frames_at (at + 144) n)

  -- a register more
  pub register-more : (registers : List ℕ) (i v : ℕ) → i < length registers → v ≡ number_at bytes (64 + 8 * i)
      → set (numbers_at bytes 64 i ++ drop i registers) i v ≡ numbers_at bytes 64 (i + 1) ++ drop (i + 1) registers
  register-more registers i v within is =
      let first = numbers_at bytes 64 i in
      let rest = drop (suc i) registers in
      let here : first ++ drop i registers ≡ first ++ get_or registers i 0 ∷ rest = ap (λ w. first ++ w) (drop-cons registers i 0 within) in
      ap (λ w. set w i v) here
      ∙ ap (λ k. set (first ++ get_or registers i 0 ∷ rest) k v) (sym (length-numbers_at 64 i))
      ∙ set-append_seam first (get_or registers i 0) rest v
      ∙ ap (λ w. first ++ w ∷ rest) is
      ∙ sym (append_assoc first (number_at bytes (64 + 8 * i) ∷ []) rest)
      ∙ ap (λ w. w ++ rest) (sym (numbers_at-more 64 i (64 + 8 * i) refl))
      ∙ ap (λ k. numbers_at bytes 64 k ++ drop k registers) (sym (add-one i))

  -- the rule of a frame
  pub frame-kept : (at : ℕ) → number_at bytes at % 8 ≡ 0 → number_at bytes (at + 8) ≤ 8 → is_call_frame (frame_at bytes at) ≡ true
  frame-kept at aligned few = grind (arith, length-slots_at, and_from, eq-eqb, le-leb)

  pub frame-same : (frame : CallFrame) (at back count : ℕ) → back ≡ number_at bytes at → count ≡ number_at bytes (at + 8) → count ≤ 8 → frame ≡ record { back = back; slots = slots_at bytes (at + 16) count }
      → frame ≡ frame_at bytes at
  frame-same frame at back count e_back e_count few is = grind arith

  -- the rule of frames
  pub frames-broken : (at n j o : ℕ) → j < n → o ≡ at + 144 * j → is_call_frame (frame_at bytes o) ≡ false → list_all is_call_frame (frames_at bytes at n) ≡ false
  frames-broken at zero j o within is broken = absurd (omega arith)
  frames-broken at (suc n) zero o within is broken =
      let e : o ≡ at = omega arith in
      and_left (is_call_frame (frame_at bytes at)) (list_all is_call_frame (frames_at bytes (at + 144) n)) (ap (λ v. is_call_frame (frame_at bytes v)) (sym e) ∙ broken)
  frames-broken at (suc n) (suc j) o within is broken = grind (arith, (frames-broken (at + 144) n j o (omega arith) (omega arith) broken), and_right)

  pub frames-kept : (n o : ℕ) → o ≡ 128 + 144 * n → list_all is_call_frame (frames_at bytes 128 n) ≡ true → is_call_frame (frame_at bytes o) ≡ true → list_all is_call_frame (frames_at bytes 128 (n + 1)) ≡ true
  frames-kept n o is kept here = grind (arith, frames_at-more, list_all-append, and_from)

  -- the rule of a thread, if the count is in its range
  rules-join : (x f l z : Bool) → (x && true && (f && l) && z) ≡ (x && f && z && (f && l))
  rules-join false f l z = refl
  rules-join true false l z = refl
  rules-join true true true true = refl
  rules-join true true true false = refl
  rules-join true true false true = refl
  rules-join true true false false = refl

  rules-meet : (n : ℕ) → 1 ≤ n → n ≤ 16 → is_thread_row (with_frames bytes n) ≡ (begins bytes && list_all is_call_frame (frames_at bytes 128 n))
  rules-meet zero some few = absurd (omega arith)
  rules-meet (suc n) some few = grind (arith, length-frames_at, and_from, le-leb, rules-join)

  pub fields-few : (n : ℕ) → n ≡ number_at bytes 40 → n ≤ 16 → thread_fields bytes ≡ with_frames bytes n
  fields-few n is few = grind arith

  pub rule-of : (n : ℕ) → n ≡ number_at bytes 40 → 1 ≤ n → n ≤ 16 → is_thread_row (thread_fields bytes) ≡ (begins bytes && list_all is_call_frame (frames_at bytes 128 n))
  rule-of n is some few = ap is_thread_row (fields-few n is few) ∙ rules-meet n some few

  -- a count out of its range
  pub count-broken : (n : ℕ) → n ≡ number_at bytes 40 → (nat_le 1 (min n 17) && nat_le (min n 17) 16) ≡ false → is_thread_row (thread_fields bytes) ≡ false
  count-broken n is broken = grind (arith, length-frames_at, and_left, and_right)

  -- a slot more in a frame, a register more in a row
  pub frame-more : (old mid new : CallFrame) (at n o base password : ℕ) → o ≡ at + 16 * n → base ≡ number_at bytes o → password ≡ number_at bytes (o + 8)
      → mid ≡ record { back = old.back; slots = slots_at bytes at n } → new ≡ record { back = mid.back; slots = mid.slots ++ record { base = base; password = password } ∷ [] }
      → new ≡ record { back = old.back; slots = slots_at bytes at (n + 1) }
  frame-more old mid new at n o base password is e_base e_password e_mid e_new = grind (arith, slots_at-more)

  abbrev with_registers : ThreadRow → List ℕ → ThreadRow
  with_registers row registers = record row { regs = registers }

  pub row-more : (old mid new : ThreadRow) (i v : ℕ) → i < length old.regs → v ≡ number_at bytes (64 + 8 * i)
      → mid ≡ with_registers old (numbers_at bytes 64 i ++ drop i old.regs) → new ≡ with_registers mid (set mid.regs i v)
      → new ≡ with_registers old (numbers_at bytes 64 (i + 1) ++ drop (i + 1) old.regs)
  row-more old mid new i v within is e_mid e_new = grind (arith, set, register-more)

  pub row-registers : (old new : ThreadRow) (n : ℕ) → n ≡ 8 → length old.regs ≡ 8 → new ≡ with_registers old (numbers_at bytes 64 n ++ drop n old.regs) → new ≡ with_registers old (numbers_at bytes 64 8)
  row-registers old new n is eight e_new = grind (arith, drop_all, append-nil)

  pub thread-more : (old new : ThreadRow) (frame : CallFrame) (n o : ℕ) → o ≡ 128 + 144 * n → old ≡ with_frames bytes n → frame ≡ frame_at bytes o
      → new ≡ record old { frames = old.frames ++ frame ∷ [] } → new ≡ with_frames bytes (n + 1)
  thread-more old new frame n o is e_old e_frame e_new = grind (arith, frames_at-more)

  -- the rule of the parts before the later frames
  pub begins-creator : number_at bytes 8 ≤ number_at bytes 16 → begins bytes ≡ false
  begins-creator high = grind (arith, and_left, le-ltb)

  pub begins-pc : number_at bytes 24 % 8 ≢ 0 → begins bytes ≡ false
  begins-pc odd = grind (arith, and_left, and_right, ne_eqb)

  pub begins-frame : is_call_frame (frame_at bytes 128) ≡ false → begins bytes ≡ false
  begins-frame broken = grind (arith, and_left, and_right)

  pub begins-back : (number_at bytes 128 == 0) ≡ false → begins bytes ≡ false
  begins-back elsewhere = grind (arith, and_right)

  pub begins-all : number_at bytes 16 < number_at bytes 8 → number_at bytes 24 % 8 ≡ 0 → is_call_frame (frame_at bytes 128) ≡ true → (number_at bytes 128 == 0) ≡ true → begins bytes ≡ true
  begins-all low even kept bottom = grind (arith, and_from, lt-ltb, eq-eqb)

  pub begins-first : begins bytes ≡ true → is_call_frame (frame_at bytes 128) ≡ true
  begins-first is = grind (arith, and_parts)

  pub row-begun : (new row : ThreadRow) (first : CallFrame) (birth creator pc : ℕ) (state : ThrState)
      → new ≡ with_registers row (numbers_at bytes 64 8) → row ≡ record { birth = birth; creator = creator; pc = pc; state = state; regs = replicate 8 0; frames = first ∷ [] }
      → birth ≡ number_at bytes 8 → creator ≡ number_at bytes 16 → pc ≡ number_at bytes 24 → state ≡ state_numbered (number_at bytes 32) → first ≡ frame_at bytes 128
      → new ≡ with_frames bytes 1
  row-begun new row first birth creator pc state e_new e_row e_birth e_creator e_pc e_state e_first = grind (arith, thread_same)

  -- the answer with the other frames
  pub fields-found : (n : ℕ) (result : Option ThreadRow) → n ≡ number_at bytes 40 → 1 ≤ n → n ≤ 16 → begins bytes ≡ true
      → result ≡ (if list_all is_call_frame (frames_at bytes 128 n) then Some (with_frames bytes n) else None)
      → result ≡ (if is_thread_row (thread_fields bytes) then Some (thread_fields bytes) else None)
  fields-found n result is some few begun found =
      let none : Option ThreadRow = None in
      let all = list_all is_call_frame (frames_at bytes 128 n) in
      let rule : is_thread_row (thread_fields bytes) ≡ all = rule-of n is some few ∙ ap (λ b. b && all) begun in
      found
      ∙ ap (λ t. if t then Some (with_frames bytes n) else none) (sym rule)
      ∙ ap (λ v. if is_thread_row (thread_fields bytes) then Some v else none) (sym (fields-few n is few))
