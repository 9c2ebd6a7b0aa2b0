-- A thread's row as bytes, and what is read from them.
use Rattle.mg_model.specs.{Abbreviations.{frames_at, slot_words, state_number, word_bytes}, Bytes.{number_at, numbers_at, padded_to, words_bytes}}
use Rattle.mg_model.specs.BytesLemmas.{length-padded_to, length-words_bytes, number_at-behind, numbers_at-behind, numbers_at-first, padded_to-append}
use Rattle.mg_model.specs.{Ranges.{IsCallFrame, IsSlot, IsThreadRow}, RowLemmas.thread-live, Spelling.{frame_at, frame_bytes, slots_at}}
use Rattle.mg_model.specs.{Spelling.{state_numbered, thread_bytes, thread_fields, thread_read}, State.{CallFrame, ThreadRow}}
use Rattle.mg_model.specs.declared.{slots.Slot.Slot, threads.ThrState.{ThrState, TheVariants.{Ready, Stopped, Faulted}}}
use Rattle.{mg_rows.{proofs.ThreadKeeps.thread-keeps, specs.ThreadParts.head_words}, std.proofs.Common.{◌≡◌, ◌≤◌, ◌<◌, ◌+◌, ◌*◌, ◌-◌, ◌++◌, [], ◌∷◌}}
use Rattle.std.proofs.Common.{ℕ, zero, suc, min, get_or, take, List, length, flat_map, replicate, All, Some, refl, sym, ap, ◌∙◌, arith, append_assoc}
use Rattle.std.proofs.{Common.{add_assoc, length-append}, lemmas.{Grind.{common_steps, flat_map-append}, List.{append-nil, take_more}}}
use Rattle.std.proofs.lemmas.{List.Elements.{All-head, All-tail}, Nat.from_le_bytes-to_le_bytes_8}
use Rattle.mg_model.specs.declared.threads.Fault.TheVariants as fault

-- the slots of a frame
slots_at-behind : (xs ys : List ℕ) (n k m : ℕ) → length xs ≡ n → slots_at (xs ++ ys) (n + k) m ≡ slots_at ys k m
slots_at-behind xs ys n k zero is = refl
slots_at-behind xs ys n k (suc m) is =
    let first : number_at (xs ++ ys) (n + k) ≡ number_at ys k = number_at-behind xs ys n k is in
    let second : number_at (xs ++ ys) (n + k + 8) ≡ number_at ys (k + 8) = ap (number_at (xs ++ ys)) (add_assoc n k 8) ∙ number_at-behind xs ys n (k + 8) is in
    let rest : slots_at (xs ++ ys) (n + k + 16) m ≡ slots_at ys (k + 16) m = ap (λ o. slots_at (xs ++ ys) o m) (add_assoc n k 16) ∙ slots_at-behind xs ys n (k + 16) m is in
    cc

slot_of : ℕ → ℕ → Slot
slot_of base password = record { base = base; password = password }

slots_at-first : (slots : List Slot) (ys : List ℕ) → All IsSlot slots → slots_at (words_bytes (flat_map slot_words slots) ++ ys) 0 (length slots) ≡ slots
unfolding slot_of
slots_at-first [] ys fit = refl
slots_at-first (slot ∷ slots) ys fit =
    let here = All-head IsSlot slot slots fit in
    let bytes = word_bytes slot.base ++ (word_bytes slot.password ++ (words_bytes (flat_map slot_words slots) ++ ys)) in
    let first : number_at bytes 0 ≡ slot.base = from_le_bytes-to_le_bytes_8 slot.base here.base in
    let second : number_at bytes 8 ≡ slot.password = from_le_bytes-to_le_bytes_8 slot.password here.password in
    let rest : slots_at bytes 16 (length slots) ≡ slots =
    slots_at-behind (word_bytes slot.base ++ word_bytes slot.password) (words_bytes (flat_map slot_words slots) ++ ys) 16 0 (length slots) refl ∙ slots_at-first slots ys (All-tail IsSlot slot slots fit) in
    ap (λ n. slot_of n (number_at bytes 8) ∷ slots_at bytes 16 (length slots)) first
    ∙ ap (λ n. slot_of slot.base n ∷ slots_at bytes 16 (length slots)) second
    ∙ ap (λ v. slot ∷ v) rest

length-slot_words : (slots : List Slot) → length (flat_map slot_words slots) ≡ 2 * length slots
length-slot_words [] = refl
length-slot_words (slot ∷ slots) = let e = length-slot_words slots in omega arith

-- a frame
pub length-frame_bytes : (frame : CallFrame) → length frame.slots ≤ 8 → length (frame_bytes frame) ≡ 144
length-frame_bytes frame few =
    let words = frame.back ∷ length frame.slots ∷ flat_map slot_words frame.slots in
    let long = length-words_bytes words in
    let slots = length-slot_words frame.slots in
    length-padded_to 144 (words_bytes words) (omega arith)

-- a frame's words are added to some bytes, then those of its slots, and then zeros
pub frame-filled : (frame : CallFrame) (back : ℕ) (slots : List Slot) (f f1 f2 f3 : List ℕ) → back ≡ frame.back → slots ≡ frame.slots
    → f1 ≡ f ++ words_bytes (back ∷ length slots ∷ []) → f2 ≡ f1 ++ words_bytes (flat_map slot_words slots) → f3 ≡ f2 ++ replicate (128 - 16 * length slots) 0 → f3 ≡ f ++ frame_bytes frame
frame-filled frame back slots f f1 f2 f3 is_back is_slots one two three =
    let words = back ∷ length slots ∷ flat_map slot_words slots in
    let head = words_bytes (back ∷ length slots ∷ []) in
    let more = words_bytes (flat_map slot_words slots) in
    let zeros = replicate (128 - 16 * length slots) 0 in
    let long = length-words_bytes words in
    let short = length-slot_words slots in
    let rest : 128 - 16 * length slots ≡ 144 - length (words_bytes words) = omega arith in
    let framed : List Slot → ℕ → CallFrame = λ these b. record { back = b; slots = these } in
    three ∙ ap (λ v. v ++ zeros) (two ∙ ap (λ v. v ++ more) one)
    ∙ append_assoc (f ++ head) more zeros ∙ append_assoc f head (more ++ zeros)
    ∙ ap (λ k. f ++ (head ++ (more ++ replicate k 0))) rest
    ∙ ap (λ b. f ++ frame_bytes (framed slots b)) is_back
    ∙ ap (λ these. f ++ frame_bytes (framed these frame.back)) is_slots

frame_of : ℕ → List Slot → CallFrame
frame_of back slots = record { back = back; slots = slots }

frame_at-first : (frame : CallFrame) (ys : List ℕ) → IsCallFrame frame → frame_at (frame_bytes frame ++ ys) 0 ≡ frame
unfolding frame_of
frame_at-first frame ys is =
    let words : List ℕ = words_bytes (flat_map slot_words frame.slots) in
    let zeros : List ℕ = replicate (144 - length (words_bytes (frame.back ∷ length frame.slots ∷ flat_map slot_words frame.slots))) 0 in
    let bytes : List ℕ = frame_bytes frame ++ ys in
    let few = is.few in
    let back : number_at bytes 0 ≡ frame.back = from_le_bytes-to_le_bytes_8 frame.back is.back in
    let count : number_at bytes 8 ≡ length frame.slots = from_le_bytes-to_le_bytes_8 (length frame.slots) (omega arith) in
    let least : min (length frame.slots) 9 ≡ length frame.slots = omega arith in
    let slots : slots_at bytes 16 (length frame.slots) ≡ frame.slots =
    slots_at-behind (word_bytes frame.back ++ word_bytes (length frame.slots)) ((words ++ zeros) ++ ys) 16 0 (length frame.slots) refl
    ∙ ap (λ v. slots_at v 0 (length frame.slots)) (append_assoc words zeros ys)
    ∙ slots_at-first frame.slots (zeros ++ ys) is.slots in
    ap (λ n. frame_of n (slots_at bytes 16 (min (number_at bytes 8) 9))) back
    ∙ ap (λ n. frame_of frame.back (slots_at bytes 16 (min n 9))) count
    ∙ ap (λ n. frame_of frame.back (slots_at bytes 16 n)) least
    ∙ ap (λ v. frame_of frame.back v) slots

frame_at-behind : (xs ys : List ℕ) (n k : ℕ) → length xs ≡ n → frame_at (xs ++ ys) (n + k) ≡ frame_at ys k
unfolding frame_of
frame_at-behind xs ys n k is =
    let back : number_at (xs ++ ys) (n + k) ≡ number_at ys k = number_at-behind xs ys n k is in
    let count : number_at (xs ++ ys) (n + k + 8) ≡ number_at ys (k + 8) = ap (number_at (xs ++ ys)) (add_assoc n k 8) ∙ number_at-behind xs ys n (k + 8) is in
    let m = min (number_at ys (k + 8)) 9 in
    let slots : slots_at (xs ++ ys) (n + k + 16) m ≡ slots_at ys (k + 16) m = ap (λ o. slots_at (xs ++ ys) o m) (add_assoc n k 16) ∙ slots_at-behind xs ys n (k + 16) m is in
    ap (λ b. frame_of b (slots_at (xs ++ ys) (n + k + 16) (min (number_at (xs ++ ys) (n + k + 8)) 9))) back
    ∙ ap (λ c. frame_of (number_at ys k) (slots_at (xs ++ ys) (n + k + 16) (min c 9))) count
    ∙ ap (λ v. frame_of (number_at ys k) v) slots

-- the frames of a thread
frames_at-behind : (xs ys : List ℕ) (n k m : ℕ) → length xs ≡ n → frames_at (xs ++ ys) (n + k) m ≡ frames_at ys k m
frames_at-behind xs ys n k zero is = refl
frames_at-behind xs ys n k (suc m) is = grind (arith, (frames_at-behind xs ys n (k + 144) m is), frame_at-behind, add_assoc)

frames_at-first : (frames : List CallFrame) (ys : List ℕ) → All IsCallFrame frames → frames_at (flat_map frame_bytes frames ++ ys) 0 (length frames) ≡ frames
frames_at-first [] ys all = refl
frames_at-first (frame ∷ frames) ys all =
    let here = All-head IsCallFrame frame frames all in
    let behind = flat_map frame_bytes frames ++ ys in
    ap (λ v. frames_at v 0 (suc (length frames))) (append_assoc (frame_bytes frame) (flat_map frame_bytes frames) ys)
    ∙ ap (λ f. f ∷ frames_at (frame_bytes frame ++ behind) 144 (length frames)) (frame_at-first frame behind here)
    ∙ ap (λ fs. frame ∷ fs) (frames_at-behind (frame_bytes frame) behind 144 0 (length frames) (length-frame_bytes frame here.few) ∙ frames_at-first frames ys (All-tail IsCallFrame frame frames all))

-- the state
state-back : (state : ThrState) → state_numbered (state_number state) ≡ state
state-back Ready = refl
state-back Stopped = refl
state-back (Faulted fault.Align) = refl
state-back (Faulted fault.Denied) = refl
state-back (Faulted fault.Opcode) = refl

state-few : (state : ThrState) → state_number state < 5
state-few Ready = omega arith
state-few Stopped = omega arith
state-few (Faulted fault.Align) = omega arith
state-few (Faulted fault.Denied) = omega arith
state-few (Faulted fault.Opcode) = omega arith

pub thread_same : (a b : ThreadRow) → a.birth ≡ b.birth → a.creator ≡ b.creator → a.pc ≡ b.pc → a.state ≡ b.state → a.regs ≡ b.regs → a.frames ≡ b.frames → a ≡ b
thread_same a b birth creator pc state registers frames = grind arith

module _ (row : ThreadRow) (is : IsThreadRow row) where
  -- the head, the registers, and the frames with zeros after them
  abbrev head : List ℕ
  head = padded_to 64 (words_bytes (head_words row))

  abbrev registers : List ℕ
  registers = words_bytes row.regs

  abbrev frames : List ℕ
  frames = flat_map frame_bytes row.frames

  abbrev zeros : List ℕ
  zeros = replicate (4032 - length (registers ++ frames)) 0

  parts : thread_bytes row ≡ head ++ (registers ++ (frames ++ zeros))
  parts = ap (λ v. head ++ v) (append_assoc registers frames zeros)

  registers-back : numbers_at (thread_bytes row) 64 8 ≡ row.regs
  registers-back =
      ap (λ v. numbers_at v 64 8) parts
      ∙ numbers_at-behind head (registers ++ (frames ++ zeros)) 64 0 8 refl
      ∙ ap (numbers_at (registers ++ (frames ++ zeros)) 0) (sym is.eight)
      ∙ numbers_at-first row.regs (frames ++ zeros) is.registers

  long-registers : length (head ++ registers) ≡ 128
  long-registers = let e = length-words_bytes row.regs in let n = is.eight in let f = length-append head registers in omega arith

  frames-back : frames_at (thread_bytes row) 128 (length row.frames) ≡ row.frames
  frames-back =
      ap (λ v. frames_at v 128 (length row.frames)) (parts ∙ sym (append_assoc head registers (frames ++ zeros)))
      ∙ frames_at-behind (head ++ registers) (frames ++ zeros) 128 0 (length row.frames) long-registers
      ∙ frames_at-first row.frames zeros is.frames

  fields-back : thread_fields (thread_bytes row) ≡ row
  fields-back =
      let few = is.few_frames in
      let below = is.creator in
      let word = is.birth in
      let states = state-few row.state in
      let birth : number_at (thread_bytes row) 8 ≡ row.birth = from_le_bytes-to_le_bytes_8 row.birth is.birth in
      let creator : number_at (thread_bytes row) 16 ≡ row.creator = from_le_bytes-to_le_bytes_8 row.creator (omega arith) in
      let pc : number_at (thread_bytes row) 24 ≡ row.pc = from_le_bytes-to_le_bytes_8 row.pc is.pc in
      let state : number_at (thread_bytes row) 32 ≡ state_number row.state = from_le_bytes-to_le_bytes_8 (state_number row.state) (omega arith) in
      let count : number_at (thread_bytes row) 40 ≡ length row.frames = from_le_bytes-to_le_bytes_8 (length row.frames) (omega arith) in
      let least : min (length row.frames) 17 ≡ length row.frames = omega arith in
      thread_same (thread_fields (thread_bytes row)) row birth creator pc (ap state_numbered state ∙ state-back row.state) registers-back
      (ap (λ n. frames_at (thread_bytes row) 128 (min n 17)) count ∙ ap (frames_at (thread_bytes row) 128) least ∙ frames-back)

pub thread-back : (row : ThreadRow) → IsThreadRow row → thread_read (thread_bytes row) ≡ Some (Some row)
thread-back row is = thread-live (thread_bytes row) row refl (fields-back row is) (thread-keeps row is) refl

-- written part by part
pub added : {X : Type 0} (f : X → List ℕ) (xs : List X) (i : ℕ) (x : X) (new mid old : List ℕ) → i < length xs → x ≡ get_or xs i x → mid ≡ old ++ flat_map f (take i xs) → new ≡ mid ++ f x
    → new ≡ old ++ flat_map f (take (i + 1) xs)
added f xs i x new mid old within is e_mid e_new = grind (arith, common_steps, take_more, flat_map-append, append-nil, append_assoc)

pub thread-spelled : (row : ThreadRow) (whole s1 s2 s3 registers : List ℕ) (frames : List CallFrame) → whole ≡ padded_to 4096 s3
    → s1 ≡ padded_to 64 (words_bytes (head_words row)) → s2 ≡ s1 ++ words_bytes registers → s3 ≡ s2 ++ flat_map frame_bytes frames
    → registers ≡ row.regs → frames ≡ row.frames → whole ≡ thread_bytes row
thread-spelled row whole s1 s2 s3 registers frames is e1 e2 e3 e_registers e_frames = grind (arith, append_assoc, padded_to-append)
