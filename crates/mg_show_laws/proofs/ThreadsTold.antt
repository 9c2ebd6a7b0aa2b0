-- Threads, with their registers, frames and slots: the lines of each tell it, whatever stands behind.
use Rattle.mg_show_laws.proofs.Cutting.{AllHigh, IsAt, Tells, all-high-append, line-cut, list-told, map-high, map-told, nth, spaced-append}
use Rattle.mg_show_laws.proofs.Names.{codes, flat_map, decimal, ◌≡◌, ℕ, ◌^◌, ◌<◌, List, [], ◌∷◌, ◌++◌, drop, map, refl, ap, sym, ◌∙◌, arith}
use Rattle.mg_show_laws.proofs.Names.{append_assoc, decimal_injective, hex_text, spaced, IsCallFrame, IsSlot, IsThreadRow, IsWord, CallFrame, Thread}
use Rattle.mg_show_laws.proofs.Names.{ThreadRow, state_row, hex-high, frame_text, line, registers_text, slot_text, thread_head, thread_text}
use Rattle.mg_show_laws.proofs.{ObjectsTold.slot-told, ValuesTold.{decimal-high, hex-told, state-high, state-spaced, state-told, state_words}}

slot-at : IsAt 3 (slot_text (codes "slot"))
slot-at slot r = refl

frame-at : IsAt 2 frame_text
frame-at frame r = refl

frame-told : Tells IsCallFrame 3 frame_text
frame-told x y r s ok ok' low low' e =
    let own = λ (frame : CallFrame). line (codes "frame") (hex_text frame.back ∷ []) in
    let slots = λ (frame : CallFrame). flat_map (slot_text (codes "slot")) frame.slots in
    let apart = sym (append_assoc (own x) (slots x) r) ∙ e ∙ append_assoc (own y) (slots y) s in
    let high = hex-high x.back in
    let high' = hex-high y.back in
    let here = line-cut (codes "frame") (hex_text x.back ∷ []) (hex_text y.back ∷ []) _ _ (high, tt) (high', tt) apart in
    let back = hex-told x.back y.back ok.back ok'.back (nth 0 here.0) in
    let by_slot = slot-told (codes "slot") 4 in
    let told = list-told IsSlot 3 (slot_text (codes "slot")) slot-at by_slot x.slots y.slots r s ok.slots ok'.slots low low' here.1 in
    (λ i. record { back = back i; slots = told.0 i }, told.1)

-- the words of a thread's own line
thread_words : ℕ → ThreadRow → List (List ℕ)
thread_words number row =
    decimal number ∷ decimal row.birth ∷ decimal row.creator ∷ hex_text row.pc ∷ state_words row.state ++ map hex_text row.regs

thread-high : (number : ℕ) (row : ThreadRow) → IsThreadRow row → AllHigh (thread_words number row)
unfolding thread_words
thread-high number row ok =
    let registers = map-high IsWord hex_text (λ w _. hex-high w) row.regs ok.registers in
    let last = all-high-append (state_words row.state) (map hex_text row.regs) (state-high row.state) registers in
    (decimal-high number, (decimal-high row.birth, (decimal-high row.creator, (hex-high row.pc, last))))

two_pieces : (head front state spelled regs behind : List ℕ) → state ≡ spelled
    → (head ++ (front ++ state)) ++ (regs ++ behind) ≡ (head ++ (front ++ (spelled ++ regs))) ++ behind
two_pieces head front state spelled regs behind same = rw same (simp append_assoc)

-- the line is put in two pieces, and the state as one word
thread-line : (number : ℕ) (row : ThreadRow)
    → thread_head number row ++ registers_text row.regs ≡ line (codes "thread") (thread_words number row)
unfolding thread_words
thread-line number row =
    let front = decimal number ∷ decimal row.birth ∷ decimal row.creator ∷ hex_text row.pc ∷ [] in
    let state = (state_row row.state).1 ∷ [] in
    let spelled = state_words row.state in
    let regs = map hex_text row.regs in
    ap (λ words. (codes "thread" ++ words) ++ (spaced regs ++ 10 ∷ [])) (spaced-append front state)
    ∙ two_pieces (codes "thread") (spaced front) (spaced state) (spaced spelled) (spaced regs) (10 ∷ []) (state-spaced row.state)
    ∙ ap (λ words. (codes "thread" ++ (spaced front ++ words)) ++ 10 ∷ []) (sym (spaced-append spelled regs))
    ∙ ap (λ words. (codes "thread" ++ words) ++ 10 ∷ []) (sym (spaced-append front (spelled ++ regs)))

thread-apart : (x : Thread) (r : List ℕ)
    → thread_text x ++ r ≡ line (codes "thread") (thread_words x.number x.row) ++ (flat_map frame_text x.row.frames ++ r)
thread-apart x r = grind (arith, append_assoc, thread-line)

pub record IsNumbered (thread : Thread) : Type 0 where
  pub number : thread.number < 2 ^ 64
  pub row : IsThreadRow thread.row

pub thread-at : IsAt 1 thread_text
thread-at thread r = refl

row-told : (number number' : ℕ) (x y : ThreadRow) → IsThreadRow x → IsThreadRow y → number < 2 ^ 64 → number' < 2 ^ 64 → x.frames ≡ y.frames
    → thread_words number x ≡ thread_words number' y → (number ≡ number') × (x ≡ y)
unfolding thread_words
row-told number number' x y ok ok' fits fits' frames e =
    let birth = decimal_injective x.birth y.birth ok.birth ok'.birth (nth 1 e) in
    let earlier : x.creator < 2 ^ 64 = omega (arith, ok.creator, ok.birth) in
    let earlier' : y.creator < 2 ^ 64 = omega (arith, ok'.creator, ok'.birth) in
    let creator = decimal_injective x.creator y.creator earlier earlier' (nth 2 e) in
    let pc = hex-told x.pc y.pc ok.pc ok'.pc (nth 3 e) in
    let last = ap (λ (words : List (List ℕ)). drop 4 words) e in
    let state = state-told x.state y.state (map hex_text x.regs) (map hex_text y.regs) last in
    let regs = map-told IsWord hex_text hex-told x.regs y.regs ok.registers ok'.registers state.1 in (
      decimal_injective number number' fits fits' (nth 0 e),
      λ i. record { birth = birth i; creator = creator i; pc = pc i; state = state.0 i; regs = regs i; frames = frames i },
    )

pub thread-told : Tells IsNumbered 2 thread_text
thread-told x y r s ok ok' low low' e =
    let here = line-cut (codes "thread") (thread_words x.number x.row) (thread_words y.number y.row) _ _ (thread-high x.number x.row ok.row)
    (thread-high y.number y.row ok'.row) (sym (thread-apart x r) ∙ e ∙ thread-apart y s) in
    let own = ok.row.frames in
    let own' = ok'.row.frames in
    let frames = list-told IsCallFrame 2 frame_text frame-at frame-told x.row.frames y.row.frames r s own own' low low' here.1 in
    let told = row-told x.number y.number x.row y.row ok.row ok'.row ok.number ok'.number frames.0 here.0 in
    (λ i. record { number = told.0 i; row = told.1 i }, frames.1)
