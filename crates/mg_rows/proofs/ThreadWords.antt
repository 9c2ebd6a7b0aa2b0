-- Another pc, state or register of a thread is another word of its block.
use Rattle.mg_model.specs.{Abbreviations.{state_number, word_bytes}, Bytes.{padded_to, words_bytes}, BytesLemmas.length-words_bytes}
use Rattle.mg_model.specs.{Spelling.{frame_bytes, thread_bytes}, State.ThreadRow, declared.threads.ThrState.ThrState}
use Rattle.{mg_rows.specs.ThreadParts.{head_words, with_word}, std.proofs.Common.{refl, sym, ap, ◌∙◌, arith, append_assoc, length-append}}
use Rattle.std.{proofs.lemmas.List.length-set, specs.{List.splice, Prelude.{◌≡◌, ℕ, zero, suc, ◌+◌, ◌-◌, ◌*◌, ◌<◌, List, [], ◌∷◌, ◌++◌, flat_map}}}
use Rattle.std.specs.Prelude.{length, replicate, slice_set}

pub pc_put : (row : ThreadRow) (pc : ℕ) → with_word 24 pc (thread_bytes row) ≡ thread_bytes (record row { pc = pc })
pc_put row pc = refl

pub state_put : (row : ThreadRow) (state : ThrState) → with_word 32 (state_number state) (thread_bytes row) ≡ thread_bytes (record row { state = state })
state_put row state = refl

-- after the first bytes
behind : (xs ys bytes : List ℕ) (n m i j : ℕ) → n ≡ length xs + i → m ≡ length xs + j → splice (xs ++ ys) n m bytes ≡ xs ++ splice ys i j bytes
behind [] ys bytes n m i j is to = ap (λ k. splice ys k m bytes) (let e : n ≡ i = omega arith in e) ∙ ap (λ k. splice ys i k bytes) (let e : m ≡ j = omega arith in e)
behind (x ∷ xs) ys bytes n m i j is to =
    ap (λ k. splice (x ∷ (xs ++ ys)) k m bytes) (let e : n ≡ suc (length xs + i) = omega arith in e)
    ∙ ap (λ k. splice (x ∷ (xs ++ ys)) (suc (length xs + i)) k bytes) (let e : m ≡ suc (length xs + j) = omega arith in e)
    ∙ ap (λ rest. x ∷ rest) (behind xs ys bytes (length xs + i) (length xs + j) i j refl refl)

-- among words
among_words : (ns : List ℕ) (k v : ℕ) (ys : List ℕ) → k < length ns → with_word (8 * k) v (words_bytes ns ++ ys) ≡ words_bytes (slice_set ns k v) ++ ys
among_words [] k v ys below = absurd (omega arith)
among_words (n ∷ ns) zero v ys below = refl
among_words (n ∷ ns) (suc k) v ys below =
    behind (word_bytes n) (words_bytes ns ++ ys) (word_bytes v) (8 * suc k) (8 * suc k + 8) (8 * k) (8 * k + 8) (omega arith) (omega arith)
    ∙ ap (λ b. word_bytes n ++ b) (among_words ns k v ys (omega arith))

pub register_put : (row : ThreadRow) (k v : ℕ) → length row.regs ≡ 8 → k < 8 → with_word (64 + 8 * k) v (thread_bytes row) ≡ thread_bytes (record row { regs = slice_set row.regs k v })
register_put row k v eight below =
    let frames : List ℕ = flat_map frame_bytes row.frames in
    let head : List ℕ = padded_to 64 (words_bytes (head_words row)) in
    let zeros : List ℕ → List ℕ = λ regs. replicate (4032 - length (words_bytes regs ++ frames)) 0 in
    let same : length (words_bytes (slice_set row.regs k v) ++ frames) ≡ length (words_bytes row.regs ++ frames) =
    length-append (words_bytes (slice_set row.regs k v)) frames
    ∙ ap (λ n. n + length frames) (length-words_bytes (slice_set row.regs k v) ∙ ap (λ n. 8 * n) (length-set row.regs k v) ∙ sym (length-words_bytes row.regs))
    ∙ sym (length-append (words_bytes row.regs) frames) in
    behind head ((words_bytes row.regs ++ frames) ++ zeros row.regs) (word_bytes v) (64 + 8 * k) (64 + 8 * k + 8) (8 * k) (8 * k + 8) (omega arith) (omega arith)
    ∙ ap (λ b. head ++ with_word (8 * k) v b) (append_assoc (words_bytes row.regs) frames (zeros row.regs))
    ∙ ap (λ b. head ++ b) (among_words row.regs k v (frames ++ zeros row.regs) (omega arith))
    ∙ ap (λ b. head ++ b) (sym (append_assoc (words_bytes (slice_set row.regs k v)) frames (zeros row.regs)))
    ∙ ap (λ n. head ++ ((words_bytes (slice_set row.regs k v) ++ frames) ++ replicate (4032 - n) 0)) (sym same)
