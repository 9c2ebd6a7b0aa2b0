-- The document that the replies to its loads give.
use Rattle.{mg_asm.specs.LineLemmas.{high-misses, misses-append, newline_low, split-before}, mg_document.specs.Asked.{load_calls, put_calls}}
use Rattle.mg_document.specs.{Documents.{document, packed, words_for}, EndedLemmas.not_last, Replies.{bytes_behind, bytes_of, bytes_told, ended}}
use Rattle.{mg_document.specs.Replies.{first_bytes, with_told, word_told}, mg_document_session.proofs.Stored.{IsRoomy, loads-tell, stores-hold}}
use Rattle.{mg_document_session.{proofs.Stored.value_lines, specs.Trips.{AllOk, ComesBack, IsByte, replies}}, mg_model.specs.Abbreviations.word_bytes}
use Rattle.mg_model.specs.{Bytes.{number_at, numbers_at, padded_to, words_bytes}, BytesLemmas.length-padded_to, Ended.all_but_last, Print.hex_text}
use Rattle.mg_model.specs.{Print.{replies_text, reply_line, reply_text}, Ranges.IsWord, State.Object, Step.after, WellFormed.IsObject}
use Rattle.{mg_model.specs.{Words.{is_newline, number_of}, declared.replies.Reply.TheVariants.Value}, mg_text.specs.NumberLemmas.hex-high}
use Rattle.{mg_text.specs.NumberLemmas.number_of-hex, std.proofs.Common.{◌≡◌, ℕ, zero, suc, ◌+◌, ◌-◌, ◌*◌, ◌^◌, ◌<◌, ◌≤◌, List, [], ◌∷◌, ◌++◌}}
use Rattle.std.proofs.Common.{length, get_or, take, drop, replicate, All, Some, Ok, refl, ap, sym, ◌∙◌, subst, arith, append_assoc}
use Rattle.std.proofs.lemmas.List.{append-nil, drop-drop, length-drop, length-take-le, take_all, take_at, Elements.{All-append, All-cons, All-drop}}
use Rattle.std.proofs.lemmas.{List.Elements.{All-head, All-nil, All-replicate, All-tail, All-take, All-weaker}, Nat.le_bytes_8}
use Rattle.std.specs.Int.{from_le_bytes, w64}

-- objects of a well-formed state
object-roomy : (object : Object) → IsObject object → IsRoomy object
object-roomy object formed =
    let place = formed.row.place.aligned in
    record { aligned = omega (arith, place); long = formed.long }

-- a reply with a word, and the replies after it
behind_ok : (w : ℕ) → word_told (111 ∷ 107 ∷ 32 ∷ hex_text w) ≡ number_of (hex_text w)
unfolding hex_text
behind_ok w = refl

value-told : (w : ℕ) → IsWord w → word_told (reply_text (Value w)) ≡ Some w
value-told w fits =
    ap (λ (v : List ℕ). word_told (111 ∷ 107 ∷ 32 ∷ v)) (append-nil (hex_text w)) ∙ behind_ok w ∙ number_of-hex w fits

value-ended : (w : ℕ) (rest : List ℕ) → ended (reply_line (Value w) ++ rest) ≡ reply_text (Value w) ∷ ended rest
value-ended w rest =
    let missed = misses-append is_newline (hex_text w) [] (high-misses is_newline newline_low (hex_text w) (hex-high w)) tt in
    ap ended (append_assoc (reply_text (Value w)) (10 ∷ []) rest)
    ∙ ap all_but_last (split-before is_newline (reply_text (Value w)) 10 rest (refl, (refl, (refl, missed))) refl)
    ∙ not_last is_newline (reply_text (Value w)) rest

values-behind : (before : List ℕ) (n : ℕ) (ws more : List ℕ) → All IsWord ws → bytes_behind before n (length ws) (ended (value_lines ws ++ more)) ≡ Ok (before ++ words_bytes ws)
values-behind before n [] more fit = ap (λ v. Ok v) (sym (append-nil before))
values-behind before n (w ∷ ws) more fit =
    ap (λ bytes. bytes_behind before n (suc (length ws)) (ended bytes)) (append_assoc (reply_line (Value w)) (value_lines ws) more)
    ∙ ap (bytes_behind before n (suc (length ws))) (value-ended w (value_lines ws ++ more))
    ∙ ap (λ o. with_told n o (λ word. bytes_behind (before ++ word_bytes word) (n + 1) (length ws) (ended (value_lines ws ++ more)))) (value-told w (All-head IsWord w ws fit))
    ∙ values-behind (before ++ word_bytes w) (n + 1) ws more (All-tail IsWord w ws fit)
    ∙ ap (λ v. Ok v) (append_assoc before (word_bytes w) (words_bytes ws))

-- the words of bytes
byte-below : (xs : List ℕ) → All IsByte xs → (i : ℕ) → get_or xs i 0 < 256
byte-below [] are i = omega arith
byte-below (x ∷ xs) are zero = All-head IsByte x xs are
byte-below (x ∷ xs) are (suc i) = byte-below xs (All-tail IsByte x xs are) i

word-fits : (xs : List ℕ) → All IsByte xs → IsWord (from_le_bytes w64 xs)
word-fits xs are =
    let a = byte-below xs are 0 in
    let b = byte-below xs are 1 in
    let c = byte-below xs are 2 in
    let d = byte-below xs are 3 in
    let e = byte-below xs are 4 in
    let f = byte-below xs are 5 in
    let g = byte-below xs are 6 in
    let h = byte-below xs are 7 in
    omega (arith, a, b, c, d, e, f, g, h)

part-bytes : (p : List ℕ) (o : ℕ) → All IsByte p → All IsByte (take 8 (drop o p))
part-bytes p o are = All-take IsByte 8 (drop o p) (All-drop IsByte o p are)

words-fit : (p : List ℕ) (o n : ℕ) → All IsByte p → All IsWord (numbers_at p o n)
words-fit p o zero are = All-nil IsWord
words-fit p o (suc n) are = All-cons IsWord (number_at p o) (numbers_at p (o + 8) n) (word-fits (take 8 (drop o p)) (part-bytes p o are)) (words-fit p (o + 8) n are)

length-numbers : (p : List ℕ) (o n : ℕ) → length (numbers_at p o n) ≡ n
length-numbers p o zero = refl
length-numbers p o (suc n) = ap suc (length-numbers p (o + 8) n)

take-none : (n : ℕ) → ◌≡◌ {A = List ℕ} (take n []) []
take-none zero = refl
take-none (suc n) = refl

take-then : (m n : ℕ) (xs : List ℕ) → take (m + n) xs ≡ take m xs ++ take n (drop m xs)
take-then zero n xs = let e : 0 + n ≡ n = omega arith in rw e refl
take-then (suc m) n [] = take-none (suc m + n) ∙ sym (take-none n)
take-then (suc m) n (x ∷ xs) = let s : suc m + n ≡ suc (m + n) = omega arith in rw s (ap (λ (v : List ℕ). x ∷ v) (take-then m n xs))

bytes-back : (p : List ℕ) (o n : ℕ) → o + 8 * n ≤ length p → All IsByte p → words_bytes (numbers_at p o n) ≡ take (8 * n) (drop o p)
bytes-back p o zero within are = refl
bytes-back p o (suc n) within are =
    let part = take 8 (drop o p) in
    let long : length part ≡ 8 = length-take-le 8 (drop o p) (omega (arith, length-drop o p)) in
    let more : 8 * suc n ≡ 8 + 8 * n = omega arith in
    let next : drop (o + 8) p ≡ drop 8 (drop o p) = sym (drop-drop 8 o p) in
    ap (λ v. v ++ words_bytes (numbers_at p (o + 8) n)) (le_bytes_8 part (number_at p o) long (byte-below part (part-bytes p o are)) refl)
    ∙ ap (λ v. part ++ v) (bytes-back p (o + 8) n (omega arith) are ∙ ap (take (8 * n)) next)
    ∙ sym (ap (λ k. take k (drop o p)) more ∙ take-then 8 (8 * n) (drop o p))

filled-bytes : (n : ℕ) (xs : List ℕ) → All IsByte xs → All IsByte (padded_to n xs)
filled-bytes n xs are = All-append IsByte xs (replicate (n - length xs) 0) are (All-replicate IsByte (n - length xs) 0 (omega arith))

packed-back : (xs : List ℕ) → All IsByte xs → take (length xs) (words_bytes (packed xs)) ≡ xs
packed-back xs are =
    let n = words_for (length xs) in
    let filled = padded_to (8 * n) xs in
    let room : length xs ≤ 8 * n = omega arith in
    let long : length filled ≡ 8 * n = length-padded_to (8 * n) xs room in
    ap (take (length xs)) (bytes-back filled 0 n (omega (arith, long)) (filled-bytes (8 * n) xs are) ∙ take_all (8 * n) filled (omega (arith, long)))
    ∙ take_at xs (replicate (8 * n - length xs) 0) (length xs) refl

-- the whole way
document-told : (xs more : List ℕ) → All IsByte xs → length xs < 2 ^ 64 → bytes_told (value_lines (document xs) ++ more) ≡ Ok xs
document-told xs more are few =
    let n = words_for (length xs) in
    let fit = words-fit (padded_to (8 * n) xs) 0 n (filled-bytes (8 * n) xs are) in
    let rest = ended (value_lines (packed xs) ++ more) in
    ap (λ bytes. bytes_of (ended bytes)) (append_assoc (reply_line (Value (length xs))) (value_lines (packed xs)) more)
    ∙ ap bytes_of (value-ended (length xs) (value_lines (packed xs) ++ more))
    ∙ ap (λ o. with_told 1 o (λ len. first_bytes len (bytes_behind [] 2 (words_for len) rest))) (value-told (length xs) few)
    ∙ ap (λ k. first_bytes (length xs) (bytes_behind [] 2 k rest)) (sym (length-numbers (padded_to (8 * n) xs) 0 n))
    ∙ ap (first_bytes (length xs)) (values-behind [] 2 (packed xs) more fit)
    ∙ ap (λ v. Ok v) (packed-back xs are)

length-document : (xs : List ℕ) → length (document xs) ≡ suc (words_for (length xs))
length-document xs = ap suc (length-numbers (padded_to (8 * words_for (length xs)) xs) 0 (words_for (length xs)))

pub comes-back : ComesBack bytes_told
comes-back trip more =
    let ws = document trip.bytes in
    let behind = after trip.state (put_calls trip.thread trip.address trip.bytes) in
    let roomy = All-weaker IsObject IsRoomy object-roomy trip.state.objects trip.formed.objects.each in
    let hold = stores-hold trip.state trip.thread trip.address ws roomy trip.stored in
    let count = sym (length-document trip.bytes) in
    let loaded = subst (λ (n : ℕ). AllOk behind (load_calls trip.reader trip.address n)) count trip.loaded in
    let tell : replies trip ≡ value_lines ws =
    ap (λ n. replies_text behind (load_calls trip.reader trip.address n)) count ∙ loads-tell behind trip.reader trip.address ws hold loaded in
    let few = trip.few in
    ap (λ v. bytes_told (v ++ more)) tell ∙ document-told trip.bytes more trip.small (omega (arith, few))
