-- The words of objects: a line tells its address, so the words of one object end where those of the next begin.
use Rattle.{mg_model.specs.Objects.page_behind, mg_show_laws.proofs.{Cutting.{AllHigh, Same, level, line-cut, nth}, Names.{AllPairs, codes}}}
use Rattle.mg_show_laws.proofs.Names.{flat_map, ◌≡◌, ℕ, suc, ◌+◌, ◌*◌, ◌^◌, ◌<◌, ◌≤◌, cond, eqb, List, [], ◌∷◌, ◌++◌, length, map, refl, ap, sym}
use Rattle.mg_show_laws.proofs.Names.{subst, ◌∙◌, arith, append_assoc, All, cond_both, eqb-true, All-head, All-tail, hex_text, IsWord, Object}
use Rattle.mg_show_laws.proofs.{Names.{ObjectRow, IsBefore, IsObject, hex-high, line, words_text}, ValuesTold.hex-told}

abbrev word_line : ℕ → ℕ → List ℕ
word_line address word = line (codes "word") (hex_text address ∷ hex_text word ∷ [])

line-high : (address word : ℕ) → AllHigh (hex_text address ∷ hex_text word ∷ [])
line-high address word = (hex-high address, (hex-high word, tt))

-- two lines of words, and what stands behind them
word-told : (a b w v : ℕ) (r s : List ℕ) → IsWord a → IsWord b → IsWord w → IsWord v → word_line a w ++ r ≡ word_line b v ++ s
    → (a ≡ b) × (w ≡ v) × (r ≡ s)
word-told a b w v r s fits fits' small small' e =
    let words = hex_text a ∷ hex_text w ∷ [] in
    let words' = hex_text b ∷ hex_text v ∷ [] in
    let here = line-cut (codes "word") words words' r s (line-high a w) (line-high b v) e in
    (hex-told a b fits fits' (nth 0 here.0), hex-told w v small small' (nth 1 here.0), here.1)

-- where a text begins with the line of a word, its address is this one or above
abbrev IsBeyond : ℕ → List ℕ → Type 0
IsBeyond least text =
    (address word : ℕ) (rest : List ℕ) → IsWord address → IsWord word → text ≡ word_line address word ++ rest → least ≤ address

nearer : (least more : ℕ) (text : List ℕ) → least ≤ more → IsBeyond more text → IsBeyond least text
nearer least more text near beyond = λ address word rest fits small e. let far = beyond address word rest fits small e in omega arith

words-beyond : (least a : ℕ) (ws r : List ℕ) → least ≤ a → a + 8 * length ws < 2 ^ 60 → All IsWord ws → IsBeyond least r
    → IsBeyond least (words_text a ws ++ r)
words-beyond least a [] r low high all beyond = beyond
words-beyond least a (w ∷ ws) r low high all beyond = grind (arith, (words-beyond least (a + 8) ws r (omega arith) (omega arith) (All-tail IsWord w ws all) beyond), All-head, All-tail, cond_both, append_assoc, word-told)

-- one word more in front, where the texts behind it begin further on
first-told : (a w v : ℕ) (ws vs rest rest' r s : List ℕ) → IsWord a → IsWord w → IsWord v
    → IsBeyond (a + 8) (rest ++ r) → IsBeyond (a + 8) (rest' ++ s)
    → (rest ++ r ≡ rest' ++ s → Same ws vs r s)
    → (cond (eqb w 0) [] (word_line a w) ++ rest) ++ r ≡ (cond (eqb v 0) [] (word_line a v) ++ rest') ++ s → Same (w ∷ ws) (v ∷ vs) r s
first-told a w v ws vs rest rest' r s fits small small' beyond beyond' further = grind (arith, cond_both, eqb-true, append_assoc, word-told)

-- as many words from one address on, where what stands behind begins at the end or further on
words-told : (a : ℕ) (ws vs r s : List ℕ) → length ws ≡ length vs → a + 8 * length ws < 2 ^ 60 → All IsWord ws → All IsWord vs
    → IsBeyond (a + 8 * length ws) r → IsBeyond (a + 8 * length ws) s → words_text a ws ++ r ≡ words_text a vs ++ s → Same ws vs r s
words-told a [] [] r s long high all all' beyond beyond' e = (refl, e)
words-told a [] (v ∷ vs) r s long high all all' beyond beyond' e = absurd (omega arith)
words-told a (w ∷ ws) [] r s long high all all' beyond beyond' e = absurd (omega arith)
words-told a (w ∷ ws) (v ∷ vs) r s long high all all' beyond beyond' e =
    let words = All-tail IsWord w ws all in
    let words' = All-tail IsWord v vs all' in
    let last = a + 8 * length (w ∷ ws) in
    let next = a + 8 + 8 * length ws in
    let behind = words-beyond (a + 8) (a + 8) ws r (omega arith) (omega arith) words (nearer (a + 8) last r (omega arith) beyond) in
    let behind' = words-beyond (a + 8) (a + 8) vs s (omega arith) (omega arith) words' (nearer (a + 8) last s (omega arith) beyond') in
    let further = words-told (a + 8) ws vs r s (omega arith) (omega arith) words words' (nearer next last r (omega arith) beyond)
    (nearer next last s (omega arith) beyond') in
    let small = All-head IsWord w ws all in
    let small' = All-head IsWord v vs all' in
    first-told a w v ws vs (words_text (a + 8) ws) (words_text (a + 8) vs) r s (omega arith) small small' behind behind' further e

-- Objects in the order of their bases

-- the words of an object, as the text has them
abbrev pub object_words : Object → List ℕ
object_words object = words_text object.row.base object.words

-- an object's words end where its pages do, and within 2^60
object-end : (object : Object) → IsObject object
    → (object.row.base + 8 * length object.words ≡ 4096 * page_behind object.row) × (object.row.base + 8 * length object.words < 2 ^ 60)
object-end object ok = grind arith

-- the first object lies before the others
before-others : (x : Object) (xs : List Object) → AllPairs IsBefore (x ∷ xs) → All (IsBefore x) xs
before-others x xs apart = λ k d within. apart 0 (suc k) d (omega arith) (omega arith)

others-apart : (x : Object) (xs : List Object) → AllPairs IsBefore (x ∷ xs) → AllPairs IsBefore xs
others-apart x xs apart = λ i j d before within. apart (suc i) (suc j) d (omega arith) (omega arith)

objects-beyond : (x : Object) (xs : List Object) → All IsObject xs → All (IsBefore x) xs
    → IsBeyond (4096 * page_behind x.row) (flat_map object_words xs)
objects-beyond x [] all before = λ address word rest fits small e. absurd cc
objects-beyond x (y ∷ ys) all before =
    let there = All-head IsObject y ys all in
    let first : IsBefore x y = All-head (IsBefore x) y ys before in
    let place = there.row.place in
    words-beyond (4096 * page_behind x.row) y.row.base y.words (flat_map object_words ys) (omega arith) (object-end y there).1 there.words
    (objects-beyond x ys (All-tail IsObject y ys all) (All-tail (IsBefore x) y ys before))

-- what stands behind the words of the first object
rest-beyond : (x : Object) (xs : List Object) → All IsObject (x ∷ xs) → AllPairs IsBefore (x ∷ xs)
    → IsBeyond (x.row.base + 8 * length x.words) (flat_map object_words xs)
rest-beyond x xs all apart =
    let end = (object-end x (All-head IsObject x xs all)).0 in
    let beyond = objects-beyond x xs (All-tail IsObject x xs all) (before-others x xs apart) in
    nearer (x.row.base + 8 * length x.words) (4096 * page_behind x.row) (flat_map object_words xs) (omega arith) beyond

abbrev pub rows_of : List Object → List ObjectRow
rows_of objects = map (λ (object : Object). object.row) objects

-- objects with the same rows
pub objects-told : (xs ys : List Object) → All IsObject xs → All IsObject ys → AllPairs IsBefore xs → AllPairs IsBefore ys
    → rows_of xs ≡ rows_of ys → flat_map object_words xs ≡ flat_map object_words ys → xs ≡ ys
objects-told [] [] all all' apart apart' rows e = refl
objects-told [] (y ∷ ys) all all' apart apart' rows e = absurd cc
objects-told (x ∷ xs) [] all all' apart apart' rows e = absurd cc
objects-told (x ∷ xs) (y ∷ ys) all all' apart apart' rows e =
    let first : x.row ≡ y.row = cc in
    let others : rows_of xs ≡ rows_of ys = cc in
    let here = All-head IsObject x xs all in
    let here' = All-head IsObject y ys all' in
    let pages : x.row.pages ≡ y.row.pages = ap (λ (row : ObjectRow). row.pages) first in
    let base : y.row.base ≡ x.row.base = ap (λ (row : ObjectRow). row.base) (sym first) in
    let long : length x.words ≡ length y.words = omega (arith, here.long, here'.long) in
    let end : y.row.base + 8 * length y.words ≡ x.row.base + 8 * length x.words = omega arith in
    let behind' = subst (λ k. IsBeyond k (flat_map object_words ys)) end (rest-beyond y ys all' apart') in
    let moved = e ∙ ap (λ k. words_text k y.words ++ flat_map object_words ys) base in
    let behind = rest-beyond x xs all apart in
    let words = words-told x.row.base x.words y.words _ _ long (object-end x here).1 here.words here'.words behind behind' moved in
    let tails = All-tail IsObject x xs all in
    let tails' = All-tail IsObject y ys all' in
    let rest = objects-told xs ys tails tails' (others-apart x xs apart) (others-apart y ys apart') others words.1 in
    let same : x ≡ y = λ i. record { row = first i; words = words.0 i } in
    cc (same, rest)

-- the text of words has the lowest level
words-level : (a : ℕ) (ws r : List ℕ) → level r < 1 → level (words_text a ws ++ r) < 1
words-level a [] r low = low
words-level a (w ∷ ws) r low = grind (arith, (words-level (a + 8) ws r low), cond_both, level)

pub objects-level : (objects : List Object) → level (flat_map object_words objects) < 1
objects-level [] = omega arith
objects-level (x ∷ xs) = words-level x.row.base x.words (flat_map object_words xs) (objects-level xs)
