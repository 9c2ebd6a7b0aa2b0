-- The words of a text as a loop over its lines finds them.
use Rattle.mg_asm.specs.Assembled.{all_given, behind, distance, item_at, items_of, made_at, place_of, size, word_at, word_limit, words_in, words_of}
use Rattle.mg_asm.specs.{Listed.{listed_at, listed_line, listed_lines, with_room}, Reading.{Reading, line_reading, on_ok}}
use Rattle.mg_asm.specs.declared.faults.{AsmFault.{AsmFault, TheVariants.At}, AsmKind.{AsmKind, TheVariants.{NoLabel, TooLong, Twice}}}
use Rattle.{mg_asm.specs.declared.items.Item.Item, std.proofs.Common.{◌≡◌, ℕ, ◌+◌, ◌*◌, ◌^◌, nat_lt, Bool, true, false, List, [], ◌∷◌, ◌++◌, length}}
use Rattle.std.proofs.Common.{map, take, flat_map, if◌then◌else◌, Option, Some, None, is_some, Result, Ok, Err, refl, ap, sym, ◌∙◌, append_assoc}
use Rattle.std.proofs.{Common.{add_assoc, arith, length-append}, Math.Seq.take-append_seam, lemmas.{Bool.false≢true, Grind.flat_map-append}}
use Rattle.std.{proofs.lemmas.List.{append-nil, map-append}, specs.{List.enumerate_from, Option.{option_map_or, option_to_list}, Result.is_ok}}
use Rattle.std.specs.Result.{ok_prefix}
use Rattle.mg_asm.specs.declared.items.Item.TheVariants as item

-- what follows of the item of line n, or its fault
abbrev pub with_item : {X : Type 0} → ℕ → Reading → (Item → Result X AsmFault) → Result X AsmFault
with_item n (Ok made) f = f made
with_item n (Err kind) f = Err (At n kind)

-- the items of these lines with those of the lines before them, an item a line; or the first fault
abbrev pub items_behind : List Item → List (List ℕ) → Result (List Item) AsmFault
items_behind before [] = Ok before
items_behind before (line ∷ lines) = with_item (length before + 1) (behind before (line_reading line)) (λ made. items_behind (before ++ made ∷ []) lines)

-- what follows of the word of line n, or its fault
abbrev pub with_word : {X : Type 0} → ℕ → Result (Option ℕ) AsmKind → (Option ℕ → Result X AsmFault) → Result X AsmFault
with_word n (Ok word) f = f word
with_word n (Err kind) f = Err (At n kind)

-- the words of these items, of which the first is of line n, with those of the items before it; or the first fault
abbrev pub words_behind : List Item → List ℕ → ℕ → List Item → Result (List ℕ) AsmFault
words_behind all before n [] = Ok before
words_behind all before n (it ∷ items) = with_word n (made_at all (length before) it) (λ word. words_behind all (before ++ option_to_list word) (n + 1) items)

-- the words of these lines, of which the first is line n, with those of the lines before them; or the first fault
abbrev pub listed_behind : List ℕ → ℕ → List (List ℕ) → Result (List ℕ) AsmFault
listed_behind before n [] = Ok before
listed_behind before n (line ∷ lines) =
    with_word n (with_room (length before) (listed_line line)) (λ word. listed_behind (before ++ option_to_list word) (n + 1) lines)

-- These lists are what the definitions say: a part of each was read, and the rest is left.

abbrev oks : {X : Type 0} → List X → List (Result X AsmKind)
oks xs = map (λ x. Ok x) xs

prefix-oks : {X : Type 0} (xs : List X) → ok_prefix (oks xs) ≡ xs
prefix-oks [] = refl
prefix-oks (x ∷ xs) = ap (λ more. x ∷ more) (prefix-oks xs)

taken : {X : Type 0} (all done rest : List X) (k : ℕ) → all ≡ done ++ rest → k ≡ length done → take k all ≡ done
taken all done rest k whole counted = ap (λ n. take n all) counted ∙ ap (λ xs. take (length done) xs) whole ∙ take-append_seam done rest

whole-more : {X : Type 0} (all done rest : List X) (x : X) → all ≡ done ++ x ∷ rest → all ≡ (done ++ x ∷ []) ++ rest
whole-more all done rest x whole = whole ∙ sym (append_assoc done (x ∷ []) rest)

counted-more : {X : Type 0} (done : List X) (x : X) (k : ℕ) → k ≡ length done → k + 1 ≡ length (done ++ x ∷ [])
counted-more done x k counted = let e = length-append done (x ∷ []) in omega (arith, counted)

oks-more : {X Y : Type 0} (f : X → Result Y AsmKind) (done : List X) (x : X) (given : List Y) (y : Y) → map f done ≡ oks given → f x ≡ Ok y
    → map f (done ++ x ∷ []) ≡ oks (given ++ y ∷ [])
oks-more f done x given y are is = grind (arith, map-append)

pub words_in-more : (items : List Item) (it : Item) → words_in (items ++ it ∷ []) ≡ words_in items + size it
words_in-more [] it = let e : size it + 0 ≡ 0 + size it = omega arith in e
words_in-more (first ∷ items) it = ap (λ n. size first + n) (words_in-more items it) ∙ sym (add_assoc (size first) (words_in items) (size it))

-- an item after others is what its line reads as
unless : {X : Type 0} (b : Bool) (kind : AsmKind) (r : Result X AsmKind) (made : X) → (if b then Err kind else r) ≡ Ok made → r ≡ Ok made
unless true kind r made is = absurd (false≢true (ap is_ok is))
unless false kind r made is = is

within : {X : Type 0} (b : Bool) (kind : AsmKind) (r : Result X AsmKind) (made : X) → (if b then r else Err kind) ≡ Ok made → r ≡ Ok made
within true kind r made is = is
within false kind r made is = absurd (false≢true (ap is_ok is))

read_is : (before : List Item) (r : Reading) (made : Item) → behind before r ≡ Ok made → r ≡ Ok made
read_is before (Ok item.Blank) made is = is
read_is before (Ok (item.Label name)) made is = unless (is_some (place_of name before)) Twice (Ok (item.Label name)) made is
read_is before (Ok (item.Word word)) made is = within (nat_lt (words_in before) word_limit) TooLong (Ok (item.Word word)) made is
read_is before (Ok (item.Jump near name)) made is = within (nat_lt (words_in before) word_limit) TooLong (Ok (item.Jump near name)) made is
read_is before (Err kind) made is = is

item-step : (before : List Item) (k : ℕ) (v : Reading) (results : List Reading) (f : Item → Result (List Item) AsmFault) → k ≡ length before
    → ((made : Item) → v ≡ Ok made → on_ok (λ items. (before ++ made ∷ []) ++ items) (all_given (k + 1 + 1) results) ≡ f made)
    → on_ok (λ items. before ++ items) (all_given (k + 1) (v ∷ results)) ≡ with_item (length before + 1) v f
item-step before k (Ok made) results f along next = by_given (all_given (k + 1 + 1) results) ∙ next made refl
  where
    by_given : (r : Result (List Item) AsmFault) → on_ok (λ items. before ++ items) (on_ok (λ items. made ∷ items) r) ≡ on_ok (λ items. (before ++ made ∷ []) ++ items) r
    by_given (Ok items) = ap (λ all. Ok all) (sym (append_assoc before (made ∷ []) items))
    by_given (Err fault) = refl
item-step before k (Err kind) results f along next = ap (λ n. Err (At (n + 1) kind)) along

items-steps : (lines done rest : List (List ℕ)) (before : List Item) (k : ℕ) → lines ≡ done ++ rest → k ≡ length done → k ≡ length before → map line_reading done ≡ oks before
    → on_ok (λ items. before ++ items) (all_given (k + 1) (map (item_at lines) (enumerate_from k rest))) ≡ items_behind before rest
items-steps lines done [] before k whole counted along are = ap (λ all. Ok all) (append-nil before)
items-steps lines done (line ∷ rest) before k whole counted along are =
    let front : ok_prefix (map line_reading (take k lines)) ≡ before =
    ap (λ ls. ok_prefix (map line_reading ls)) (taken lines done (line ∷ rest) k whole counted) ∙ ap ok_prefix are ∙ prefix-oks before in
    let results = map (item_at lines) (enumerate_from (k + 1) rest) in
    ap (λ items. on_ok (λ more. before ++ more) (all_given (k + 1) (behind items (line_reading line) ∷ results))) front
    ∙ item-step before k (behind before (line_reading line)) results (λ made. items_behind (before ++ made ∷ []) rest) along
    (λ made is. items-steps lines (done ++ line ∷ []) rest (before ++ made ∷ []) (k + 1) (whole-more lines done rest line whole) (counted-more done line k counted) (counted-more before made k along)
    (oks-more line_reading done line before made are (read_is before (line_reading line) made is)))

pub items-stepwise : (lines : List (List ℕ)) → items_behind [] lines ≡ items_of lines
items-stepwise lines = sym (items-steps lines [] lines [] 0 refl refl refl refl) ∙ same (items_of lines)
  where
    same : (r : Result (List Item) AsmFault) → on_ok (λ items. items) r ≡ r
    same (Ok items) = refl
    same (Err fault) = refl

word-step : (before : List ℕ) (n : ℕ) (v : Result (Option ℕ) AsmKind) (results : List (Result (Option ℕ) AsmKind)) (f : Option ℕ → Result (List ℕ) AsmFault)
    → ((word : Option ℕ) → v ≡ Ok word → on_ok (λ words. (before ++ option_to_list word) ++ flat_map option_to_list words) (all_given (n + 1) results) ≡ f word)
    → on_ok (λ words. before ++ flat_map option_to_list words) (all_given n (v ∷ results)) ≡ with_word n v f
word-step before n (Ok word) results f next = by_given (all_given (n + 1) results) ∙ next word refl
  where
    by_given : (r : Result (List (Option ℕ)) AsmFault) → on_ok (λ words. before ++ flat_map option_to_list words) (on_ok (λ words. word ∷ words) r)
        ≡ on_ok (λ words. (before ++ option_to_list word) ++ flat_map option_to_list words) r
    by_given (Ok words) = ap (λ all. Ok all) (sym (append_assoc before (option_to_list word) (flat_map option_to_list words)))
    by_given (Err fault) = refl
word-step before n (Err kind) results f next = refl

-- how many words a result has
abbrev counted-of : Result (Option ℕ) AsmKind → ℕ
counted-of (Ok word) = length (option_to_list word)
counted-of (Err kind) = 0

-- an item is as many words as it makes
sized : (items : List Item) (here : ℕ) (it : Item) (word : Option ℕ) → made_at items here it ≡ Ok word → size it ≡ length (option_to_list word)
sized items here item.Blank word is = ap counted-of is
sized items here (item.Label name) word is = ap counted-of is
sized items here (item.Word w) word is = ap counted-of is
sized items here (item.Jump near name) word is = by_place (place_of name items) is
  where
    by_place : (o : Option ℕ) → option_map_or (λ to. Ok (Some (near + distance here to * 2 ^ 32))) o (Err NoLabel) ≡ Ok word → 1 ≡ length (option_to_list word)
    by_place None is = absurd (false≢true (ap is_ok is))
    by_place (Some to) is = ap counted-of is

words-steps : (items done rest : List Item) (before : List ℕ) (k : ℕ) → items ≡ done ++ rest → k ≡ length done → words_in done ≡ length before
    → on_ok (λ words. before ++ flat_map option_to_list words) (all_given (k + 1) (map (word_at items) (enumerate_from k rest))) ≡ words_behind items before (k + 1) rest
words-steps items done [] before k whole counted along = ap (λ all. Ok all) (append-nil before)
words-steps items done (it ∷ rest) before k whole counted along =
    let here : words_in (take k items) ≡ length before = ap words_in (taken items done (it ∷ rest) k whole counted) ∙ along in
    let results = map (word_at items) (enumerate_from (k + 1) rest) in
    ap (λ n. on_ok (λ words. before ++ flat_map option_to_list words) (all_given (k + 1) (made_at items n it ∷ results))) here
    ∙ word-step before (k + 1) (made_at items (length before) it) results (λ word. words_behind items (before ++ option_to_list word) (k + 1 + 1) rest)
    (λ word is. words-steps items (done ++ it ∷ []) rest (before ++ option_to_list word) (k + 1) (whole-more items done rest it whole) (counted-more done it k counted)
    (words_in-more done it ∙ ap (λ n. n + size it) along ∙ ap (λ n. length before + n) (sized items (length before) it word is) ∙ sym (length-append before (option_to_list word))))

pub words-stepwise : (items : List Item) → words_behind items [] 1 items ≡ words_of items
words-stepwise items = sym (words-steps items [] items [] 0 refl refl refl)

-- a word for which there is room is what its line reads as
room_is : (count : ℕ) (r : Result (Option ℕ) AsmKind) (word : Option ℕ) → with_room count r ≡ Ok word → r ≡ Ok word
room_is count (Ok None) word is = is
room_is count (Ok (Some n)) word is = within (nat_lt count word_limit) TooLong (Ok (Some n)) word is
room_is count (Err kind) word is = is

listed-steps : (lines done rest : List (List ℕ)) (given : List (Option ℕ)) (before : List ℕ) (k : ℕ) → lines ≡ done ++ rest → k ≡ length done
    → map listed_line done ≡ oks given → flat_map option_to_list given ≡ before
    → on_ok (λ words. before ++ flat_map option_to_list words) (all_given (k + 1) (map (listed_at lines) (enumerate_from k rest))) ≡ listed_behind before (k + 1) rest
listed-steps lines done [] given before k whole counted are along = ap (λ all. Ok all) (append-nil before)
listed-steps lines done (line ∷ rest) given before k whole counted are along =
    let front : flat_map option_to_list (ok_prefix (map listed_line (take k lines))) ≡ before =
    ap (λ ls. flat_map option_to_list (ok_prefix (map listed_line ls))) (taken lines done (line ∷ rest) k whole counted)
    ∙ ap (λ rs. flat_map option_to_list (ok_prefix rs)) are ∙ ap (flat_map option_to_list) (prefix-oks given) ∙ along in
    let results = map (listed_at lines) (enumerate_from (k + 1) rest) in
    ap (λ words. on_ok (λ more. before ++ flat_map option_to_list more) (all_given (k + 1) (with_room (length words) (listed_line line) ∷ results))) front
    ∙ word-step before (k + 1) (with_room (length before) (listed_line line)) results (λ word. listed_behind (before ++ option_to_list word) (k + 1 + 1) rest)
    (λ word is. listed-steps lines (done ++ line ∷ []) rest (given ++ word ∷ []) (before ++ option_to_list word) (k + 1) (whole-more lines done rest line whole) (counted-more done line k counted)
    (oks-more listed_line done line given word are (room_is (length before) (listed_line line) word is))
    (flat_map-append option_to_list given (word ∷ []) ∙ ap (λ words. words ++ (option_to_list word ++ [])) along ∙ ap (λ more. before ++ more) (append-nil (option_to_list word))))

pub listed-stepwise : (lines : List (List ℕ)) → listed_behind [] 1 lines ≡ listed_lines lines
listed-stepwise lines = sym (listed-steps lines [] lines [] [] 0 refl refl refl refl)
