-- What a text assembles to.
use Rattle.std.specs.{List.{enumerate_from, slice_split}, Option.{option_map_or, option_to_list}, Prelude.{ℕ, ◌+◌, ◌-◌}}
use Rattle.std.specs.Prelude.{◌*◌, ◌%◌, ◌^◌, nat_lt, Bool, false, List, [], ◌∷◌, map, take, flat_map, if◌then◌else◌}
use Rattle.std.specs.{Prelude.{Option, Some, None, Result, Ok, Err, is_some}, Result.{ok_prefix, result_flatten}}
use Rattle.mg_asm.specs.{Reading.{Reading, line_reading, on_ok}, declared.faults.AsmFault.{AsmFault, TheVariants.At}}
use Rattle.mg_asm.specs.declared.{faults.AsmKind.{AsmKind, TheVariants.{Twice, TooLong, NoLabel}}, items.Item.Item}
use Rattle.{mg_asm.specs.declared.names.Name.Name, mg_model.specs.{Script.word_end, Words.{is_newline, same_bytes}}}
use Rattle.mg_asm.specs.declared.items.Item.TheVariants as item

-- the most words that a text may have
abbrev pub word_limit : ℕ
word_limit = 524288

-- how many words an item is
abbrev pub size : Item → ℕ
size item.Blank = 0
size (item.Label name) = 0
size (item.Word word) = 1
size (item.Jump near name) = 1

abbrev pub words_in : List Item → ℕ
words_in [] = 0
words_in (it ∷ items) = size it + words_in items

-- whether an item is the label of this name
abbrev pub is_label : Name → Item → Bool
is_label name item.Blank = false
is_label name (item.Label known) = same_bytes known.bytes name.bytes
is_label name (item.Word word) = false
is_label name (item.Jump near to) = false

-- the place of the word after the first label of this name, if there is one; n words are before the items
abbrev pub place_from : ℕ → Name → List Item → Option ℕ
place_from n name [] = None
place_from n name (it ∷ items) = if is_label name it then Some n else place_from (n + size it) name items

abbrev pub place_of : Name → List Item → Option ℕ
place_of name items = place_from 0 name items

-- a line that reads well may still be faulty after these items: one of them is its label, or there is no room for its word
abbrev pub behind : List Item → Reading → Reading
behind before (Ok item.Blank) = Ok item.Blank
behind before (Ok (item.Label name)) = if is_some (place_of name before) then Err Twice else Ok (item.Label name)
behind before (Ok (item.Word word)) = if nat_lt (words_in before) word_limit then Ok (item.Word word) else Err TooLong
behind before (Ok (item.Jump near name)) = if nat_lt (words_in before) word_limit then Ok (item.Jump near name) else Err TooLong
behind before (Err kind) = Err kind

-- what each of these lines gives, of which the first is line n; or the fault of the first line that has one
abbrev pub all_given : {X : Type 0} → ℕ → List (Result X AsmKind) → Result (List X) AsmFault
all_given n [] = Ok []
all_given n (Ok x ∷ results) = on_ok (λ xs. x ∷ xs) (all_given (n + 1) results)
all_given n (Err kind ∷ results) = Err (At n kind)

-- The item of a line after the first k. After a line that has a fault it does not matter, since that fault is the result.
abbrev pub item_at : List (List ℕ) → ℕ × List ℕ → Reading
item_at lines (k, line) = behind (ok_prefix (map line_reading (take k lines))) (line_reading line)

-- the items of these lines, an item a line; or the first fault
abbrev pub items_of : List (List ℕ) → Result (List Item) AsmFault
items_of lines = all_given 1 (map (item_at lines) (enumerate_from 0 lines))

-- the number of words from one place to another, in two's complement
abbrev pub distance : ℕ → ℕ → ℕ
distance here to = (to + word_end - here) % 2 ^ 32

-- The word that an item makes at a place, if it makes one. A jump to a label goes to the place of the label.
abbrev pub made_at : List Item → ℕ → Item → Result (Option ℕ) AsmKind
made_at all here item.Blank = Ok None
made_at all here (item.Label name) = Ok None
made_at all here (item.Word word) = Ok (Some word)
made_at all here (item.Jump near name) =
    option_map_or (λ to. Ok (Some (near + distance here to * 2 ^ 32))) (place_of name all) (Err NoLabel)

-- the word that an item makes after the first k, if it makes one
abbrev pub word_at : List Item → ℕ × Item → Result (Option ℕ) AsmKind
word_at items (k, it) = made_at items (words_in (take k items)) it

-- the words of these items, or the first fault
abbrev pub words_of : List Item → Result (List ℕ) AsmFault
words_of items = on_ok (flat_map option_to_list) (all_given 1 (map (word_at items) (enumerate_from 0 items)))

-- what a text assembles to: the words of the items of its lines, or its first fault
abbrev pub assembled : List ℕ → Result (List ℕ) AsmFault
assembled text = result_flatten (on_ok words_of (items_of (slice_split is_newline text)))
