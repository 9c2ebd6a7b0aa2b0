-- What a list of words, a number a line, is read as.
use Rattle.std.specs.{List.{enumerate_from, slice_split}, Option.option_to_list, Prelude.{ℕ, nat_lt, List, [], ◌∷◌}}
use Rattle.std.specs.Prelude.{length, map, take, flat_map, if◌then◌else◌, Option, Some, None, Result, Ok, Err}
use Rattle.std.specs.Result.{ok_prefix}
use Rattle.mg_asm.specs.{Assembled.{all_given, word_limit}, Reading.{from, on_ok, one}, Tokens.line_tokens}
use Rattle.mg_asm.specs.declared.faults.{AsmFault.AsmFault, AsmKind.{AsmKind, TheVariants.{Number, Operands, TooLong}}}
use Rattle.mg_model.specs.Words.{is_newline, number_of}

-- a line has nothing, or one number
abbrev pub listed_word : List (List ℕ) → Result (Option ℕ) AsmKind
listed_word [] = Ok None
listed_word (word ∷ more) = from Operands (one (word ∷ more)) (λ n. from Number (number_of n) (λ n. Ok (Some n)))

abbrev pub listed_line : List ℕ → Result (Option ℕ) AsmKind
listed_line line = listed_word (line_tokens line)

-- there may be no room for a word after `count` words
abbrev pub with_room : ℕ → Result (Option ℕ) AsmKind → Result (Option ℕ) AsmKind
with_room count (Ok None) = Ok None
with_room count (Ok (Some n)) = if nat_lt count word_limit then Ok (Some n) else Err TooLong
with_room count (Err kind) = Err kind

-- the word of a line after the first k, if it has one
abbrev pub listed_at : List (List ℕ) → ℕ × List ℕ → Result (Option ℕ) AsmKind
listed_at lines (k, line) = with_room (length (flat_map option_to_list (ok_prefix (map listed_line (take k lines))))) (listed_line line)

-- the words of these lines, or the first fault
abbrev pub listed_lines : List (List ℕ) → Result (List ℕ) AsmFault
listed_lines lines = on_ok (flat_map option_to_list) (all_given 1 (map (listed_at lines) (enumerate_from 0 lines)))

abbrev pub listed : List ℕ → Result (List ℕ) AsmFault
listed text = listed_lines (slice_split is_newline text)
