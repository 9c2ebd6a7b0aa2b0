-- From bytes to calls.
use Rattle.std.specs.{List.{filter_map, list_any, slice_split}, Option.option_map_or, Prelude.{ℕ, ◌==◌, nat_le, nat_lt}}
use Rattle.std.specs.Prelude.{Bool, false, List, [], ◌∷◌, length, if◌then◌else◌, slice_index, Option, Some, None, codes}
use Rattle.std.specs.Prelude.{option_map}
use Rattle.mg_model.specs.Words.{is_newline, number_of, numbers_of, rights_of, same_bytes, words, and_then}
use Rattle.mg_model.specs.declared.calls.{Call.Call, Line.Line}
use Rattle.mg_model.specs.declared.calls.Call.TheVariants as call

-- these numbers, if there are n of them
abbrev pub exactly : ℕ → Option (List ℕ) → Option (List ℕ)
exactly n numbers = and_then numbers (λ ns. if length ns == n then Some ns else None)

-- a call with n words after it, each of which spells a number; else Bad
abbrev pub form : ℕ → ((ℕ → ℕ) → Call) → List (List ℕ) → Call
form n made args = option_map_or (λ numbers. made (λ k. slice_index numbers k)) (exactly n (numbers_of args)) call.Bad

-- `pwadd B RIGHTS` and `pwadd B RIGHTS UNTIL`
abbrev pub pwadd_of : Option ℕ → Option ℕ → Option (Option ℕ) → Call
pwadd_of (Some b) (Some rights) (Some until) = call.Pwadd b rights until
pwadd_of _ _ _ = call.Bad

abbrev pub form_pwadd : List (List ℕ) → Call
form_pwadd (b ∷ rights ∷ []) = pwadd_of (number_of b) (rights_of rights) (Some None)
form_pwadd (b ∷ rights ∷ until ∷ []) = pwadd_of (number_of b) (rights_of rights) (option_map (λ n. Some n) (number_of until))
form_pwadd _ = call.Bad

-- a call word, and the call that its arguments make
abbrev pub CallRow : Type 0
CallRow = List ℕ × (List (List ℕ) → Call)

-- the calls; the mask of `pdx` is a number of 8 bits
abbrev pub call_table : List CallRow
call_table =
    (codes "load", form 1 (λ n. call.Load (n 0)))
    ∷ (codes "store", form 2 (λ n. call.Store (n 0) (n 1)))
    ∷ (codes "create", form 3 (λ n. call.Create (n 0) (n 1) (n 2)))
    ∷ (codes "delete", form 1 (λ n. call.Delete (n 0)))
    ∷ (codes "info", form 1 (λ n. call.Info (n 0)))
    ∷ (codes "pwadd", form_pwadd)
    ∷ (codes "pwdel", form 2 (λ n. call.Pwdel (n 0) (n 1)))
    ∷ (codes "entry", form 2 (λ n. call.Entry (n 0) (n 1)))
    ∷ (codes "ext", form 3 (λ n. call.Ext (n 0) (n 1) (n 2)))
    ∷ (codes "recharge", form 3 (λ n. call.Recharge (n 0) (n 1) (n 2)))
    ∷ (codes "apdadd", form 2 (λ n. call.Apdadd (n 0) (n 1)))
    ∷ (codes "apddel", form 1 (λ n. call.Apddel (n 0)))
    ∷ (codes "apdlist", form 0 (λ _. call.Apdlist))
    ∷ (codes "pdx", form 2 (λ n. if nat_le (n 1) 255 then call.Pdx (n 0) (n 1) else call.Bad))
    ∷ (codes "ret", form 0 (λ _. call.Ret))
    ∷ (codes "thread", form 1 (λ n. call.Thread (n 0)))
    ∷ (codes "end", form 1 (λ n. call.End (n 0)))
    ∷ (codes "resume", form 1 (λ n. call.Resume (n 0)))
    ∷ (codes "turn", form 0 (λ _. call.Turn))
    ∷ (codes "next", form 0 (λ _. call.Next))
    ∷ (codes "account", form 3 (λ n. call.Account (n 0) (n 1) (n 2)))
    ∷ (codes "pay", form 4 (λ n. call.Pay (n 0) (n 1) (n 2) (n 3)))
    ∷ (codes "balance", form 2 (λ n. call.Balance (n 0) (n 1)))
    ∷ (codes "rent", form 0 (λ _. call.Rent))
    ∷ []

-- whether this call word begins a line; before each other call word is the number of a thread
abbrev pub is_lone : List ℕ → Bool
is_lone word = list_any (λ known. same_bytes word known) (codes "next" ∷ codes "rent" ∷ [])

-- the call that a word and its arguments make by these rows, if one of them has the word
abbrev pub call_by : List CallRow → List ℕ → List (List ℕ) → Option Call
call_by [] word args = None
call_by ((known, form) ∷ rows) word args = if same_bytes word known then Some (form args) else call_by rows word args

abbrev pub bad_line : Line
bad_line = record { thread = 0; call = call.Bad }

-- a line's thread is 0 if its call is Bad
abbrev pub line_with : ℕ → Call → Line
line_with t call.Bad = bad_line
line_with t made = record { thread = t; call = made }

-- the line of a call word with these arguments; Bad if there is no such call
abbrev pub call_line : ℕ → List ℕ → List (List ℕ) → Line
call_line t word args = option_map_or (λ made. line_with t made) (call_by call_table word args) bad_line

-- after a thread's number: a call word, and its arguments
abbrev pub thread_line : ℕ → List (List ℕ) → Line
thread_line t [] = bad_line
thread_line t (word ∷ args) = if is_lone word then bad_line else call_line t word args

-- the line that its words spell, of which there is at least one
abbrev pub spelled_line : List ℕ → List (List ℕ) → Line
spelled_line first more =
    if is_lone first then call_line 0 first more
    else option_map_or (λ t. thread_line t more) (number_of first) bad_line

-- a note begins with #
abbrev pub is_note : List ℕ → Bool
is_note [] = false
is_note (b ∷ bytes) = b == 35

-- the line that these words spell; no words and a note spell none
abbrev pub line_of_words : List (List ℕ) → Option Line
line_of_words [] = None
line_of_words (first ∷ more) = if is_note first then None else Some (spelled_line first more)

-- the line that a piece of the input spells; one of more than 256 bytes is Bad, whatever it holds
abbrev pub line_of : List ℕ → Option Line
line_of bytes = if nat_lt 256 (length bytes) then Some bad_line else line_of_words (words bytes)

-- The lines of an input. The last line may lack its newline: the bytes after the last newline are one more piece. An empty
-- piece spells no line.
abbrev pub lines : List ℕ → List Line
lines bytes = filter_map line_of (slice_split is_newline bytes)
