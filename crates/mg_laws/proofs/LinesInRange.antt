-- The lines of any input have their arguments in range.
use Rattle.mg_model.specs.{Abbreviations.{below_word, is_among, lone_words, pdx_of}, Lines.{CallRow, bad_line, call_by, call_line, call_table}}
use Rattle.mg_model.specs.Lines.{exactly, form, form_pwadd, line_of, line_of_words, line_with, lines, pwadd_of, spelled_line, thread_line}
use Rattle.mg_model.specs.{Ranges.IsWord, Rights.IsRights, StepwiseLemmas.{rights_from, rights_of-from}, WellFormed.{HasRanges, IsInRange}}
use Rattle.mg_model.specs.Words.{and_then, hex_part, is_newline, letter_weight, number_of, numbers_of, rights_of, same_bytes, value_of_digits, words}
use Rattle.{mg_model.specs.declared.calls.{Call.Call, Line.Line}, std.proofs.Common.{ℕ, ◌+◌, ◌/◌, ◌%◌, ◌≤◌, ◌≡◌, ◌≢◌, ◌==◌, cond, eqb, ltb, List, []}}
use Rattle.std.proofs.{Common.{◌∷◌, length, Option, Some, None, refl, subst, sym, arith, All}, lemmas.Bool.{cases_lt, cond_both, eqb-false, leb-true}}
use Rattle.std.{proofs.lemmas.{Bool.ltb-true, List.{get_or_past, Elements.{All-cons, All-nil}}, Option.same_Some}, specs.List.cons_option}
use Rattle.std.specs.{List.{filter_map, slice_split}, Option.{ForSome, option_map_or}, Prelude.{option_map, slice_index}}
use Rattle.mg_model.specs.declared.calls.Call.TheVariants as call

-- a fact of each result for a value holds for the result of an option
and_then-some : {X Y : Type 0} (Q : Y → Type 0) (o : Option X) (f : X → Option Y) → ((x : X) → o ≡ Some x → ForSome (f x) Q) → ForSome (and_then o f) Q
and_then-some Q None f each = λ y none. absurd (cc)
and_then-some Q (Some x) f each = each x refl

below_word-word : (o : Option ℕ) → ForSome (below_word o) IsWord
below_word-word None = λ n none. absurd (cc)
below_word-word (Some n) = grind (arith, cond_both, same_Some, ltb-true)

pub number_of-word : (word : List ℕ) → ForSome (number_of word) IsWord
number_of-word word = below_word-word (option_map_or (λ digits. value_of_digits 16 16 digits) (hex_part word) (value_of_digits 10 20 word))

all-some : (ns : List ℕ) → All IsWord ns → ForSome (Some ns) (All IsWord)
all-some ns all = λ ms same. subst (All IsWord) (same_Some _ _ same) all

numbers_of-words : (args : List (List ℕ)) → ForSome (numbers_of args) (All IsWord)
numbers_of-words [] = all-some [] (All-nil IsWord)
numbers_of-words (word ∷ more) =
    and_then-some (All IsWord) (number_of word) (λ n. and_then (numbers_of more) (λ ns. Some (n ∷ ns)))
    (λ n is. and_then-some (All IsWord) (numbers_of more) (λ ns. Some (n ∷ ns))
    (λ ns are. all-some (n ∷ ns) (All-cons IsWord n ns (number_of-word word n is) (numbers_of-words more ns are))))

-- rights: no letter comes twice, so their bits stay below 64
letter_weight-bits : (b bits : ℕ) → bits ≤ 63 → ForSome (letter_weight b) (λ weight. bits / weight % 2 ≢ 1 → IsRights (bits + weight))
letter_weight-bits b bits few = grind (arith, cond_both, same_Some)

rights_some : (bits : ℕ) → IsRights bits → ForSome (Some bits) IsRights
rights_some bits is = λ other same. subst IsRights (same_Some _ _ same) is

rights_from-rights : (bits : ℕ) (bytes : List ℕ) → IsRights bits → ForSome (rights_from bits bytes) IsRights
rights_from-rights bits [] is = rights_some bits is
rights_from-rights bits (b ∷ bytes) is =
    and_then-some IsRights (letter_weight b) (λ weight. cond (eqb (bits / weight % 2) 1) None (rights_from (bits + weight) bytes))
    (λ weight found. cond_both (eqb (bits / weight % 2) 1) None (rights_from (bits + weight) bytes) (λ o. ForSome o IsRights)
    (λ _ other none. absurd (cc))
    (λ other. rights_from-rights (bits + weight) bytes (letter_weight-bits b bits is.six weight found (eqb-false _ _ other))))

rights_of-rights : (word : List ℕ) → ForSome (rights_of word) IsRights
rights_of-rights [] = λ bits none. absurd (cc)
rights_of-rights (b ∷ bytes) =
    subst (λ rights. ForSome rights IsRights) (sym (rights_of-from (b ∷ bytes)))
    (and_then-some IsRights (letter_weight b) (λ weight. cond (eqb (0 / weight % 2) 1) None (rights_from (0 + weight) bytes))
    (λ weight found. cond_both (eqb (0 / weight % 2) 1) None (rights_from (0 + weight) bytes) (λ o. ForSome o IsRights)
    (λ _ other none. absurd (cc))
    (λ other. rights_from-rights (0 + weight) bytes (letter_weight-bits b 0 (omega arith) weight found (eqb-false _ _ other)))))

-- a call of n numbers
each-word : (numbers : List ℕ) (k : ℕ) → All IsWord numbers → IsWord (slice_index numbers k)
each-word numbers k are = grind (arith, get_or_past, cases_lt)

exactly-ranges : (n : ℕ) (made : (ℕ → ℕ) → Call) → ((f : ℕ → ℕ) → ((k : ℕ) → IsWord (f k)) → HasRanges (made f)) → (o : Option (List ℕ)) → ForSome o (All IsWord)
    → HasRanges (option_map_or (λ numbers. made (λ k. slice_index numbers k)) (exactly n o) call.Bad)
exactly-ranges n made each None all = tt
exactly-ranges n made each (Some numbers) all =
    cond_both (length numbers == n) (Some numbers) None (λ o. HasRanges (option_map_or (λ numbers. made (λ k. slice_index numbers k)) o call.Bad))
    (λ _. each (λ k. slice_index numbers k) (λ k. each-word numbers k (all numbers refl)))
    (λ _. tt)

form-ranges : (n : ℕ) (made : (ℕ → ℕ) → Call) → ((f : ℕ → ℕ) → ((k : ℕ) → IsWord (f k)) → HasRanges (made f)) → (args : List (List ℕ)) → HasRanges (form n made args)
form-ranges n made each args = exactly-ranges n made each (numbers_of args) (numbers_of-words args)

-- `pwadd`
pwadd_of-ranges : (b rights : Option ℕ) (until : Option (Option ℕ)) → ForSome b IsWord → ForSome rights IsRights → ((u : Option ℕ) → until ≡ Some u → ForSome u IsWord) → HasRanges (pwadd_of b rights until)
pwadd_of-ranges None rights until base given ends = tt
pwadd_of-ranges (Some b) None until base given ends = tt
pwadd_of-ranges (Some b) (Some rights) None base given ends = tt
pwadd_of-ranges (Some b) (Some rights) (Some until) base given ends = (base b refl, given rights refl, ends until refl)

until-ranges : (o : Option ℕ) → ForSome o IsWord → (u : Option ℕ) → option_map (λ n. Some n) o ≡ Some u → ForSome u IsWord
until-ranges None word u is = absurd (cc)
until-ranges (Some n) word u is = subst (λ (v : Option ℕ). ForSome v IsWord) (same_Some (Some n) u is) word

form_pwadd-ranges : (args : List (List ℕ)) → HasRanges (form_pwadd args)
form_pwadd-ranges [] = tt
form_pwadd-ranges (b ∷ []) = tt
form_pwadd-ranges (b ∷ rights ∷ []) = pwadd_of-ranges (number_of b) (rights_of rights) (Some None) (number_of-word b) (rights_of-rights rights) (λ u is. subst (λ (v : Option ℕ). ForSome v IsWord) (same_Some None u is) (λ n none. absurd (cc)))
form_pwadd-ranges (b ∷ rights ∷ until ∷ []) =
    pwadd_of-ranges (number_of b) (rights_of rights) (option_map (λ n. Some n) (number_of until)) (number_of-word b) (rights_of-rights rights) (until-ranges (number_of until) (number_of-word until))
form_pwadd-ranges (b ∷ rights ∷ until ∷ more ∷ args) = tt

pdx_of-ranges : (a mask : ℕ) → IsWord a → IsWord mask → HasRanges (pdx_of a mask)
pdx_of-ranges a mask word _ = grind (arith, cond_both, leb-true)

-- the rows of a table make calls in range
abbrev AreRanged : List CallRow → Type 0
AreRanged [] = Unit {0}
AreRanged ((known, form) ∷ rows) = ((args : List (List ℕ)) → HasRanges (form args)) × AreRanged rows

-- one row more
infixr 5 ◌also◌
abbrev ◌also◌ : {X Y : Type 0} → X → Y → X × Y
x also y = (x, y)

table-ranged : AreRanged call_table
table-ranged =
    form-ranges 1 (λ n. call.Load (n 0)) (λ f are. are 0)
    also form-ranges 2 (λ n. call.Store (n 0) (n 1)) (λ f are. (are 0, are 1))
    also form-ranges 3 (λ n. call.Create (n 0) (n 1) (n 2)) (λ f are. (are 0, are 1, are 2))
    also form-ranges 1 (λ n. call.Delete (n 0)) (λ f are. are 0)
    also form-ranges 1 (λ n. call.Info (n 0)) (λ f are. are 0)
    also form_pwadd-ranges
    also form-ranges 2 (λ n. call.Pwdel (n 0) (n 1)) (λ f are. (are 0, are 1))
    also form-ranges 2 (λ n. call.Entry (n 0) (n 1)) (λ f are. (are 0, are 1))
    also form-ranges 3 (λ n. call.Ext (n 0) (n 1) (n 2)) (λ f are. (are 0, are 1, are 2))
    also form-ranges 3 (λ n. call.Recharge (n 0) (n 1) (n 2)) (λ f are. (are 0, are 1, are 2))
    also form-ranges 2 (λ n. call.Apdadd (n 0) (n 1)) (λ f are. (are 0, are 1))
    also form-ranges 1 (λ n. call.Apddel (n 0)) (λ f are. are 0)
    also form-ranges 0 (λ _. call.Apdlist) (λ f are. tt)
    also form-ranges 2 (λ n. pdx_of (n 0) (n 1)) (λ f are. pdx_of-ranges (f 0) (f 1) (are 0) (are 1))
    also form-ranges 0 (λ _. call.Ret) (λ f are. tt)
    also form-ranges 1 (λ n. call.Thread (n 0)) (λ f are. are 0)
    also form-ranges 1 (λ n. call.End (n 0)) (λ f are. are 0)
    also form-ranges 1 (λ n. call.Resume (n 0)) (λ f are. are 0)
    also form-ranges 0 (λ _. call.Turn) (λ f are. tt)
    also form-ranges 0 (λ _. call.Next) (λ f are. tt)
    also form-ranges 3 (λ n. call.Account (n 0) (n 1) (n 2)) (λ f are. (are 0, are 1, are 2))
    also form-ranges 4 (λ n. call.Pay (n 0) (n 1) (n 2) (n 3)) (λ f are. (are 0, are 1, are 2, are 3))
    also form-ranges 2 (λ n. call.Balance (n 0) (n 1)) (λ f are. (are 0, are 1))
    also form-ranges 0 (λ _. call.Rent) (λ f are. tt)
    also tt

call_by-ranges : (rows : List CallRow) → AreRanged rows → (word : List ℕ) (args : List (List ℕ)) → ForSome (call_by rows word args) HasRanges
call_by-ranges [] ranged word args = λ made none. absurd (cc)
call_by-ranges ((known, form) ∷ rows) ranged word args =
    cond_both (same_bytes word known) (Some (form args)) (call_by rows word args) (λ o. ForSome o HasRanges)
    (λ _ made same. subst HasRanges (same_Some _ _ same) (ranged.0 args))
    (λ _. call_by-ranges rows ranged.1 word args)

-- lines
bad_line-in_range : IsInRange bad_line
bad_line-in_range = record { thread = omega arith; call = tt }

line_with-in_range : (t : ℕ) (made : Call) → IsWord t → HasRanges made → IsInRange (line_with t made)
line_with-in_range t call.Bad word ranges = bad_line-in_range
line_with-in_range t other word ranges = record { thread = word; call = ranges }

call_or_bad : (made : Call → Line) (o : Option Call) → ((found : Call) → o ≡ Some found → IsInRange (made found)) → IsInRange (option_map_or made o bad_line)
call_or_bad made None each = bad_line-in_range
call_or_bad made (Some found) each = each found refl

call_line-in_range : (t : ℕ) (word : List ℕ) (args : List (List ℕ)) → IsWord t → IsInRange (call_line t word args)
call_line-in_range t word args is =
    call_or_bad (λ made. line_with t made) (call_by call_table word args) (λ made found.
    line_with-in_range t made is (call_by-ranges call_table table-ranged word args made found))

thread_line-in_range : (t : ℕ) (more : List (List ℕ)) → IsWord t → IsInRange (thread_line t more)
thread_line-in_range t [] word = bad_line-in_range
thread_line-in_range t (first ∷ args) word = cond_both (is_among first lone_words) _ _ IsInRange (λ _. bad_line-in_range) (λ _. call_line-in_range t first args word)

line_or_bad : (made : ℕ → Line) (o : Option ℕ) → ((t : ℕ) → o ≡ Some t → IsInRange (made t)) → IsInRange (option_map_or made o bad_line)
line_or_bad made None each = bad_line-in_range
line_or_bad made (Some t) each = each t refl

spelled_line-in_range : (first : List ℕ) (more : List (List ℕ)) → IsInRange (spelled_line first more)
spelled_line-in_range first more =
    cond_both (is_among first lone_words) _ _ IsInRange (λ _. call_line-in_range 0 first more (omega arith))
    (λ _. line_or_bad (λ t. thread_line t more) (number_of first) (λ t is. thread_line-in_range t more (number_of-word first t is)))

line_some : (line : Line) → IsInRange line → ForSome (Some line) IsInRange
line_some line is = λ other same. subst IsInRange (same_Some _ _ same) is

line_of_words-in_range : (spelled : List (List ℕ)) → ForSome (line_of_words spelled) IsInRange
line_of_words-in_range [] = λ line none. absurd (cc)
line_of_words-in_range (first ∷ more) = grind (arith, cond_both, line_some, spelled_line-in_range)

line_of-in_range : (bytes : List ℕ) → ForSome (line_of bytes) IsInRange
line_of-in_range bytes =
    cond_both (ltb 256 (length bytes)) (Some bad_line) (line_of_words (words bytes)) (λ o. ForSome o IsInRange) (λ _. line_some bad_line bad_line-in_range) (λ _. line_of_words-in_range (words bytes))

All-cons_option : {X : Type 0} (Q : X → Type 0) (o : Option X) (xs : List X) → ForSome o Q → All Q xs → All Q (cons_option o xs)
All-cons_option Q None xs each all = all
All-cons_option Q (Some x) xs each all = All-cons Q x xs (each x refl) all

All-filter_map : {X Y : Type 0} (Q : Y → Type 0) (h : X → Option Y) (xs : List X) → ((x : X) → ForSome (h x) Q) → All Q (filter_map h xs)
All-filter_map Q h [] each = All-nil Q
All-filter_map Q h (x ∷ xs) each = All-cons_option Q (h x) (filter_map h xs) (each x) (All-filter_map Q h xs each)

pub lines-in_range : (bytes : List ℕ) → All IsInRange (lines bytes)
lines-in_range bytes = All-filter_map IsInRange line_of (slice_split is_newline bytes) line_of-in_range
