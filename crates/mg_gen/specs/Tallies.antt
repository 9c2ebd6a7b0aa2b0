-- The counts of the replies of a run, by rows: row 0 counts those that are ok, and each refusal has the row of its number.
use Rattle.std.specs.{Fmt.decimal, List.range_with_len, Prelude.{◌≡◌, ℕ, ◌==◌, List, [], ◌∷◌, ◌++◌, codes, count_by}}
use Rattle.std.specs.Prelude.{length, map, slice_index_or, sum}
use Rattle.{mg_gen.specs.Summary.{refusals, summary_text}, mg_model.specs.Abbreviations.{refusal_number, refusal_text}}
use Rattle.mg_model.specs.{Print.spaced, declared.replies.{Refusal.Refusal, Reply.Reply}}
use Rattle.mg_model.specs.declared.replies.Reply.TheVariants as reply

-- the row in which a reply is counted: that of its refusal's number, and 0 if it is ok
abbrev pub row_of : Reply → ℕ
row_of (reply.No word) = refusal_number word
row_of _ = 0

-- how many of these replies are counted in each of the 23 rows
unfoldable pub tally_of : List Reply → List ℕ
tally_of replies = map (λ row. count_by (λ answer. row_of answer == row) replies) (range_with_len 0 23)

-- each reply is counted in one row
abbrev pub CountsAddUp : Type 0
CountsAddUp = (replies : List Reply) → sum (tally_of replies) ≡ length replies

-- a word and how many replies it counts, as a line
abbrev pub count_line : List ℕ → ℕ → List ℕ
count_line word n = word ++ spaced (decimal n ∷ []) ++ 10 ∷ []

-- a line for each word and its count
abbrev pub count_lines : List (List ℕ) → List ℕ → List ℕ
count_lines (word ∷ words) (n ∷ counts) = count_line word n ++ count_lines words counts
count_lines _ _ = []

-- the first words of the lines: `ok`, and each refusal's word
abbrev pub row_words : List (List ℕ)
row_words = codes "ok" ∷ map refusal_text refusals

-- the row of each refusal's word is the row that counts it
abbrev pub WordsAreInRows : Type 0
WordsAreInRows = (word : Refusal) → slice_index_or row_words (refusal_number word) [] ≡ refusal_text word

-- the lines of these counts
abbrev pub tally_text : List ℕ → List ℕ
tally_text counts = count_lines row_words counts

-- the lines of the counts of some replies are the summary of these replies
abbrev pub CountsAreTold : Type 0
CountsAreTold = (replies : List Reply) → tally_text (tally_of replies) ≡ summary_text replies
