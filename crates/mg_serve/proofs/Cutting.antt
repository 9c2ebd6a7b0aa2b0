-- How the lines of an input come from those of its parts.
use Rattle.mg_model.specs.{Abbreviations.longest_line, Ended.{all_but_last, ended_lines}, Lines.{bad_line, line_of, lines}, Words.is_newline}
use Rattle.{mg_model.specs.declared.calls.Line.Line, std.proofs.Common.{refl, sym, ap, ◌∙◌, append-nil, arith, length-append}}
use Rattle.std.proofs.{Math.Seq.take-append_seam, lemmas.List.{length-replicate, take-append-drop, take-append-le, Folds.list_any-append}}
use Rattle.std.specs.{List.{cons_option, filter_map, list_any, onto_first, slice_split}, Option.option_to_list, Prelude.{ℕ, zero, suc, ◌+◌, ◌<◌, ◌≤◌}}
use Rattle.std.specs.Prelude.{◌≡◌, ◌||◌, Bool, true, false, List, [], ◌∷◌, ◌++◌, drop, length, take, if◌then◌else◌, replicate, Some}

-- bytes go to the front of the first piece
abbrev pub all_onto_first : List ℕ → List (List ℕ) → List (List ℕ)
all_onto_first bytes [] = bytes ∷ []
all_onto_first bytes (piece ∷ pieces) = (bytes ++ piece) ∷ pieces

-- bytes go to the end of the last piece
abbrev pub onto_last : List (List ℕ) → List ℕ → List (List ℕ)
onto_last [] bytes = bytes ∷ []
onto_last (piece ∷ []) bytes = (piece ++ bytes) ∷ []
onto_last (piece ∷ next ∷ pieces) bytes = piece ∷ onto_last (next ∷ pieces) bytes

onto_then : (b : ℕ) (bytes : List ℕ) (pieces : List (List ℕ)) → onto_first b (all_onto_first bytes pieces) ≡ all_onto_first (b ∷ bytes) pieces
onto_then b bytes [] = refl
onto_then b bytes (piece ∷ pieces) = refl

nothing_onto : (cuts : ℕ → Bool) (bytes : List ℕ) → all_onto_first [] (slice_split cuts bytes) ≡ slice_split cuts bytes
nothing_onto cuts [] = refl
nothing_onto cuts (b ∷ bytes) = grind arith

any-head : (x y : Bool) → (x || y) ≡ false → x ≡ false
any-head true y h = h
any-head false y h = refl

any-tail : (x y : Bool) → (x || y) ≡ false → y ≡ false
any-tail true y h = cc
any-tail false y h = h

-- bytes with no cut among them, and then others
pub slice_split-append : (cuts : ℕ → Bool) (bytes rest : List ℕ) → list_any cuts bytes ≡ false → slice_split cuts (bytes ++ rest) ≡ all_onto_first bytes (slice_split cuts rest)
slice_split-append cuts [] rest none = sym (nothing_onto cuts rest)
slice_split-append cuts (b ∷ bytes) rest none =
    let off : cuts b ≡ false = any-head (cuts b) (list_any cuts bytes) none in
    let others : list_any cuts bytes ≡ false = any-tail (cuts b) (list_any cuts bytes) none in
    let here : slice_split cuts (b ∷ (bytes ++ rest)) ≡ onto_first b (slice_split cuts (bytes ++ rest)) = ap (λ v. if v then [] ∷ slice_split cuts (bytes ++ rest) else onto_first b (slice_split cuts (bytes ++ rest))) off in
    here ∙ ap (onto_first b) (slice_split-append cuts bytes rest others) ∙ onto_then b bytes (slice_split cuts rest)

-- bytes with no cut among them
pub slice_split-whole : (cuts : ℕ → Bool) (bytes : List ℕ) → list_any cuts bytes ≡ false → slice_split cuts bytes ≡ bytes ∷ []
slice_split-whole cuts bytes none =
    ap (slice_split cuts) (sym (append-nil bytes)) ∙ slice_split-append cuts bytes [] none ∙ ap (λ v. v ∷ []) (append-nil bytes)

-- there is a piece always
pub slice_split-some : (cuts : ℕ → Bool) (bytes : List ℕ) → (piece : List ℕ) × (pieces : List (List ℕ)) × (slice_split cuts bytes ≡ piece ∷ pieces)
slice_split-some cuts [] = ([], [], refl)
slice_split-some cuts (b ∷ bytes) = elim (cuts b) as (λ v. (piece : List ℕ) × (pieces : List (List ℕ)) × ((if v then [] ∷ slice_split cuts bytes else onto_first b (slice_split cuts bytes)) ≡ piece ∷ pieces))
    [ true ↦ ([], slice_split cuts bytes, refl) | false ↦ first (slice_split cuts bytes) ]
  where
    first : (pieces : List (List ℕ)) → (piece : List ℕ) × (more : List (List ℕ)) × (onto_first b pieces ≡ piece ∷ more)
    first [] = (b ∷ [], [], refl)
    first (piece ∷ pieces) = (b ∷ piece, pieces, refl)

onto_last-cons : (piece bytes next : List ℕ) (pieces all : List (List ℕ)) → all ≡ next ∷ pieces → onto_last (piece ∷ all) bytes ≡ piece ∷ onto_last all bytes
onto_last-cons piece bytes next pieces all e = grind arith

onto_last-first : (b : ℕ) (bytes : List ℕ) (pieces : List (List ℕ)) → onto_first b (onto_last pieces bytes) ≡ onto_last (onto_first b pieces) bytes
onto_last-first b bytes [] = refl
onto_last-first b bytes (piece ∷ []) = refl
onto_last-first b bytes (piece ∷ next ∷ pieces) = refl

-- bytes, and then others with no cut among them
pub slice_split-more : (cuts : ℕ → Bool) (bytes rest : List ℕ) → list_any cuts rest ≡ false → slice_split cuts (bytes ++ rest) ≡ onto_last (slice_split cuts bytes) rest
slice_split-more cuts [] rest none = slice_split-whole cuts rest none
slice_split-more cuts (b ∷ bytes) rest none =
    by_cut (cuts b) (slice_split-more cuts bytes rest none) (slice_split-some cuts bytes)
  where
    by_cut : (v : Bool) → slice_split cuts (bytes ++ rest) ≡ onto_last (slice_split cuts bytes) rest
        → (piece : List ℕ) × (pieces : List (List ℕ)) × (slice_split cuts bytes ≡ piece ∷ pieces)
        → (if v then [] ∷ slice_split cuts (bytes ++ rest) else onto_first b (slice_split cuts (bytes ++ rest))) ≡ onto_last (if v then [] ∷ slice_split cuts bytes else onto_first b (slice_split cuts bytes)) rest
    by_cut true h (piece, pieces, e) = ap (λ v. [] ∷ v) h ∙ sym (onto_last-cons [] rest piece pieces (slice_split cuts bytes) e)
    by_cut false h some = ap (onto_first b) h ∙ onto_last-first b rest (slice_split cuts bytes)

-- a line that is ended
pub lines-ended : (bytes rest : List ℕ) → list_any is_newline bytes ≡ false → lines (bytes ++ 10 ∷ rest) ≡ option_to_list (line_of bytes) ++ lines rest
lines-ended bytes rest none = grind (arith, slice_split-append, append-nil)

-- a line that is not ended
pub lines-last : (bytes : List ℕ) → list_any is_newline bytes ≡ false → lines bytes ≡ option_to_list (line_of bytes)
lines-last bytes none = grind (arith, slice_split-whole)

-- a line that is too long is bad, whatever it holds
pub line_of-long : (bytes : List ℕ) → longest_line < length bytes → line_of bytes ≡ Some bad_line
line_of-long bytes long = grind arith

-- so its further bytes change nothing
pub lines-long : (bytes : List ℕ) (b : ℕ) (rest : List ℕ) → list_any is_newline bytes ≡ false → is_newline b ≡ false → longest_line < length bytes
    → lines (bytes ++ b ∷ rest) ≡ lines (bytes ++ rest)
lines-long bytes b rest none off long = grind (arith, slice_split-append, length-append, line_of-long)

-- a row of bytes that is no line of any call: too long, and with no newline
abbrev long_row : List ℕ
long_row = replicate 257 120

row_whole : (n : ℕ) → list_any is_newline (replicate n 120) ≡ false
row_whole zero = refl
row_whole (suc n) = row_whole n

behind_row : (bytes : List ℕ) → line_of (bytes ++ long_row) ≡ Some bad_line
behind_row bytes = line_of-long (bytes ++ long_row) (omega (arith, length-append bytes long_row, length-replicate {A = ℕ} 257 120))

-- of the pieces with a row after them, the last is bad and the others are as they were
rows : (pieces : List (List ℕ)) → length (filter_map line_of (onto_last pieces long_row)) ≡ length (filter_map line_of (all_but_last pieces)) + 1
rows [] = ap (λ o. length (cons_option o [])) (behind_row [])
rows (piece ∷ []) = ap (λ o. length (cons_option o [])) (behind_row piece)
rows (piece ∷ next ∷ pieces) = grind (arith, (rows (next ∷ pieces)))

-- so a row after some bytes adds one line to those that are ended
with_row : (bytes : List ℕ) → length (lines (bytes ++ long_row)) ≡ length (ended_lines bytes) + 1
with_row bytes = ap (λ v. length (filter_map line_of v)) (slice_split-more is_newline bytes long_row (row_whole 257)) ∙ rows (slice_split is_newline bytes)

-- what comes before any other bytes are calls of ended lines
pub ended_lines-most : (bytes behind : List ℕ) (ls : List Line) → ((rest : List ℕ) → lines (bytes ++ rest) ≡ ls ++ lines (behind ++ rest)) → length ls ≤ length (ended_lines bytes)
ended_lines-most bytes behind ls cuts = grind (arith, with_row, length-append)

-- the ended lines are the first of the lines
lines-begin : (pieces : List (List ℕ)) → (last : List Line) × (filter_map line_of pieces ≡ filter_map line_of (all_but_last pieces) ++ last)
lines-begin [] = ([], refl)
lines-begin (piece ∷ []) = (filter_map line_of (piece ∷ []), refl)
lines-begin (piece ∷ next ∷ pieces) = grind (arith, (lines-begin (next ∷ pieces)))

-- when lines are first ones of those of some bytes, and no more than are ended, they are first ones of the ended lines
pub ended_lines-first : (bytes : List ℕ) (ls more : List Line) → lines bytes ≡ ls ++ more → length ls ≤ length (ended_lines bytes) → (later : List Line) × (ended_lines bytes ≡ ls ++ later)
ended_lines-first bytes ls more are enough =
    let (last, is) = lines-begin (slice_split is_newline bytes) in
    let front : take (length ls) (ended_lines bytes) ≡ ls =
    sym (take-append-le (length ls) (ended_lines bytes) last enough) ∙ ap (λ v. take (length ls) v) (sym is ∙ are) ∙ take-append_seam ls more in (
      drop (length ls) (ended_lines bytes),
      sym (take-append-drop (length ls) (ended_lines bytes)) ∙ ap (λ v. v ++ drop (length ls) (ended_lines bytes)) front,
    )

-- what comes before a part without a newline are the calls of the ended lines
pub ended_lines-exact : (bytes part : List ℕ) (ls : List Line) → ((rest : List ℕ) → lines (bytes ++ rest) ≡ ls ++ lines (part ++ rest)) → list_any is_newline part ≡ false
    → length (ended_lines bytes) ≡ length ls
ended_lines-exact bytes part ls cuts none = grind (arith, with_row, list_any-append, row_whole, lines-last, behind_row, length-append)
