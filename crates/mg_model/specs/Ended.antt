-- The whole lines of an input: those that a newline ends.
use Rattle.std.specs.{List.{filter_map, slice_split}, Prelude.{ℕ, List, [], ◌∷◌}}
use Rattle.mg_model.specs.{Lines.line_of, Words.is_newline, declared.calls.Line.Line}

-- all pieces but the last
abbrev pub all_but_last : List (List ℕ) → List (List ℕ)
all_but_last (piece ∷ next ∷ pieces) = piece ∷ all_but_last (next ∷ pieces)
all_but_last _ = []

-- the lines of the pieces that a newline ends
abbrev pub ended_lines : List ℕ → List Line
ended_lines bytes = filter_map line_of (all_but_last (slice_split is_newline bytes))
