-- The items of lines with one line more.
use Rattle.mg_asm.{proofs.Stepwise.{items_behind, with_item}, specs.{Assembled.behind, Reading.line_reading, declared.items.Item.Item}}
use Rattle.{mg_model.specs.Words.is_newline, std.{proofs.Common.{arith, ◌≡◌, ℕ, ◌+◌, List, [], ◌∷◌, ◌++◌, length, Ok, ap}, specs.List.slice_split}}

-- one line more
lines-at : (before : List Item) (bytes line : List ℕ) (lines : List (List ℕ)) → slice_split is_newline bytes ≡ line ∷ lines
    → items_behind before (slice_split is_newline bytes) ≡ with_item (length before + 1) (behind before (line_reading line)) (λ made. items_behind (before ++ made ∷ []) lines)
lines-at before bytes line lines cut = ap (items_behind before) cut

pub lines-next : (before : List Item) (bytes line more : List ℕ) (it : Item) → slice_split is_newline bytes ≡ line ∷ slice_split is_newline more
    → Ok it ≡ behind before (line_reading line) → items_behind before (slice_split is_newline bytes) ≡ items_behind (before ++ it ∷ []) (slice_split is_newline more)
lines-next before bytes line more it cut read = grind (arith, lines-at, with_item, items_behind)
