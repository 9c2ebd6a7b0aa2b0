-- What an image's journal says: the open segments' bodies, written over the blocks that their indexes name.
use Rattle.std.specs.{List.{list_all, range_with_len, fold}, Prelude.{ℕ, ◌+◌, ◌*◌, ◌==◌, ◌&&◌, nat_le, nat_lt, Bool}}
use Rattle.std.specs.Prelude.{true, List, [], flat_map, if◌then◌else◌, map, slice_index, slice_index_or, slice_set}
use Rattle.std.specs.Prelude.{Option, Some, None}
use Rattle.mg_model.specs.{Bytes.number_at, Layout.{gate_open, segment_body, segment_gate, segment_index}}
use Rattle.mg_model.specs.declared.layout.TheConstants.{BODY_LIMIT as body_limit, GLOBALS_BLOCK as globals_block}
use Rattle.mg_model.specs.declared.layout.TheConstants.{SEGMENT_COUNT as segment_count}

-- an image is a list of blocks, each a list of bytes; past its end every block is empty
abbrev pub block_of : List (List ℕ) → ℕ → List ℕ
block_of image i = slice_index_or image i []

abbrev pub is_open : List (List ℕ) → ℕ → Bool
is_open image s = slice_index (block_of image (segment_gate s)) 0 == gate_open

-- how many bodies a segment says that it has, and the block that body j belongs to
abbrev pub body_count : List (List ℕ) → ℕ → ℕ
body_count image s = number_at (block_of image (segment_index s)) 0

abbrev pub home_of : List (List ℕ) → ℕ → ℕ → ℕ
home_of image s j = number_at (block_of image (segment_index s)) (8 + 8 * j)

-- what a segment writes: pairs of a block's number and what is written there; a closed segment writes nothing
abbrev pub writes_of : List (List ℕ) → ℕ → List (ℕ × List ℕ)
writes_of image s =
    if is_open image s
    then map (λ j. (home_of image s j, block_of image (segment_body s j))) (range_with_len 0 (body_count image s))
    else []

-- whether each is of a block after the journal and below the total
abbrev pub homes_fit : ℕ → List (ℕ × List ℕ) → Bool
homes_fit total writes = list_all (λ (write : ℕ × List ℕ). nat_le globals_block write.0 && nat_lt write.0 total) writes

-- a closed segment is ignored; an open one has at most 160 bodies, and their homes fit
abbrev pub segment_fits : ℕ → List (List ℕ) → ℕ → Bool
segment_fits total image s = if is_open image s then nat_le (body_count image s) body_limit && homes_fit total (writes_of image s) else true

-- the image after these writes, in order
abbrev pub written : List (List ℕ) → List (ℕ × List ℕ) → List (List ℕ)
written image writes = fold (λ blocks (write : ℕ × List ℕ). slice_set blocks write.0 write.1) image writes

-- the image after the open segments in order, if each of them fits
abbrev pub replay : List (List ℕ) → ℕ → Option (List (List ℕ))
replay image total =
    if list_all (λ s. segment_fits total image s) (range_with_len 0 segment_count)
    then Some (written image (flat_map (λ s. writes_of image s) (range_with_len 0 segment_count)))
    else None
