-- A frame table that is read into frames that hold no page yet.
use Rattle.std.specs.{List.list_any, Option.option_map_or, Prelude.{◌≡◌, ◌+◌, ◌*◌, ◌≤◌, ◌<◌, ◌==◌, nat_le}}
use Rattle.std.specs.Prelude.{if◌then◌else◌, ℕ, List, length, position, slice_index, slice_set, take}
use Rattle.mg_model.specs.Bytes.{number_at}

-- the frames from this one on are free
abbrev pub AreFreeFrom : ℕ → List ℕ → Type 0
AreFreeFrom first frames = (i : ℕ) → first ≤ i → slice_index frames i ≡ 0

-- the frames after an entry was taken: past the last frame, and if the page is 0 or is bound already, nothing is bound
abbrev pub entry_bound : List ℕ → ℕ → ℕ → List ℕ
entry_bound frames frame page =
    if nat_le (length frames) frame then frames
    else (if page == 0 then frames else option_map_or (λ bound. frames) (position (λ entry. entry == page) frames) (slice_set frames frame page))

-- the page of an entry of a table, and none if an entry before it has the same page
abbrev pub first_entry : List ℕ → ℕ → ℕ
first_entry table i = if list_any (λ entry. entry == slice_index table i) (take i table) then 0 else slice_index table i

-- the frames hold the pages of a table, each page where its first entry is
abbrev pub HoldFirstEntries : List ℕ → List ℕ → Type 0
HoldFirstEntries table frames = (i : ℕ) → i < length frames → slice_index frames i ≡ first_entry table i

-- so do the first frames
abbrev pub AreLoaded : List ℕ → ℕ → List ℕ → Type 0
AreLoaded table first frames = (i : ℕ) → i < first → i < length frames → slice_index frames i ≡ first_entry table i

-- these bytes are block k of a table, as far as it goes
abbrev pub HasEntries : List ℕ → ℕ → List ℕ → Type 0
HasEntries table k bytes = (j : ℕ) → j < 512 → 512 * k + j < length table → number_at bytes (8 * j) ≡ slice_index table (512 * k + j)

-- the frames of block k of a table, which is these bytes, hold its pages; the table has as many entries as there are frames
abbrev pub LoadsBlock : ℕ → List ℕ → List ℕ → List ℕ → Type 0
LoadsBlock k bytes old new = (table : List ℕ) → length table ≡ length old → HasEntries table k bytes → AreLoaded table (512 * k) old → AreLoaded table (512 * (k + 1)) new
