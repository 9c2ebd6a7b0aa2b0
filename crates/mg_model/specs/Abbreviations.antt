-- Names for parts of the definitions, for lemmas and for the contracts of the crates above. No definition of the machine, of
-- a row or of a volume uses these names: it writes out the same part.
use Rattle.std.specs.{Int.{to_le_bytes, w64}, List.{cons_option, fold, list_all, range_with_len, list_any}}
use Rattle.std.specs.{Option.{option_map_or, option_to_list}, Prelude.{ℕ, ◌+◌, ◌-◌, ◌*◌, ◌/◌, ◌%◌, ◌^◌, ◌==◌, ◌&&◌}}
use Rattle.std.specs.Prelude.{◌||◌, nat_le, nat_lt, min, Bool, List, [], ◌∷◌, ◌++◌, flat_map, is_some, length}
use Rattle.std.specs.Prelude.{if◌then◌else◌, map, slice_index, slice_index_or, slice_set, take, Option, Some, None}
use Rattle.std.specs.Prelude.{option_map, codes}
use Rattle.mg_model.specs.{Access.{allowed, domain_of}, Accesses.Access, Bytes.{block_words, number_at, offsets_by}}
use Rattle.mg_model.specs.{Bytes.{words_bytes, are_zeros}, Domains.kept_from, Layout.{segment_body, table_blocks}}
use Rattle.mg_model.specs.{ObjectCalls.row_at, Objects.{page_behind, page_of}, Refused.{Answer, refusal_row}}
use Rattle.mg_model.specs.{Replay.{block_of, home_of, segment_fits, writes_of}, Script.word_end, Spelling.frame_at}
use Rattle.mg_model.specs.{Spelling.{password_at, Read}, State.{CallFrame, Object, ObjectRow, State, Thread, ThreadRow}}
use Rattle.mg_model.specs.{State.state_row, Threads.free_number_from, Volume.{Damaged, Is, Rows, VolumeRead}}
use Rattle.mg_model.specs.{Volume.{page_words, row_bytes, state_fits}, Words.{and_then, same_bytes}}
use Rattle.mg_model.specs.declared.{accounts.AccRow.AccRow, calls.Call.Call}
use Rattle.mg_model.specs.declared.layout.TheConstants.{ACCOUNT_SIZE as account_size}
use Rattle.mg_model.specs.declared.layout.TheConstants.{FIRST_ACCOUNT_BLOCK as first_account_block}
use Rattle.mg_model.specs.declared.layout.TheConstants.{FIRST_OBJECT_BLOCK as first_object_block}
use Rattle.mg_model.specs.declared.layout.TheConstants.{FIRST_THREAD_BLOCK as first_thread_block}
use Rattle.mg_model.specs.declared.layout.TheConstants.{OBJECT_SIZE as object_size, TABLE_BLOCK as table_block}
use Rattle.mg_model.specs.declared.{limits.TheConstants.SLOT_LIMIT as slot_limit, replies.Refusal.Refusal}
use Rattle.mg_model.specs.declared.{replies.Reply.TheVariants.No, rights.Right.TheVariants.{R, W, X, D, P, O}}
use Rattle.mg_model.specs.declared.{slots.{Pw.Pw, Slot.Slot}, threads.ThrState.ThrState}
use Rattle.mg_model.specs.declared.calls.Call.TheVariants as call

-- whether none of the n pages from this one on is a page of the object
abbrev pub is_apart : ℕ → ℕ → Object → Bool
is_apart page n object = nat_le (page + n) (page_of object.row) || nat_le (page_behind object.row) page

-- the word at an address of an object
abbrev pub word_in : Object → ℕ → ℕ
word_in object address = slice_index object.words ((address - object.row.base) / 8)

-- the slots of the frame that a `pdx` makes: the kept ones, and then the extension
abbrev pub entered_slots : State → ℕ → ℕ → ℕ → List Slot
entered_slots state t a mask = kept_from mask 0 (domain_of state t) ++ option_to_list (row_at state a).extension

-- the least number that no thread has
abbrev pub free_number : List Thread → ℕ
free_number threads = free_number_from 1 threads

-- the row of a thread that is to run a word: its pc is advanced by the width of a word
abbrev pub advanced : ThreadRow → ThreadRow
advanced thread = record thread { pc = (thread.pc + 8) % word_end }

abbrev pub is_allowed : State → Access → Bool
is_allowed state access = allowed state access.thread access.address access.right

-- a longer line is Bad, whatever it holds
abbrev pub longest_line : ℕ
longest_line = 256

-- a mask is a number of 8 bits
abbrev pub pdx_of : ℕ → ℕ → Call
pdx_of a mask = if nat_le mask 255 then call.Pdx a mask else call.Bad

abbrev pub is_call_frame : CallFrame → Bool
is_call_frame frame = frame.back % 8 == 0 && nat_le (length frame.slots) slot_limit

-- the address that the first frame returns to
abbrev pub first_back : List CallFrame → ℕ
first_back frames = (slice_index_or frames 0 (record { back = 0; slots = [] })).back

-- the extension that an object's row spells
abbrev pub extension_at : List ℕ → Option Slot
extension_at bytes = if number_at bytes 48 == 1 then Some record { base = number_at bytes 56; password = number_at bytes 64 } else None

-- row i of each table of an image
abbrev pub account_row_bytes : List (List ℕ) → ℕ → List ℕ
account_row_bytes image i = row_bytes image first_account_block account_size i

abbrev pub thread_row_bytes : List (List ℕ) → ℕ → List ℕ
thread_row_bytes image i = block_of image (first_thread_block + i)

abbrev pub object_row_bytes : List (List ℕ) → ℕ → List ℕ
object_row_bytes image i = row_bytes image first_object_block object_size i

abbrev pub threads_spelled : List (ℕ × ThreadRow) → List Thread
threads_spelled rows = map (λ (r : ℕ × ThreadRow). record { number = r.0 + 1; row = r.1 }) rows

abbrev pub accounts_spelled : List (ℕ × AccRow) → List AccRow
accounts_spelled rows = map (λ (r : ℕ × AccRow). r.1) rows

-- the pieces of the calls

-- n pairs of a capability list, from place j on
abbrev pub pairs_from : List ℕ → ℕ → ℕ → List (ℕ × ℕ)
pairs_from words j n = map (λ k. (slice_index words (2 + 2 * k), slice_index words (3 + 2 * k))) (range_with_len j n)

-- the accounts with another row at this number
abbrev pub with_account : List AccRow → ℕ → AccRow → List AccRow
with_account accounts number row = slice_set accounts (number - 1) row

-- the least of these numbers, of which there is at least one
abbrev pub least : ℕ → List ℕ → ℕ
least n ms = fold min n ms

-- the row of no object
abbrev pub no_row : ObjectRow
no_row = record { base = 0; pages = 0; account = 0; passwords = []; entries = []; extension = None }

-- one birth more
abbrev pub born : State → State
born state = record state { counters = record state.counters { births = state.counters.births + 1 } }

abbrev pub refusal_number : Refusal → ℕ
refusal_number word = (refusal_row word).0

abbrev pub refusal_text : Refusal → List ℕ
refusal_text word = (refusal_row word).1

-- a refused call changes nothing
abbrev pub unless_refused : Option Refusal → State → Answer → Answer
unless_refused refused state done = option_map_or (λ word. (state, No word)) refused done

-- numbers have 64 bits
abbrev pub below_word : Option ℕ → Option ℕ
below_word found = and_then found (λ n. if nat_lt n (2 ^ 64) then Some n else None)

-- the call words that begin a line
abbrev pub lone_words : List (List ℕ)
lone_words = codes "next" ∷ codes "rent" ∷ []

-- whether a word is one of these
abbrev pub is_among : List ℕ → List (List ℕ) → Bool
is_among word known = list_any (λ k. same_bytes word k) known

-- whether the thread has one of the six rights
abbrev pub any_allowed : State → ℕ → ℕ → Bool
any_allowed state t address = list_any (λ right. allowed state t address right) (R ∷ W ∷ X ∷ D ∷ P ∷ O ∷ [])

-- the pieces of rows

-- a live row, if it keeps its rule and these are its bytes
abbrev pub live_if : {R : Type 0} → Bool → List ℕ → List ℕ → R → Read R
live_if rule written bytes row = if rule && same_bytes written bytes then Some (Some row) else None

-- a free row is all zeros
abbrev pub free_or : {R : Type 0} → List ℕ → Read R → Read R
free_or bytes live = if are_zeros bytes then Some None else live

-- a number in 8 bytes
abbrev pub word_bytes : ℕ → List ℕ
word_bytes n = to_le_bytes w64 n

abbrev pub object_head : ObjectRow → List ℕ
object_head row =
    words_bytes (
    1 ∷ row.base ∷ row.pages ∷ row.account ∷ length row.passwords ∷ length row.entries
    ∷ (if is_some row.extension then 1 else 0)
    ∷ option_map_or (λ (slot : Slot). slot.base) row.extension 0
    ∷ option_map_or (λ (slot : Slot). slot.password) row.extension 0
    ∷ [])

-- n password rows, from place k on
abbrev pub passwords_at : List ℕ → ℕ → ℕ → List Pw
passwords_at bytes k n = map (λ j. password_at bytes j) (range_with_len k n)

abbrev pub state_number : ThrState → ℕ
state_number state = (state_row state).0

abbrev pub slot_words : Slot → List ℕ
slot_words slot = slot.base ∷ slot.password ∷ []

-- n frames, from an offset on
abbrev pub frames_at : List ℕ → ℕ → ℕ → List CallFrame
frames_at bytes offset n = map (λ o. frame_at bytes o) (offsets_by 144 offset n)

abbrev pub step_words : List (ℕ × ℕ) → List ℕ
step_words steps = flat_map (λ (step : ℕ × ℕ). step.0 ∷ step.1 ∷ []) steps

-- n steps, from an offset on
abbrev pub steps_at : List ℕ → ℕ → ℕ → List (ℕ × ℕ)
steps_at bytes offset n = map (λ o. (number_at bytes o, number_at bytes (o + 8))) (offsets_by 16 offset n)

-- the pieces of a volume

-- the writes of n bodies of segment s, from body j on
abbrev pub writes_from : List (List ℕ) → ℕ → ℕ → ℕ → List (ℕ × List ℕ)
writes_from image s j n = map (λ k. (home_of image s k, block_of image (segment_body s k))) (range_with_len j n)

-- n segments from segment s on
abbrev pub segments_fit : ℕ → List (List ℕ) → ℕ → ℕ → Bool
segments_fit total image s n = list_all (λ k. segment_fits total image k) (range_with_len s n)

-- what they write
abbrev pub writes_since : List (List ℕ) → ℕ → ℕ → List (ℕ × List ℕ)
writes_since image s n = flat_map (λ k. writes_of image k) (range_with_len s n)

-- a live row joins the others with its place, a free one does not
abbrev pub with_live : {R : Type 0} → ℕ → Option R → List (ℕ × R) → List (ℕ × R)
with_live i row rows = cons_option (option_map (λ live. (i, live)) row) rows

-- the words of n blocks of the frame table: the page that each frame holds, or 0
abbrev pub table_entries : List (List ℕ) → ℕ → ℕ → List ℕ
table_entries image block n = flat_map (λ k. block_words (block_of image k)) (range_with_len block n)

abbrev pub whole_table : List (List ℕ) → ℕ → List ℕ
whole_table image frames = table_entries image table_block (table_blocks frames)

-- the words of the frame table that its frames have
abbrev pub table_of : List (List ℕ) → ℕ → List ℕ
table_of image frames = take frames (whole_table image frames)

-- the words of n pages
abbrev pub pages_words : List (List ℕ) → ℕ → List ℕ → ℕ → ℕ → List ℕ
pages_words image frames table page n = flat_map (λ k. page_words image frames table k) (range_with_len page n)

-- whether a page is one of the object's
abbrev pub is_page_of : ℕ → Object → Bool
is_page_of page object = nat_le (page_of object.row) page && nat_lt page (page_behind object.row)

abbrev pub fitting : Rows → State → VolumeRead
fitting rows state = if state_fits rows state then Is state else Damaged
