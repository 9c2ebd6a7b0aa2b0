-- What the fields of a live row and the counters keep, as tests that compute; `Ranges` says the same as facts.
use Rattle.std.specs.{List.{list_all, list_any}, Option.option_map_or, Prelude.{ℕ, ◌+◌, ◌*◌, ◌/◌, ◌%◌, ◌==◌, ◌&&◌}}
use Rattle.std.specs.Prelude.{nat_le, nat_lt, Bool, true, not, List, [], ◌∷◌, length, slice_index_or}
use Rattle.mg_model.specs.State.{CallFrame, Counters, ObjectRow, ThreadRow}
use Rattle.mg_model.specs.declared.limits.TheConstants.{ACCOUNT_LIMIT as account_limit, ALL_RIGHTS as all_rights}
use Rattle.mg_model.specs.declared.limits.TheConstants.{BIRTH_LIMIT as birth_limit, DRAW_LIMIT as draw_limit}
use Rattle.mg_model.specs.declared.limits.TheConstants.{ENTRY_POINT_LIMIT as entry_point_limit}
use Rattle.mg_model.specs.declared.limits.TheConstants.{FIRST_PAGE as first_page, FRAME_LIMIT as frame_limit}
use Rattle.mg_model.specs.declared.limits.TheConstants.{NEVER as never, OBJECT_PAGE_LIMIT as object_page_limit}
use Rattle.mg_model.specs.declared.limits.TheConstants.{PAGE_END as page_end, PASSWORD_LIMIT as password_limit}
use Rattle.mg_model.specs.declared.limits.TheConstants.{PERIOD_LIMIT as period_limit, SLOT_LIMIT as slot_limit}
use Rattle.mg_model.specs.declared.{limits.TheConstants.THREAD_LIMIT as thread_limit, slots.{Pw.Pw, Slot.Slot}}

-- no number is in the list twice
abbrev pub all_distinct : List ℕ → Bool
all_distinct [] = true
all_distinct (x ∷ xs) = not (list_any (λ y. x == y) xs) && all_distinct xs

abbrev pub is_password : Pw → Bool
is_password row = nat_le 1 row.rights && nat_le row.rights all_rights && nat_le 1 row.until && nat_le row.until never

abbrev pub is_entry_of : ℕ → ℕ → ℕ → Bool
is_entry_of base pages address = address % 8 == 0 && nat_le base address && nat_lt address (base + 4096 * pages)

abbrev pub is_place : ℕ → ℕ → Bool
is_place base pages =
    base % 4096 == 0 && nat_le first_page (base / 4096) && nat_le 1 pages && nat_le pages object_page_limit
    && nat_le (base / 4096 + pages) page_end

abbrev pub is_object_row : ObjectRow → Bool
is_object_row row =
    is_place row.base row.pages
    && (nat_le 1 row.account && nat_le row.account account_limit)
    && (nat_le (length row.passwords) password_limit && list_all is_password row.passwords)
    && (nat_le (length row.entries) entry_point_limit && list_all (is_entry_of row.base row.pages) row.entries && all_distinct row.entries)
    && option_map_or (λ (slot : Slot). not (slot.base == 0)) row.extension true

-- the first frame returns to 0
abbrev pub is_thread_row : ThreadRow → Bool
is_thread_row row =
    nat_lt row.creator row.birth
    && row.pc % 8 == 0
    && (nat_le 1 (length row.frames) && nat_le (length row.frames) frame_limit)
    && list_all (λ (frame : CallFrame). frame.back % 8 == 0 && nat_le (length frame.slots) slot_limit) row.frames
    && (slice_index_or row.frames 0 (record { back = 0; slots = [] })).back == 0

abbrev pub are_counters : Counters → Bool
are_counters counters =
    (nat_le 2 counters.draws && nat_le counters.draws draw_limit)
    && nat_le counters.period period_limit
    && nat_le counters.cursor thread_limit
    && (nat_le 1 counters.births && nat_le counters.births birth_limit)
