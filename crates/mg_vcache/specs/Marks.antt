-- The marks that say which seats may be those of a list, an object or a thread: 192 rows of 16 marks, a mark for each 16 seats. A
-- list has one of the first 64 rows, an object one of the next 64, and a thread one of the others. A mark that is not set says that
-- no such seat is kept there.
use Rattle.std.specs.Prelude.{ℕ, ◌≡◌, ◌+◌, ◌*◌, ◌/◌, ◌%◌, ◌==◌, ◌||◌, Bool, true, false, List, slice_index_or, Option}
use Rattle.std.specs.Prelude.{Some, None}
use Rattle.mg_model.specs.{Limits.page_size, declared.seats.Seat.Seat}

abbrev pub list_row : ℕ → ℕ
list_row base = base / page_size % 64

abbrev pub object_row : ℕ → ℕ
object_row base = 64 + base / page_size % 64

abbrev pub thread_row : ℕ → ℕ
thread_row thread = 128 + thread % 64

-- the mark in a row of the seat at a place
abbrev pub mark_at : ℕ → ℕ → ℕ
mark_at row place = 16 * row + place / 16

-- whether a seat's list, object or thread has this row
abbrev pub is_in_row : ℕ → Seat → Bool
is_in_row row seat = list_row seat.via == row || (object_row seat.base == row || thread_row seat.thread == row)

-- whether a mark is set
abbrev pub is_set : List Bool → ℕ → Bool
is_set marks k = slice_index_or marks k false

-- a seat at this place is marked in each of its rows
pub record IsMarked (marks : List Bool) (place : ℕ) (seat : Seat) : Type 0 where
  pub in_row : (row : ℕ) → is_in_row row seat ≡ true → is_set marks (mark_at row place) ≡ true

-- what is marked stays marked
pub record StayMarked (old new : List Bool) : Type 0 where
  pub stays : (k : ℕ) → is_set old k ≡ true → is_set new k ≡ true

-- each kept seat is marked
pub record AreMarked (seats : List (Option Seat)) (marks : List Bool) : Type 0 where
  pub kept : (place : ℕ) (seat : Seat) → slice_index_or seats place None ≡ Some seat → IsMarked marks place seat
