-- The limits of the machine by name, for the crates above: `src/limits.rt` has their numbers, and says what each one bounds. The
-- definitions here take them from there.
use Rattle.std.specs.Prelude.{ℕ, ◌*◌}
use Rattle.mg_model.specs.declared.limits.TheConstants.{PAGE_SIZE, FIRST_PAGE, PAGE_END, OBJECT_LIMIT}
use Rattle.mg_model.specs.declared.limits.TheConstants.{OBJECT_PAGE_LIMIT, PASSWORD_LIMIT, ENTRY_POINT_LIMIT}
use Rattle.mg_model.specs.declared.limits.TheConstants.{ALL_RIGHTS, PAIR_LIMIT, SLOT_LIMIT, FRAME_LIMIT, THREAD_LIMIT}
use Rattle.mg_model.specs.declared.limits.TheConstants.{ACCOUNT_LIMIT, PERIOD_LIMIT, NEVER, DRAW_LIMIT, BIRTH_LIMIT}
use Rattle.mg_model.specs.declared.limits.TheConstants.{DEBT_LIMIT, LEAST_FRAMES, MOST_FRAMES, CREDIT_LIMIT, STEP_LIMIT}
use Rattle.mg_model.specs.declared.limits.TheConstants.{SEAT_COUNT, PAGE_STRIDE, RIGHT_STRIDE, SEARCH_LIMIT}

-- what an account may owe by a period
abbrev pub debt_limit : ℕ → ℕ
debt_limit period = period * DEBT_LIMIT

abbrev pub page_size : ℕ
page_size = PAGE_SIZE

abbrev pub first_page : ℕ
first_page = FIRST_PAGE

abbrev pub page_end : ℕ
page_end = PAGE_END

abbrev pub object_limit : ℕ
object_limit = OBJECT_LIMIT

abbrev pub object_page_limit : ℕ
object_page_limit = OBJECT_PAGE_LIMIT

abbrev pub password_limit : ℕ
password_limit = PASSWORD_LIMIT

abbrev pub entry_point_limit : ℕ
entry_point_limit = ENTRY_POINT_LIMIT

abbrev pub all_rights : ℕ
all_rights = ALL_RIGHTS

abbrev pub pair_limit : ℕ
pair_limit = PAIR_LIMIT

abbrev pub slot_limit : ℕ
slot_limit = SLOT_LIMIT

abbrev pub frame_limit : ℕ
frame_limit = FRAME_LIMIT

abbrev pub thread_limit : ℕ
thread_limit = THREAD_LIMIT

abbrev pub account_limit : ℕ
account_limit = ACCOUNT_LIMIT

abbrev pub period_limit : ℕ
period_limit = PERIOD_LIMIT

abbrev pub never : ℕ
never = NEVER

abbrev pub draw_limit : ℕ
draw_limit = DRAW_LIMIT

abbrev pub birth_limit : ℕ
birth_limit = BIRTH_LIMIT

abbrev pub least_frames : ℕ
least_frames = LEAST_FRAMES

abbrev pub most_frames : ℕ
most_frames = MOST_FRAMES

abbrev pub credit_limit : ℕ
credit_limit = CREDIT_LIMIT

abbrev pub step_limit : ℕ
step_limit = STEP_LIMIT

abbrev pub seat_count : ℕ
seat_count = SEAT_COUNT

abbrev pub page_stride : ℕ
page_stride = PAGE_STRIDE

abbrev pub right_stride : ℕ
right_stride = RIGHT_STRIDE

abbrev pub search_limit : ℕ
search_limit = SEARCH_LIMIT
