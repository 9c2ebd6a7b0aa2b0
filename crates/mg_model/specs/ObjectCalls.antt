-- The calls on words and objects, row by row.
use Rattle.std.specs.{List.list_any, Option.option_map_or, Prelude.{ℕ, ◌+◌, ◌*◌, ◌%◌, ◌==◌, ◌&&◌, ◌||◌, nat_le, nat_lt}}
use Rattle.std.specs.Prelude.{Bool, false, not, [], ◌∷◌, ◌++◌, length, if◌then◌else◌, filter, Option, Some, None}
use Rattle.std.specs.Prelude.{is_some, unwrap_or}
use Rattle.mg_model.specs.{Access.{allowed, at}, Bank.{opens, owed_by, used}, Draw.password_drawn, Objects.lowest_free}
use Rattle.mg_model.specs.Objects.{new_object, with_object, without_object, with_row, with_word, word_at}
use Rattle.mg_model.specs.{Refused.{Answer, checked}, Rights.letters, State.{State, Object, ObjectRow}}
use Rattle.mg_model.specs.declared.limits.TheConstants.{DRAW_LIMIT as draw_limit}
use Rattle.mg_model.specs.declared.limits.TheConstants.{ENTRY_POINT_LIMIT as entry_point_limit, NEVER as never}
use Rattle.mg_model.specs.declared.limits.TheConstants.{OBJECT_LIMIT as object_limit}
use Rattle.mg_model.specs.declared.limits.TheConstants.{OBJECT_PAGE_LIMIT as object_page_limit}
use Rattle.mg_model.specs.declared.limits.TheConstants.{PASSWORD_LIMIT as password_limit}
use Rattle.mg_model.specs.declared.replies.Refusal.TheVariants.{Align, Denied, Size, Account, Debt, Limit, Full}
use Rattle.mg_model.specs.declared.replies.{Refusal.TheVariants.{NoPassword, Range, Past}, Reply.Reply}
use Rattle.mg_model.specs.declared.{replies.Reply.TheVariants.{Done, Value, Made, About}, rights.Right.Right}
use Rattle.mg_model.specs.declared.{rights.Right.TheVariants.{R, W, X, D, P, O}, slots.{Pw.Pw, Slot.Slot}}

-- whether an address is that of a word
abbrev pub is_aligned : ℕ → Bool
is_aligned address = address % 8 == 0

-- `load A`
abbrev pub load : State → ℕ → ℕ → Answer
load state t a =
    checked state ((not (is_aligned a), Align) ∷ (not (allowed state t a R), Denied) ∷ [])
    (state, Value (word_at state.objects a))

-- `store A V`
abbrev pub store : State → ℕ → ℕ → ℕ → Answer
store state t a value =
    checked state ((not (is_aligned a), Align) ∷ (not (allowed state t a W), Denied) ∷ [])
    (record state { objects = with_word state.objects a value }, Done)

-- the next password, and the state after it was drawn
abbrev pub next_password : State → ℕ
next_password state = password_drawn state.settings.seed state.counters.draws

abbrev pub drawn : State → State
drawn state = record state { counters = record state.counters { draws = state.counters.draws + 1 } }

-- whether no password is left
abbrev pub all_drawn : State → Bool
all_drawn state = nat_le draw_limit state.counters.draws

-- `create N ACC PW`
abbrev pub create : State → ℕ → ℕ → ℕ → Answer
create state n account password =
    let base = 4096 * lowest_free state.objects n in
    checked state (
    (n == 0 || nat_lt object_page_limit n, Size)
    ∷ (not (opens state.accounts account password), Account)
    ∷ (nat_lt 0 (owed_by state.accounts account), Debt)
    ∷ (nat_le object_limit (length state.objects) || all_drawn state, Limit)
    ∷ (nat_lt state.settings.frames (used state.objects + n), Full)
    ∷ []) (
      record (drawn state) { objects = with_object (new_object base n account (next_password state)) state.objects },
      Made base (next_password state),
    )

-- the row of the object that has the address; an empty row if no object has it
abbrev pub row_at : State → ℕ → ObjectRow
row_at state address =
    option_map_or (λ (object : Object). object.row) (at state.objects address)
    record { base = 0; pages = 0; account = 0; passwords = []; entries = []; extension = None }

-- the state with a change of the row of the object that an address names
abbrev pub with_row_at : State → ℕ → (ObjectRow → ObjectRow) → State
with_row_at state address change = record state { objects = with_row (row_at state address).base change state.objects }

-- `delete B`
abbrev pub delete : State → ℕ → ℕ → Answer
delete state t b =
    checked state ((not (allowed state t b D), Denied) ∷ [])
    (record state { objects = without_object (row_at state b).base state.objects }, Done)

-- what `info` says of an object
abbrev pub about : ObjectRow → Reply
about object =
    About object.base object.pages object.account (length object.passwords) (length object.entries)
    (if is_some object.extension then 1 else 0)

-- `info B`: one of the six rights is enough, and they are tried in the order of their bits
abbrev pub info : State → ℕ → ℕ → Answer
info state t b =
    checked state ((not (list_any (λ (l : ℕ × Right). allowed state t b l.1) letters), Denied) ∷ []) (state, about (row_at state b))

-- whether an until is given that is not above the period, or is above the last that may be given
abbrev pub is_past : ℕ → Option ℕ → Bool
is_past period None = false
is_past period (Some until) = nat_le until period || nat_le never until

-- `pwadd B RIGHTS` and `pwadd B RIGHTS UNTIL`
abbrev pub pwadd : State → ℕ → ℕ → ℕ → Option ℕ → Answer
pwadd state t b rights until =
    checked state (
    (not (allowed state t b O), Denied)
    ∷ (is_past state.counters.period until, Past)
    ∷ (nat_le password_limit (length (row_at state b).passwords) || all_drawn state, Limit)
    ∷ []) (
      with_row_at (drawn state) b
          (λ object. record object {
            passwords = object.passwords
                ++ record { password = next_password state; rights = rights; until = unwrap_or until never } ∷ [];
          }),
      Value (next_password state),
    )

-- whether a password row has this password
abbrev pub has_password : ℕ → Pw → Bool
has_password password pw = pw.password == password

-- `pwdel B PW`
abbrev pub pwdel : State → ℕ → ℕ → ℕ → Answer
pwdel state t b password =
    checked state (
    (not (allowed state t b O), Denied)
    ∷ (not (list_any (λ pw. has_password password pw) (row_at state b).passwords), NoPassword)
    ∷ [])
    (with_row_at state b (λ object. record object { passwords = filter (λ pw. not (has_password password pw)) object.passwords }), Done)

-- whether an address is an entry of the object
abbrev pub is_entry : ObjectRow → ℕ → Bool
is_entry object address = list_any (λ entry. entry == address) object.entries

-- the object with an entry more, unless it is there
abbrev pub with_entry : ObjectRow → ℕ → ObjectRow
with_entry object address = if is_entry object address then object else record object { entries = object.entries ++ address ∷ [] }

-- `entry B OFF`
abbrev pub entry : State → ℕ → ℕ → ℕ → Answer
entry state t b off =
    let address = (row_at state b).base + off in
    checked state (
    (not (allowed state t b O), Denied)
    ∷ (not (is_aligned off) || nat_le (4096 * (row_at state b).pages) off, Range)
    ∷ (nat_le entry_point_limit (length (row_at state b).entries) && not (is_entry (row_at state b) address), Limit)
    ∷ [])
    (with_row_at state b (λ object. with_entry object address), Value address)

-- `ext B CB CPW`: the extension is this slot, or there is none
abbrev pub extension_of : ℕ → ℕ → Option Slot
extension_of clist password = if clist == 0 then None else Some record { base = clist; password = password }

abbrev pub ext : State → ℕ → ℕ → ℕ → ℕ → Answer
ext state t b clist password =
    checked state ((not (allowed state t b O), Denied) ∷ [])
    (with_row_at state b (λ object. record object { extension = extension_of clist password }), Done)

-- `recharge B ACC PW`
abbrev pub recharge : State → ℕ → ℕ → ℕ → ℕ → Answer
recharge state t b account password =
    checked state (
    (not (allowed state t b O), Denied)
    ∷ (not (opens state.accounts account password), Account)
    ∷ (nat_lt 0 (owed_by state.accounts account), Debt)
    ∷ [])
    (with_row_at state b (λ object. record object { account = account }), Done)
