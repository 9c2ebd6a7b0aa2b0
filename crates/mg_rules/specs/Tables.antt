-- What a place of the table of objects counts for, when it has a row and when it has none.
use Rattle.std.specs.Prelude.{ℕ, nat_le, Bool, true, Option, None, Some}
use Rattle.mg_model.specs.State.{ObjectRow}

-- whether the account of an object is one of the first n accounts
abbrev pub is_paid : ℕ → Option ObjectRow → Bool
is_paid accounts None = true
is_paid accounts (Some row) = nat_le row.account accounts

abbrev pub pages_in : Option ObjectRow → ℕ
pages_in None = 0
pages_in (Some row) = row.pages

abbrev pub count_in : Option ObjectRow → ℕ
count_in None = 0
count_in (Some row) = 1
