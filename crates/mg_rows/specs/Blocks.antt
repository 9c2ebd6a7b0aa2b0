-- Rows in the blocks of their tables: what each place of a block spells.
use Rattle.std.specs.Prelude.{ℕ, ◌*◌, List}
use Rattle.mg_model.specs.{Bytes.bytes_at, Layout.{account_size, object_size}, Spelling.{Read, account_read}}
use Rattle.mg_model.specs.{Spelling.object_read, State.ObjectRow, declared.accounts.AccRow.AccRow}

-- row j of a block of objects
abbrev pub object_in : List ℕ → ℕ → Read ObjectRow
object_in block j = object_read (bytes_at block (object_size * j) object_size)

-- row j of a block of accounts
abbrev pub account_in : List ℕ → ℕ → Read AccRow
account_in block j = account_read (bytes_at block (account_size * j) account_size)
