use Rattle.{mg_rows.proofs.ObjectWhole.{all_read, bare_of_entries, not_entered, not_extended, not_opened, not_placed}, std.proofs.Common.{refl, ◌∙◌}}
use Rattle.mg_rows.proofs.object_parts.fields.Goals as goal

pub returns-in_err-row : goal.returns-in_err-row
returns-in_err-row c = c.from_residual.ensures ∙ not_placed c.args.bytes.now c.in_err-row.ensures

pub returns-then-not-read_passwords : goal.returns-then-not-read_passwords
returns-then-not-read_passwords c = not_opened c.args.bytes.now c.if-not-read_passwords.ensures.kept

pub read_entries-requires-clause-bare : goal.read_entries-requires-clause-bare
read_entries-requires-clause-bare c = bare_of_entries c.args.bytes.now c.in_ok-row.row c.read_passwords.new.row c.in_ok-row.ensures (c.if-not-read_passwords.ensures.row refl)

pub returns-then-not-read_entries : goal.returns-then-not-read_entries
returns-then-not-read_entries c =
    not_entered c.args.bytes.now c.in_ok-row.row c.read_passwords.new.row c.in_ok-row.ensures (c.if-not-read_passwords.ensures.row refl) c.if-not-read_entries.ensures.kept

pub returns-then-not-read_extension : goal.returns-then-not-read_extension
returns-then-not-read_extension c = not_extended c.args.bytes.now c.if-not-read_extension.ensures.kept

pub returns : goal.returns
returns c =
    all_read c.args.bytes.now c.in_ok-row.row c.read_passwords.new.row c.in_ok-row.ensures (c.if-not-read_passwords.ensures.row refl) c.read_entries.new.row c.read_extension.new.row
    c.if-not-read_passwords.ensures.kept c.if-not-read_entries.ensures.kept (c.if-not-read_entries.ensures.row refl) c.if-not-read_extension.ensures.kept (c.if-not-read_extension.ensures.row refl)
