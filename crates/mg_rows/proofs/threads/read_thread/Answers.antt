use Rattle.{mg_model.specs.{Spelling.{thread_bytes, thread_fields}, Tests.is_thread_row}, mg_rows.proofs.ThreadReads.{row-none, row-other, row-some}}
use Rattle.std.proofs.Common.{sym, ◌∙◌}
use Rattle.mg_rows.proofs.threads.read_thread.Goals as goal

pub returns-then-is_spelling : goal.returns-then-is_spelling
returns-then-is_spelling c =
    row-some thread_fields is_thread_row thread_bytes c.args.block.now (sym c.are_zeros.ensures ∙ c.if-are_zeros.false) c.in-Some.row c.in-Some.ensures (sym c.is_spelling.ensures ∙ c.if-is_spelling.true)

pub returns-else-is_spelling : goal.returns-else-is_spelling
returns-else-is_spelling c =
    row-other thread_fields is_thread_row thread_bytes c.args.block.now (sym c.are_zeros.ensures ∙ c.if-are_zeros.false) c.in-Some.row c.in-Some.ensures (sym c.is_spelling.ensures ∙ c.if-is_spelling.false)

pub returns-in-None : goal.returns-in-None
returns-in-None c = row-none thread_fields is_thread_row thread_bytes c.args.block.now (sym c.are_zeros.ensures ∙ c.if-are_zeros.false) c.in-None.ensures
