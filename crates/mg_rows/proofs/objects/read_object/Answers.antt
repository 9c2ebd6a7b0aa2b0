use Rattle.{mg_model.specs.{Spelling.{object_bytes, object_fields}, Tests.is_object_row}, mg_rows.proofs.ThreadReads.{row-none, row-other, row-some}}
use Rattle.std.proofs.Common.{sym, ◌∙◌}
use Rattle.mg_rows.proofs.objects.read_object.Goals as goal

pub returns-then-is_spelling : goal.returns-then-is_spelling
returns-then-is_spelling c =
    row-some object_fields is_object_row object_bytes c.args.bytes.now (sym c.are_zeros.ensures ∙ c.if-are_zeros.false) c.in-Some.row c.in-Some.ensures (sym c.is_spelling.ensures ∙ c.if-is_spelling.true)

pub returns-else-is_spelling : goal.returns-else-is_spelling
returns-else-is_spelling c =
    row-other object_fields is_object_row object_bytes c.args.bytes.now (sym c.are_zeros.ensures ∙ c.if-are_zeros.false) c.in-Some.row c.in-Some.ensures (sym c.is_spelling.ensures ∙ c.if-is_spelling.false)

pub returns-in-None : goal.returns-in-None
returns-in-None c = row-none object_fields is_object_row object_bytes c.args.bytes.now (sym c.are_zeros.ensures ∙ c.if-are_zeros.false) c.in-None.ensures
