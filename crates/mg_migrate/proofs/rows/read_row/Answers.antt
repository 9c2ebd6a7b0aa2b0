use Rattle.{mg_migrate.{proofs.LiftedRows.{unwidened-none, widened-read}, specs.Spelling1.lift_read}, mg_model.specs.Bytes.are_zeros}
use Rattle.{mg_model.specs.Spelling.object_read, std.proofs.Common.{◌≡◌, false, ap, sym, ◌∙◌}}
use Rattle.mg_migrate.proofs.rows.read_row.Goals as goal

pub returns-then-may_widen : goal.returns-then-may_widen
returns-then-may_widen c =
    let some : are_zeros c.args.bytes.now ≡ false = sym c.are_zeros.ensures ∙ c.if-are_zeros.false in
    c.read_object.ensures ∙ ap object_read c.widened.ensures.value ∙ widened-read c.args.bytes.now c.requires some (sym c.may_widen.ensures ∙ c.if-may_widen.true)

pub returns-else-may_widen : goal.returns-else-may_widen
returns-else-may_widen c =
    let some : are_zeros c.args.bytes.now ≡ false = sym c.are_zeros.ensures ∙ c.if-are_zeros.false in
    sym (ap lift_read (unwidened-none c.args.bytes.now c.requires some (sym c.may_widen.ensures ∙ c.if-may_widen.false)))
