use Rattle.{mg_model.specs.{Access.holds, Rights.has_right}, mg_show.proofs.Letters.bits-are, std.proofs.Common.◌||◌}
use Rattle.mg_show.proofs.marks.with_rights.Goals as goal

pub returns : goal.returns
returns c =
    bits-are (λ right. has_right c.args.byte right || holds c.args.period c.args.row.now c.args.password right) _ _ _ _ _ _
    c.joined.ensures c.joined-2.ensures c.joined-3.ensures c.joined-4.ensures c.joined-5.ensures c.joined-6.ensures
