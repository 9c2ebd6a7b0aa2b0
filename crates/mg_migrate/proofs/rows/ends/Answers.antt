use Rattle.{mg_model.specs.Bytes.are_zeros, std.proofs.{Common.{ap, ◌∙◌}, lemmas.List.take_rest}}
use Rattle.mg_migrate.proofs.rows.ends.Goals as goal

pub returns : goal.returns
returns c = c.are_zeros.ensures ∙ ap are_zeros (take_rest c.args.bytes.now 352)
