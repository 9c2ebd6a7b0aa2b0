use Rattle.{mg_access.specs.ThreadLemmas.lives-row, mg_volume.specs.Meaning.threads_in, std.proofs.Common.◌∙◌}
use Rattle.mg_access.proofs.rows.row_of.Goals as goal

pub unreachable-requires : goal.unreachable-requires
unreachable-requires c = lives-row c.args.thread (threads_in c.args.volume.now) c.requires (c.thread.ensures.found ∙ c.in-None.is)
