use Rattle.{mg_calls_thr.{proofs.Owned.birth-of, specs.Owning.thread_among}, mg_volume.specs.Meaning.threads_in, std.proofs.Common.{sym, ◌∙◌}}
use Rattle.mg_calls_thr.proofs.owning.birth_of.Goals as goal

pub returns : goal.returns
returns c = c.birth.ensures.value ∙ sym (birth-of (thread_among (threads_in c.args.volume.now) c.args.thread) c.row_of.result c.row_of.ensures)
