use Rattle.{mg_frames.specs.Places.nowhere_any, std.proofs.Common.{◌==◌, ◌∙◌, sym}}
use Rattle.mg_pages.proofs.loading.bind_entry.Goals as goal

pub put-requires-clause-unbound : goal.put-requires-clause-unbound
put-requires-clause-unbound c = nowhere_any (λ entry. entry == c.args.page) c.args.frames.now (sym c.bound_frame.ensures ∙ c.in-None.is)
