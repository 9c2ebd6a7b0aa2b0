use Rattle.{mg_vcache.{proofs.Dropped.without_both, specs.{EndedSeats.by_object, Seats.without}}, std.proofs.Common.{ap, ◌∙◌}}
use Rattle.mg_vcache.proofs.cache.VCache.drop_via.Goals as goal

pub returns : goal.returns
returns c = c.drop_object.ensures ∙ ap (without (by_object c.args.via)) c.drop_given.ensures ∙ without_both c.args.via c.args.self.now
