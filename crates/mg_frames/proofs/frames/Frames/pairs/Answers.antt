use Rattle.{mg_index.specs.Pairs.IsExact, std.proofs.Common.{ℕ, List, subst}}
use Rattle.mg_frames.proofs.frames.Frames.pairs.Goals as goal

pub returns-clause-exact : goal.returns-clause-exact
returns-clause-exact c = let P = λ (pages : List ℕ). IsExact pages c.pairs.result.now in subst P c.self.view_is c.pairs.ensures.exact
