use Rattle.{mg_index.specs.Pairs.IsExact, std.proofs.Common.{ℕ, List, subst, sym}}
use Rattle.mg_index.proofs.index.Index.pairs.Goals as goal

pub returns-clause-exact : goal.returns-clause-exact
returns-clause-exact c =
    let A : List ℕ → Type 0 = λ xs. IsExact xs c.self.inside.pairs.items in
    let B : List (ℕ × ℕ) → Type 0 = λ xs. IsExact c.args.self.now xs in
    subst B (sym c.deref.ensures.value) (subst A c.self.view_is c.self.invariant.exact)
