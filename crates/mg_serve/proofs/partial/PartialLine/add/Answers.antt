use Rattle.{arrayvec.specs.ArrayVec.ArrayVec, mg_model.specs.Lines.lines, mg_serve.proofs.PartialLemmas.added, std.proofs.Common.{◌≡◌, ℕ, List, ◌∷◌}}
use Rattle.std.proofs.{Common.{◌++◌, ap, subst}, lemmas.Result.on_err_weaker}
use Rattle.mg_serve.proofs.partial.PartialLine.add.Goals as goal

pub returns-clause-same : goal.returns-clause-same
returns-clause-same c =
    let P : List ℕ → Type 0 = λ v. (rest : List ℕ) → lines (v ++ c.args.byte ∷ rest) ≡ lines (c.try_push.new.self.items ++ rest) in
    subst P c.self.view_is
    (added c.try_push.result c.self.inside.bytes.items c.try_push.new.self.items c.args.byte c.try_push.ensures.ok
    (on_err_weaker c.try_push.result (λ e. ap (λ (v : ArrayVec ℕ). v.items) e) c.try_push.ensures.err) c.try_push.ensures.full c.self.invariant c.requires)
