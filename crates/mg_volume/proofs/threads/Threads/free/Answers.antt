use Rattle.{mg_model.specs.State.ThreadRow, mg_volume.{proofs.ThreadSearch.{free_is, free_gone}, specs.Numbered.IsFreeNumber}, std.proofs.Common.ap}
use Rattle.std.{proofs.Common.{subst, sym, ◌∙◌}, specs.{List.position, Prelude.{◌+◌, not, ℕ, List, Some, None}}}
use Rattle.mg_volume.proofs.threads.Threads.free.Goals as goal

pub returns-in-Some-clause-number : goal.returns-in-Some-clause-number
returns-in-Some-clause-number c =
    subst (λ (threads : List (ℕ × ThreadRow)). IsFreeNumber threads (Some (c.in-Some.place + 1))) c.self.view_is
    (free_is c.self.inside.rows.items c.self.inside.taken.items c.self.inside.ready.items c.self.invariant c.in-Some.place (ap (λ xs. position (λ is. not is) xs) (sym c.deref.ensures.value) ∙ sym c.first_free.ensures ∙ c.in-Some.is))

pub returns-in-None-clause-number : goal.returns-in-None-clause-number
returns-in-None-clause-number c =
    subst (λ (threads : List (ℕ × ThreadRow)). IsFreeNumber threads None) c.self.view_is
    (free_gone c.self.inside.rows.items c.self.inside.taken.items c.self.inside.ready.items c.self.invariant (ap (λ xs. position (λ is. not is) xs) (sym c.deref.ensures.value) ∙ sym c.first_free.ensures ∙ c.in-None.is))
