use Rattle.{mg_model.specs.{State.ThreadRow, Turn.is_ready}, mg_volume.proofs.ThreadSearch.ready_is, std.proofs.Common.{subst, sym, ap, ◌∙◌}}
use Rattle.std.{proofs.lemmas.List.take_rest, specs.{List.position, Prelude.{◌+◌, ◌-◌, ◌≡◌, ◌&&◌, ◌==◌, nat_lt, ℕ, List, drop, length, take, Some}}}
use Rattle.std.specs.Prelude.{None, find, option_map}
use Rattle.mg_volume.proofs.threads.Threads.ready_above.Goals as goal

-- what is searched is the rest of them
marks : (ready now : List ℕ) (t : ℕ) → now ≡ ready → position (λ mark. mark == 1) (drop t ready) ≡ position (λ mark. mark == 1) (take (length now - t) (drop t now))
marks ready now t is = ap (λ xs. position (λ mark. mark == 1) (drop t xs)) (sym is) ∙ ap (position (λ mark. mark == 1)) (sym (take_rest now t))

pub returns-in-Some : goal.returns-in-Some
returns-in-Some c =
    subst (λ (threads : List (ℕ × ThreadRow)). Some (c.args.number + c.in-Some.at + 1) ≡ option_map (λ (x : ℕ × ThreadRow). x.0) (find (λ (x : ℕ × ThreadRow). is_ready x.1.state && nat_lt c.args.number x.0) threads)) c.self.view_is
    (sym (ready_is c.self.inside.rows.items c.self.inside.taken.items c.self.inside.ready.items c.self.invariant c.args.number (Some c.in-Some.at) (marks c.self.inside.ready.items c.deref.result.now c.args.number c.deref.ensures.value ∙ sym c.first_ready.ensures ∙ c.in-Some.is)))

pub returns-in-None : goal.returns-in-None
returns-in-None c =
    subst (λ (threads : List (ℕ × ThreadRow)). None ≡ option_map (λ (x : ℕ × ThreadRow). x.0) (find (λ (x : ℕ × ThreadRow). is_ready x.1.state && nat_lt c.args.number x.0) threads)) c.self.view_is
    (sym (ready_is c.self.inside.rows.items c.self.inside.taken.items c.self.inside.ready.items c.self.invariant c.args.number None (marks c.self.inside.ready.items c.deref.result.now c.args.number c.deref.ensures.value ∙ sym c.first_ready.ensures ∙ c.in-None.is)))
