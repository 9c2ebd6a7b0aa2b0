use Rattle.{mg_model.specs.State.ThreadRow, mg_objects.specs.Held.live_from, mg_volume.proofs.ByNumber.{thread_at, thread_zero}}
use Rattle.{mg_volume.specs.Numbered.numbered, std.proofs.Common.{◌≤◌, ◌-◌, ◌==◌, ◌∙◌, ℕ, List, None, ap, arith, find, get_or, length, sym}}
use Rattle.std.{proofs.lemmas.List.get_or_past, specs.Option.option_map}
use Rattle.mg_volume.proofs.threads.Threads.get.Goals as goal

pub returns-then-number-eq0-clause-found : goal.returns-then-number-eq0-clause-found
returns-then-number-eq0-clause-found c =
    let rows = c.self.inside.rows.items in
    sym (ap (λ (threads : List (ℕ × ThreadRow)). option_map (λ (x : ℕ × ThreadRow). x.1) (find (λ (x : ℕ × ThreadRow). x.0 == c.args.number) threads)) (sym c.self.view_is)
    ∙ ap (λ (n : ℕ). option_map (λ (x : ℕ × ThreadRow). x.1) (find (λ (x : ℕ × ThreadRow). x.0 == n) (numbered (live_from 0 rows)))) c.if-number-eq0.true
    ∙ thread_zero (live_from 0 rows))

pub returns-in-Some-clause-found : goal.returns-in-Some-clause-found
returns-in-Some-clause-found c =
    let rows = c.self.inside.rows.items in
    let t = c.args.number in
    let none = c.if-number-eq0.false in
    let some : 1 ≤ t = omega arith in
    c.as_ref.ensures.value
    ∙ c.in-Some.ensures.lookup.3.1 None
    ∙ ap (λ xs. get_or xs (t - 1) None) c.deref.ensures.value
    ∙ sym (thread_at rows t some)
    ∙ ap (λ (threads : List (ℕ × ThreadRow)). option_map (λ (x : ℕ × ThreadRow). x.1) (find (λ (x : ℕ × ThreadRow). x.0 == t) threads)) c.self.view_is

pub returns-in-None-clause-found : goal.returns-in-None-clause-found
returns-in-None-clause-found c =
    let rows = c.self.inside.rows.items in
    let t = c.args.number in
    let none = c.if-number-eq0.false in
    let some : 1 ≤ t = omega arith in
    let long = ap length c.deref.ensures.value in
    let past = c.in-None.ensures.lookup.3 in
    sym (ap (λ (threads : List (ℕ × ThreadRow)). option_map (λ (x : ℕ × ThreadRow). x.1) (find (λ (x : ℕ × ThreadRow). x.0 == t) threads)) (sym c.self.view_is)
    ∙ thread_at rows t some
    ∙ get_or_past rows (t - 1) None (omega arith))
