use Rattle.{mg_model.specs.State.ObjectRow, mg_ranges.specs.Gaps.AreGapsOf, mg_space.proofs.Spans.{all-unmap, has-room, same-spans}}
use Rattle.{mg_space.specs.Space.{AreRowsOf, spans_in}, std.proofs.Common.{◌+◌, ◌≤◌, ◌⊎◌, ℕ, List, subst, sym}}
use Rattle.mg_space.proofs.space.Space.first.Goals as goal

pub first-requires-clause-has_room : goal.first-requires-clause-has_room
first-requires-clause-has_room c = let few = rw (← c.self.view_is) at c.requires.at_most_65536_pages in has-room c.self.inside.objects c.self.inside.free c.self.invariant.free few

pub returns-clause-lowest : goal.returns-clause-lowest
returns-clause-lowest c =
    λ objects are.
    let P : List (ℕ × ℕ) → Type 0 = λ spans. AreGapsOf spans c.self.inside.free in
    let Q : List (ℕ × ObjectRow) → Type 0 = λ rows. AreRowsOf objects rows in
    c.first.ensures.lowest objects (subst P (sym (same-spans objects c.self.inside.objects (subst Q (sym c.self.view_is) are))) c.self.invariant.free)

pub returns-clause-free : goal.returns-clause-free
returns-clause-free c =
    let P : ℕ × ℕ → Type 0 = λ span. (c.first.result + c.args.pages ≤ span.0) ⊎ (span.0 + span.1 ≤ c.first.result) in
    rw (← c.self.view_is) (all-unmap P c.self.inside.objects (c.first.ensures.free (spans_in c.self.inside.objects) c.self.invariant.free))
