use Rattle.{mg_model.specs.{Limits.thread_limit, State.ThreadRow}, mg_show.proofs.Drawing.{found-all, slots-last, thread-told}}
use Rattle.{mg_show.specs.{DotFrom.part_text, Drawn.bases_of, Shown.{numbered, state_shown}, WritingLemmas.of_same}, std.proofs.Common.{ℕ, ◌+◌, ◌<◌}}
use Rattle.std.{proofs.{Common.{[], None, Some, map, ap, subst, sym, ◌∙◌}, lemmas.List.Elements.{All-cons, All-nil}}, specs.Prelude.{◌==◌, All, find}}
use Rattle.mg_show.proofs.graph.put_thread_part.Goals as goal

pub put_part-requires-clause-places : goal.put_part-requires-clause-places
put_part-requires-clause-places g c =
    let P : ℕ × ThreadRow → Type 0 = λ t. t.0 < thread_limit in
    let all : All P c.deref.result.now = subst (All P) (sym c.deref.ensures.value) c.requires.places in
    let one : P c.in-Some.thread.now =
    found-all P (λ (t : ℕ × ThreadRow). t.0 + 1 == c.args.number) c.deref.result.now c.in-Some.thread.now all c.in-Some.ensures in
    subst (All P) (sym c.from_ref-drawn.ensures.value) (All-cons P c.in-Some.thread.now [] one (All-nil P))

pub returns-in-Some : goal.returns-in-Some
returns-in-Some g c =
    let shown = c.args.shown.now in
    let thread = c.in-Some.thread.now in
    let n = c.from-n.ensures ∙ c.saturating_sub.ensures in
    let slots = slots-last thread.1.frames c.last-last.result c.slots.result.now c.last-last.ensures c.slots.ensures in
    let found = c.in-Some.ensures ∙ ap (find (λ (t : ℕ × ThreadRow). t.0 + 1 == c.args.number)) c.deref.ensures.value in
    of_same g.D.Disk g.K.Sink
    (λ r.
    (λ i. part_text (state_shown shown r) (map numbered (c.from_ref-drawn.ensures.value i)) (bases_of (slots i))
    (n i))
    ∙ thread-told shown r c.args.number c.args.steps (Some thread) found) c.put_part.ensures

pub returns-in-None : goal.returns-in-None
returns-in-None g c =
    let shown = c.args.shown.now in
    let n = c.from-n.ensures ∙ c.saturating_sub.ensures in
    let found = c.in-None.ensures ∙ ap (find (λ (t : ℕ × ThreadRow). t.0 + 1 == c.args.number)) c.deref.ensures.value in
    of_same g.D.Disk g.K.Sink
    (λ r. (λ i. part_text (state_shown shown r) [] [] (n i))
    ∙ thread-told shown r c.args.number c.args.steps None found) c.put_part-in-None.ensures
