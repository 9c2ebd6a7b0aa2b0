use Rattle.{mg_model.specs.{State.ObjectRow, declared.slots.Slot.Slot}, mg_show.proofs.Marked.{marks_more, marks_no, marks_one}}
use Rattle.{mg_show.{proofs.marks.rank.Goals.{in-None, in-Some}, specs.Marking.{IsPlaceOf, Marks, gives_rank, is_within}}, std.proofs.Common.[]}
use Rattle.std.{proofs.Common.{◌∷◌, List, ℕ, ◌∙◌, arith, get_or, subst}, specs.Prelude.{◌≢◌, All}}
use Rattle.mg_show.proofs.marks.rank.Goals as goal

pub loop-slot-preserved : goal.loop-slot-preserved
loop-slot-preserved c =
    let objects = c.args.shown.now.objects in
    let old = c.loop-slot.ranks in
    let none : Slot = record { base = 0; password = 0 } in
    let slot = get_or c.args.capabilities.now c.loop-slot.slot-index none in
    let more = λ (new : List ℕ) (one : Marks is_within (gives_rank c.args.rank) objects ((slot.base, slot.password) ∷ []) old new).
    marks_more is_within (gives_rank c.args.rank) objects c.args.capabilities.now c.loop-slot.slot-index none c.args.ranks.now old new (omega arith) c.loop-slot.invariant one in
    elim c.match-place_of.branch [
      | in-Some w ↦ rw w.ranks-is (more _ (marks_one is_within (gives_rank c.args.rank) objects slot.base slot.password old w.in-Some.i w.least.result
          (c.loop-slot.invariant.long ∙ c.requires.long) (subst (λ (os : List (ℕ × ObjectRow)). IsPlaceOf os slot.base w.in-Some.i) c.objects-objects.ensures w.in-Some.ensures) (λ d n. w.least.ensures n)))
      | in-None w ↦ rw w.ranks-is (more _ (marks_no is_within (gives_rank c.args.rank) objects slot.base slot.password old
          (subst (All (λ (o : ℕ × ObjectRow). o.1.base ≢ slot.base)) c.objects-objects.ensures w.in-None.ensures)))
    ]
