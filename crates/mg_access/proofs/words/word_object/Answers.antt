use Rattle.mg_access.specs.{FindingLemmas.{word-failed, word-found}, FoundLemmas.{found-any, found-passes, page-in}, WordLemmas.refusal-denied}
use Rattle.{mg_access.specs.WordLemmas.refusal-none, mg_model.specs.Access.covers, mg_volume.specs.Meaning.{is_page_in, now_of, objects_in}}
use Rattle.std.proofs.{Common.{◌%◌, ◌/◌, sym, ◌∙◌}, lemmas.Bool.eq-eqb}
use Rattle.mg_access.proofs.words.word_object.Goals as goal

pub returns-in-Some-clause-refusal : goal.returns-in-Some-clause-refusal
returns-in-Some-clause-refusal g c image told =
    refusal-none (now_of c.args.volume.now image) c.args.thread c.args.address c.args.right c.in-Some.object (eq-eqb (c.args.address % 8) 0 c.if-address-ne0.false) (sym c.in-Some.is ∙ c.in_ok-object.ensures.row image told)

pub returns-in-None-clause-refusal : goal.returns-in-None-clause-refusal
returns-in-None-clause-refusal g c image told =
    refusal-denied (now_of c.args.volume.now image) c.args.thread c.args.address c.args.right (eq-eqb (c.args.address % 8) 0 c.if-address-ne0.false) (sym c.in-None.is ∙ c.in_ok-object.ensures.row image told)

pub returns-in-Some-clause-place : goal.returns-in-Some-clause-place
returns-in-Some-clause-place g c =
    let held = rw c.in-Some.is at c.in_ok-object.ensures.covers in
    let kept = rw c.in-Some.is at c.in_ok-object.ensures.kept in
    let inside = found-passes (λ row. covers row c.args.address) (objects_in c.reach.new.volume) c.in-Some.object held in (
      inside,
      found-any (λ row. covers row c.args.address) (λ row. is_page_in (c.args.address / 4096) row) (objects_in c.reach.new.volume) c.in-Some.object held (page-in c.in-Some.object c.args.address inside kept.place),
      c.if-address-ne0.false,
    )

pub returns-in-Some-clause-finds : goal.returns-in-Some-clause-finds
returns-in-Some-clause-finds g c =
    word-found g.D.Disk c.args.thread c.args.address c.args.right c.args.volume.now c.reach.new.volume c.args.cache.now c.reach.new.cache c.args.disk.now c.reach.new.disk c.args.steps.now c.reach.new.steps c.accesses_keep_the_rules_of_a_line.ensures.kept
    (eq-eqb (c.args.address % 8) 0 c.if-address-ne0.false) _ _ c.in_ok-object.ensures.finds

pub returns-in-None-clause-finds : goal.returns-in-None-clause-finds
returns-in-None-clause-finds g c =
    word-found g.D.Disk c.args.thread c.args.address c.args.right c.args.volume.now c.reach.new.volume c.args.cache.now c.reach.new.cache c.args.disk.now c.reach.new.disk c.args.steps.now c.reach.new.steps c.accesses_keep_the_rules_of_a_line.ensures.kept
    (eq-eqb (c.args.address % 8) 0 c.if-address-ne0.false) _ _ c.in_ok-object.ensures.finds

pub returns-in_err-object-clause-finds : goal.returns-in_err-object-clause-finds
returns-in_err-object-clause-finds g c =
    word-failed g.D.Disk c.args.thread c.args.address c.args.right c.args.volume.now c.reach.new.volume c.args.cache.now c.reach.new.cache c.args.disk.now c.reach.new.disk c.args.steps.now c.reach.new.steps c.accesses_keep_the_rules_of_a_line.ensures.kept
    (eq-eqb (c.args.address % 8) 0 c.if-address-ne0.false) _ c.from_residual.result c.from_residual.ensures.0 c.in_err-object.ensures.finds
