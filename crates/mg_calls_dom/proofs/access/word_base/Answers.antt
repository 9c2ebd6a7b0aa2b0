use Rattle.mg_access.specs.{FindingLemmas.{word-failed, word-found}, FoundLemmas.{found-any, found-passes, page-in}, WordLemmas.refusal-denied}
use Rattle.{mg_access.specs.WordLemmas.refusal-none, mg_model.specs.Access.covers, mg_volume.specs.Meaning.{is_page_in, now_of, objects_in}}
use Rattle.std.{proofs.{Common.{◌%◌, ◌/◌, ◌+◌, ◌*◌, ◌≤◌, sym, subst}, lemmas.Bool.{and_parts, eq-eqb, leb-true}}, specs.Prelude.{nat_le, nat_lt}}
use Rattle.mg_calls_dom.proofs.access.word_base.Goals as goal

pub returns-in-Some-clause-refusal : goal.returns-in-Some-clause-refusal
returns-in-Some-clause-refusal g c image told =
    let reached = rw c.in-Some.is at (c.in_ok-base.ensures.row image told) in
    refusal-none (now_of c.args.volume.now image) c.args.thread c.args.address c.args.right reached.row (eq-eqb (c.args.address % 8) 0 c.if-address-ne0.false) reached.found

pub returns-in-None-clause-refusal : goal.returns-in-None-clause-refusal
returns-in-None-clause-refusal g c image told =
    refusal-denied (now_of c.args.volume.now image) c.args.thread c.args.address c.args.right (eq-eqb (c.args.address % 8) 0 c.if-address-ne0.false) (rw c.in-None.is at (c.in_ok-base.ensures.row image told))

pub returns-in-Some-clause-row : goal.returns-in-Some-clause-row
returns-in-Some-clause-row g c image told = rw c.in-Some.is at (c.in_ok-base.ensures.row image told)

pub returns-in-Some-clause-place : goal.returns-in-Some-clause-place
returns-in-Some-clause-place g c =
    let held = rw c.in-Some.is at c.in_ok-base.ensures.at in
    let inside = found-passes (λ row. covers row c.args.address) (objects_in c.validate.new.volume) held.row held.found in
    let above = leb-true held.row.base c.args.address (and_parts (nat_le held.row.base c.args.address) (nat_lt c.args.address (held.row.base + 4096 * held.row.pages)) inside).0 in (
      found-any (λ row. covers row c.args.address) (λ row. is_page_in (c.args.address / 4096) row) (objects_in c.validate.new.volume) held.row held.found (page-in held.row c.args.address inside held.rules.place),
      subst (λ b. b ≤ c.args.address) (sym held.is) above,
      c.if-address-ne0.false,
    )

pub returns-in-Some-clause-finds : goal.returns-in-Some-clause-finds
returns-in-Some-clause-finds g c =
    word-found g.D.Disk c.args.thread c.args.address c.args.right c.args.volume.now c.validate.new.volume c.args.cache.now c.validate.new.cache c.args.disk.now c.validate.new.disk c.args.steps.now c.validate.new.steps c.accesses_keep_the_rules_of_a_line.ensures.kept
    (eq-eqb (c.args.address % 8) 0 c.if-address-ne0.false) _ _ c.in_ok-base.ensures.finds

pub returns-in-None-clause-finds : goal.returns-in-None-clause-finds
returns-in-None-clause-finds g c =
    word-found g.D.Disk c.args.thread c.args.address c.args.right c.args.volume.now c.validate.new.volume c.args.cache.now c.validate.new.cache c.args.disk.now c.validate.new.disk c.args.steps.now c.validate.new.steps c.accesses_keep_the_rules_of_a_line.ensures.kept
    (eq-eqb (c.args.address % 8) 0 c.if-address-ne0.false) _ _ c.in_ok-base.ensures.finds

pub returns-in_err-base-clause-finds : goal.returns-in_err-base-clause-finds
returns-in_err-base-clause-finds g c =
    word-failed g.D.Disk c.args.thread c.args.address c.args.right c.args.volume.now c.validate.new.volume c.args.cache.now c.validate.new.cache c.args.disk.now c.validate.new.disk c.args.steps.now c.validate.new.steps c.accesses_keep_the_rules_of_a_line.ensures.kept
    (eq-eqb (c.args.address % 8) 0 c.if-address-ne0.false) _ c.from_residual.result c.from_residual.ensures.0 c.in_err-base.ensures.finds
