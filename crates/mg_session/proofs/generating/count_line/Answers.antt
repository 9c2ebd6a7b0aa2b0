use Rattle.{mg_session.proofs.GeneratedSteps.{Counted-commit, Counted-line}, std.proofs.{Common.{[], ◌∷◌, ◌++◌}, lemmas.Result.on_ok_weaker}}
use Rattle.mg_session.proofs.generating.count_line.Goals as goal

pub returns-then-staged-le-STAGED_LIMIT-clause-counts : goal.returns-then-staged-le-STAGED_LIMIT-clause-counts
returns-then-staged-le-STAGED_LIMIT-clause-counts g c =
    Counted-line g.D.Disk (record { stays = c.warm_keys_are_kept.ensures.stays; limit = c.warm_keys_are_kept.ensures.limit; events = c.costs_add_up.ensures.events; costs = c.costs_add_up.ensures.line }) c.args.kernel.now c.step.new.self c.args.disk.now c.step.new.disk c.args.tally.now c.count.new.self c.args.steps.now c.step.new.steps c.args.line.now c.in-Ok.reply
    c.in-Ok.ensures.answers.answers c.in-Ok.ensures.costs.keeps c.in-Ok.ensures.serves.writes c.count.ensures

pub returns-clause-counts : goal.returns-clause-counts
returns-clause-counts g c =
    on_ok_weaker c.commit.result
    (λ h. λ first s sofar few a. Counted-commit g.D.Disk c.step.new.self c.commit.new.self c.step.new.disk c.commit.new.disk c.count.new.self c.step.new.steps first s (sofar ++ c.args.line.now ∷ [])
    h c.commit.ensures.seats
    (Counted-line g.D.Disk (record { stays = c.warm_keys_are_kept.ensures.stays; limit = c.warm_keys_are_kept.ensures.limit; events = c.costs_add_up.ensures.events; costs = c.costs_add_up.ensures.line }) c.args.kernel.now c.step.new.self c.args.disk.now c.step.new.disk c.args.tally.now c.count.new.self c.args.steps.now c.step.new.steps c.args.line.now c.in-Ok.reply
    c.in-Ok.ensures.answers.answers c.in-Ok.ensures.costs.keeps c.in-Ok.ensures.serves.writes c.count.ensures first s sofar few a))
    c.commit.ensures.saves.done
