use Rattle.{mg_journal.specs.Staged.staged, mg_pages.{proofs.KeptWrites.{kept-before, kept-behind}, specs.Kept.kept_at}, std.proofs.Common.◌≡◌}
use Rattle.std.proofs.Common.{MatchOption, ap, is_some, subst, sym, ◌∙◌}
use Rattle.mg_pages.proofs.kept.CachedBlocks.stage.Goals as goal

pub returns-in-Some-clause-kept : goal.returns-in-Some-clause-kept
returns-in-Some-clause-kept c =
    sym (ap is_some (ap (λ es. kept_at es c.args.block) (sym c.self.view_is) ∙ kept-before c.self.inside.last c.self.inside.cache c.args.block c.in-Some.bytes.now c.in-Some.ensures))

pub returns-in-Some-clause-staged : goal.returns-in-Some-clause-staged
returns-in-Some-clause-staged c =
    subst (λ o. MatchOption o (c.stage.new.self ≡ c.args.writes.now) (λ bytes. c.stage.new.self ≡ staged c.args.writes.now c.args.block bytes))
    (sym (ap (λ es. kept_at es c.args.block) (sym c.self.view_is) ∙ kept-before c.self.inside.last c.self.inside.cache c.args.block c.in-Some.bytes.now c.in-Some.ensures)) c.stage.ensures

pub returns-in-None-clause-kept : goal.returns-in-None-clause-kept
returns-in-None-clause-kept c =
    c.stage-in-None.ensures.kept ∙ sym (ap is_some (ap (λ es. kept_at es c.args.block) (sym c.self.view_is) ∙ kept-behind c.self.inside.last c.self.inside.cache c.args.block c.in-None.ensures))

pub returns-in-None-clause-staged : goal.returns-in-None-clause-staged
returns-in-None-clause-staged c =
    subst (λ o. MatchOption o (c.stage-in-None.new.writes ≡ c.args.writes.now) (λ bytes. c.stage-in-None.new.writes ≡ staged c.args.writes.now c.args.block bytes))
    (sym (ap (λ es. kept_at es c.args.block) (sym c.self.view_is) ∙ kept-behind c.self.inside.last c.self.inside.cache c.args.block c.in-None.ensures)) c.stage-in-None.ensures.staged
