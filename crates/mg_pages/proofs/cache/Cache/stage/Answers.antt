use Rattle.{mg_journal.specs.Staged.staged, mg_pages.{proofs.Showing.{kept-found, kept-none}, specs.Kept.kept_at}, std.proofs.Common.◌≡◌}
use Rattle.std.proofs.Common.{MatchOption, ap, is_some, refl, subst, sym, ◌∙◌}
use Rattle.mg_pages.proofs.cache.Cache.stage.Goals as goal

pub returns-in-Some-clause-kept : goal.returns-in-Some-clause-kept
returns-in-Some-clause-kept c =
    sym (ap is_some (ap (λ es. kept_at es c.args.block) (sym c.self.view_is) ∙ kept-found (λ b. b.value) c.self.inside.blocks.entries c.args.block c.in-Some.bytes.now c.in-Some.ensures))

pub returns-in-Some-clause-staged : goal.returns-in-Some-clause-staged
returns-in-Some-clause-staged c =
    subst (λ o. MatchOption o (c.stage.new.self ≡ c.args.writes.now) (λ bytes. c.stage.new.self ≡ staged c.args.writes.now c.args.block bytes))
    (sym (ap (λ es. kept_at es c.args.block) (sym c.self.view_is) ∙ kept-found (λ b. b.value) c.self.inside.blocks.entries c.args.block c.in-Some.bytes.now c.in-Some.ensures))
    (c.stage.ensures ∙ ap (λ bytes. staged c.args.writes.now c.args.block bytes) c.deref.ensures)

pub returns-in-None-clause-kept : goal.returns-in-None-clause-kept
returns-in-None-clause-kept c =
    sym (ap is_some (ap (λ es. kept_at es c.args.block) (sym c.self.view_is) ∙ kept-none (λ b. b.value) c.self.inside.blocks.entries c.args.block c.in-None.ensures))

pub returns-in-None-clause-staged : goal.returns-in-None-clause-staged
returns-in-None-clause-staged c =
    subst (λ o. MatchOption o (c.args.writes.now ≡ c.args.writes.now) (λ bytes. c.args.writes.now ≡ staged c.args.writes.now c.args.block bytes))
    (sym (ap (λ es. kept_at es c.args.block) (sym c.self.view_is) ∙ kept-none (λ b. b.value) c.self.inside.blocks.entries c.args.block c.in-None.ensures)) refl
