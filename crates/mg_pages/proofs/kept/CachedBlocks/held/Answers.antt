use Rattle.{mg_pages.{proofs.KeptWrites.{kept-before, kept-behind}, specs.Kept.kept_at}, std.proofs.Common.{◌≡◌, IfSome, Some, ap, subst, sym, ◌∙◌}}
use Rattle.mg_pages.proofs.kept.CachedBlocks.held.Goals as goal

pub returns-in-Some : goal.returns-in-Some
returns-in-Some c =
    ap (λ es. kept_at es c.args.block) (sym c.self.view_is) ∙ kept-before c.self.inside.last c.self.inside.cache c.args.block c.in-Some.bytes.now c.in-Some.ensures

pub returns-in-None : goal.returns-in-None
returns-in-None c =
    subst (λ o. IfSome c.held.result (λ bytes. o ≡ Some bytes.now))
    (sym (ap (λ es. kept_at es c.args.block) (sym c.self.view_is) ∙ kept-behind c.self.inside.last c.self.inside.cache c.args.block c.in-None.ensures)) c.held.ensures
