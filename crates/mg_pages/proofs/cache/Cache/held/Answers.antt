use Rattle.{mg_pages.{proofs.Showing.kept-found, specs.Kept.kept_at}, std.proofs.Common.{Some, ap, sym, ◌∙◌}}
use Rattle.mg_pages.proofs.cache.Cache.held.Goals as goal

pub returns-in-Some : goal.returns-in-Some
returns-in-Some c =
    ap (λ es. kept_at es c.args.block) (sym c.self.view_is) ∙ kept-found (λ b. b.value) c.self.inside.blocks.entries c.args.block c.in-Some.bytes.now c.in-Some.ensures
    ∙ ap (λ bytes. Some bytes) (sym c.deref.ensures)
