use Rattle.{mg_migrate.proofs.SuperBlocks.{first-byte, settings1-none, settings1-some}, mg_model.specs.Spelling.{BadSuper, NotSuper, OldSuper}}
use Rattle.{mg_model.specs.Spelling.Spells, std.proofs.Common.{◌≡◌, sym, ◌∙◌}}
use Rattle.mg_migrate.proofs.superblock.settings_in.Goals as goal

pub returns-in-Is : goal.returns-in-Is
returns-in-Is c = settings1-some c.args.block.now (first-byte c.args.block.now (λ i. c.fits-block i) c.requires) c.in-Is.p c.in-Is.ensures

pub returns-in-Not : goal.returns-in-Not
returns-in-Not c =
    settings1-none c.args.block.now (first-byte c.args.block.now (λ i. c.fits-block i) c.requires)
    (λ p is. let e : NotSuper ≡ Spells p = sym c.in-Not.ensures ∙ is in absurd (cc))

pub returns-in-Old : goal.returns-in-Old
returns-in-Old c =
    settings1-none c.args.block.now (first-byte c.args.block.now (λ i. c.fits-block i) c.requires)
    (λ p is. let e : OldSuper ≡ Spells p = sym c.in-Old.ensures ∙ is in absurd (cc))

pub returns-in-Damaged : goal.returns-in-Damaged
returns-in-Damaged c =
    settings1-none c.args.block.now (first-byte c.args.block.now (λ i. c.fits-block i) c.requires)
    (λ p is. let e : BadSuper ≡ Spells p = sym c.in-Damaged.ensures ∙ is in absurd (cc))
