use Rattle.{mg_pages.{proofs.KeptWrites.besides-behind, specs.Kept.KeepsBesides}, std.proofs.Common.{◌++◌, subst}}
use Rattle.mg_pages.proofs.kept.CachedBlocks.put.Goals as goal

pub returns : goal.returns
returns c =
    let i = c.self.inside in
    subst (λ es. KeepsBesides c.args.block c.args.bytes.now es (i.last ++ c.put.new.self)) c.self.view_is (besides-behind i.last c.args.block c.args.bytes.now i.cache c.put.new.self c.put.ensures)
