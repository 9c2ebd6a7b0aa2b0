use Rattle.{mg_pages.proofs.{BlocksKept.found-or, KeptWrites.{kept-before, kept-behind}}, std.proofs.Common.{◌≡◌, IfSome, Some, subst, sym}}
use Rattle.mg_pages.proofs.blocks.Blocks.held.Goals as goal

pub returns-in-Some : goal.returns-in-Some
returns-in-Some c = kept-before c.args.self.now.writes c.args.self.now.kept c.args.block c.in-Some.bytes.now c.in-Some.ensures

pub returns-in-None : goal.returns-in-None
returns-in-None c =
    found-or c.held.result _ _ c.in-None.ensures
    (subst (λ o. IfSome c.held.result (λ bytes. o ≡ Some bytes.now)) (sym (kept-behind c.args.self.now.writes c.args.self.now.kept c.args.block c.in-None.ensures)) c.held.ensures)
