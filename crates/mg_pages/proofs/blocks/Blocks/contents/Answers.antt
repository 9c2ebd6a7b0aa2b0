use Rattle.{mg_pages.proofs.BlocksKept.read-block, std.proofs.lemmas.Result.on_ok_weaker}
use Rattle.mg_pages.proofs.blocks.Blocks.contents.Goals as goal

pub returns-clause-block : goal.returns-clause-block
returns-clause-block g c =
    on_ok_weaker c.read.result (λ is image told. read-block c.args.self.now.store image c.args.block c.read.new.out (c.requires.stands.fits image told) (is image told)) c.read.ensures.block
