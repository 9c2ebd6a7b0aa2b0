use Rattle.{mg_pages.{proofs.{BlocksKept.read-block, KeptWrites.kept-read}, specs.Meaning.replayed}, std.proofs.Common.{refl, rules}}
use Rattle.mg_pages.proofs.blocks.Blocks.read.Goals as goal

pub returns-in-Ok-clause-block : goal.returns-in-Ok-clause-block
returns-in-Ok-clause-block g c image told =
    read-block c.args.self.now.store image c.args.block c.read.new.out (c.requires.stands.fits image told) (c.in-Ok.ensures.block image told)

pub returns-in-Ok-clause-looks : goal.returns-in-Ok-clause-looks
returns-in-Ok-clause-looks g c =
    let store = c.args.self.now.store in
    record {
      keeps = λ first. record {
        store = refl;
        kept = λ image told.
            kept-read first (replayed store.total image) c.args.block c.read.new.out c.args.self.now.kept c.put.new.self
            (read-block store image c.args.block c.read.new.out (c.requires.stands.fits image told) (c.in-Ok.ensures.block image told)) c.put.ensures;
      };
      stands = search rules;
      reads = search rules;
    }
