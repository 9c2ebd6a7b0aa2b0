use Rattle.{mg_disk.specs.Disk.block_at, mg_journal.proofs.Lookups.newest_reads, std.proofs.Common.{◌<◌, ◌∙◌, ap, arith, length}}
use Rattle.std.proofs.lemmas.Result.{on_ok_weaker}
use Rattle.mg_journal.proofs.view.View.read.Goals as goal

pub returns-clause-block : goal.returns-clause-block
returns-clause-block g c =
    on_ok_weaker c.read.result
    (λ same image told r is.
    let view = c.args.self.now in
    let counted = g.met.D.Disk.seen_count c.args.disk.now image told in
    let low = c.requires.place in
    let high = c.requires.within_disk in
    let inside : c.args.i < length image = omega arith in
    same image told ∙ ap (block_at image) c.place_of.ensures.newest ∙ newest_reads view image r c.args.i (c.requires.fits image told) inside is)
    c.read.ensures.block
