use Rattle.{mg_disk.specs.Disk.block_at, mg_journal.proofs.Lookups.newest_reads, std.proofs.Common.{◌<◌, ◌∙◌, ap, sym, arith, length}}
use Rattle.std.proofs.lemmas.Result.{on_ok_weaker}
use Rattle.mg_journal.proofs.view.View.read_newer.Goals as goal

pub returns-then-place-i-clause-block : goal.returns-then-place-i-clause-block
returns-then-place-i-clause-block g c image told r is =
    let view = c.args.self.now in
    let counted = g.met.D.Disk.seen_count c.args.disk.now image told in
    let low = c.requires.place in
    let high = c.requires.within_disk in
    let inside : c.args.i < length image = omega arith in
    c.requires.home image told ∙ ap (block_at image) (sym c.if-place-i.true ∙ c.place_of-place.ensures.newest) ∙ newest_reads view image r c.args.i (c.requires.fits image told) inside is

pub returns-else-place-i-clause-block : goal.returns-else-place-i-clause-block
returns-else-place-i-clause-block g c =
    on_ok_weaker c.read.result
    (λ same image told r is.
    let view = c.args.self.now in
    let counted = g.met.D.Disk.seen_count c.args.disk.now image told in
    let low = c.requires.place in
    let high = c.requires.within_disk in
    let inside : c.args.i < length image = omega arith in
    same image told ∙ ap (block_at image) c.place_of-place.ensures.newest ∙ newest_reads view image r c.args.i (c.requires.fits image told) inside is)
    c.read.ensures.block
