use Rattle.{mg_access.{proofs.StandingFacts.told-word, specs.Searching.words_based}, mg_model.specs.Objects.word_at, mg_volume.specs.Meaning.now_of}
use Rattle.{mg_volume.specs.Pairs.same_pairs, std.proofs.Common.{◌+◌, ◌*◌, ◌/◌, slice_index}}
use Rattle.mg_access.proofs.lists.next_entry.Goals as goal

pub returns-clause-found : goal.returns-clause-found
returns-clause-found g c =
    let v = c.args.volume.now in
    same_pairs c.next_pair.result (g.D.Disk.seen c.args.disk.now) (λ image index. word_at (now_of v image).objects (4096 * (c.args.list / 4096) + 8 * index)) (λ image index. slice_index (words_based (now_of v image).objects c.args.list) index)
    c.args.from c.args.count c.args.base c.requires.entries.at_most_255
    (λ image told index below. told-word v image (c.requires.sound.stands.fits image told) (c.requires.sound.formed image told) c.args.list c.requires.held index below)
    c.next_pair.ensures.place c.next_pair.ensures.found
