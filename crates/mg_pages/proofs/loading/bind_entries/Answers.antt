use Rattle.mg_pages.proofs.Loaded.{bound-more}
use Rattle.mg_pages.proofs.loading.bind_entries.Goals as goal

pub loop-j-preserved : goal.loop-j-preserved
loop-j-preserved c =
    bound-more c.args.k c.loop-j.j c.word_at.result c.args.block.now c.args.frames.now c.loop-j.frames c.bind_entry.new.frames c.loop-j-test.true c.word_at.ensures c.bind_entry.ensures c.loop-j.invariant
