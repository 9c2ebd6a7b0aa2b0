use Rattle.{mg_pages.specs.Loading.LoadsBlock, std.proofs.Common.subst}
use Rattle.mg_pages.proofs.loading.load_block.Goals as goal

pub returns-in-Ok-clause-loads : goal.returns-in-Ok-clause-loads
returns-in-Ok-clause-loads g c image told =
    subst (λ bytes. LoadsBlock c.args.k bytes c.args.frames.now c.bind_entries.new.frames) (c.in-Ok.ensures.block image told) c.bind_entries.ensures.loads

pub returns-in-Ok-clause-reads : goal.returns-in-Ok-clause-reads
returns-in-Ok-clause-reads g c = c.in-Ok.ensures.reads

pub returns-in-Err-clause-reads : goal.returns-in-Err-clause-reads
returns-in-Err-clause-reads g c = c.in-Err.ensures.reads
