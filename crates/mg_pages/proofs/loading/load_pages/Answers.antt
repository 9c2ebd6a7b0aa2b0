use Rattle.{mg_disk.specs.Runs.nothing_then, mg_faults.specs.Faults.count_then, mg_model.specs.Layout.table_blocks}
use Rattle.{mg_pages.{proofs.Loaded.{loaded-first, loaded-table}, specs.Meaning.replayed}, std.proofs.Common.{◌≡◌, ◌<◌, ◌∙◌, ap, arith, length, sym}}
use Rattle.mg_pages.proofs.loading.load_pages.Goals as goal

pub loop-k-preserved : goal.loop-k-preserved
loop-k-preserved g c =
    let inv = c.loop-k.invariant in
    let facts = g.D.Disk in
    let old = c.args.disk.now in
    let mid = c.loop-k.disk in
    let new = c.load_block.new.disk in
    let frames = c.args.frames.now in
    let many : c.of-k-end.result.table ≡ table_blocks (length frames) = c.of-k-end.ensures.table ∙ ap (λ n. table_blocks n) c.len.ensures.count in
    let test = c.loop-k-test.true in
    let within : c.loop-k.k < table_blocks (length frames) = omega arith in
    record {
      long = c.load_block.ensures.count ∙ inv.long;
      free = c.in-Ok.ensures.free;
      loaded = λ image told table is has.
          c.in-Ok.ensures.loads image (inv.writes.same ∙ told) table (is ∙ sym inv.long) (has c.loop-k.k within) (inv.loaded image told table is has);
      stands = c.load_block.ensures.stands;
      writes = nothing_then facts old mid new inv.writes c.load_block.ensures.reads.writes;
      count = count_then (facts.faults old) (facts.faults mid) (facts.faults new) (facts.is_spent old) (facts.is_spent mid) (facts.is_spent new) inv.count c.load_block.ensures.reads.calls.count;
      blocks = c.load_block.ensures.reads.calls.blocks ∙ inv.blocks;
    }

pub returns-clause-first_entries : goal.returns-clause-first_entries
returns-clause-first_entries g c image told =
    let inv = c.loop-k.invariant in
    let many : c.of-k-end.result.table ≡ table_blocks (length c.args.frames.now) = c.of-k-end.ensures.table ∙ ap (λ n. table_blocks n) c.len.ensures.count in
    let past = c.loop-k-test.false in
    let few = c.loop-k.auto.k-end in
    loaded-first (replayed c.args.blocks.now.store.total image) c.args.frames.now c.loop-k.frames c.loop-k.k inv.long (omega arith) (inv.loaded image told)

pub returns-clause-table : goal.returns-clause-table
returns-clause-table g c image told =
    let inv = c.loop-k.invariant in
    let many : c.of-k-end.result.table ≡ table_blocks (length c.args.frames.now) = c.of-k-end.ensures.table ∙ ap (λ n. table_blocks n) c.len.ensures.count in
    let past = c.loop-k-test.false in
    let few = c.loop-k.auto.k-end in
    loaded-table (replayed c.args.blocks.now.store.total image) c.args.frames.now c.loop-k.frames c.loop-k.k inv.long (omega arith) (inv.loaded image told)
