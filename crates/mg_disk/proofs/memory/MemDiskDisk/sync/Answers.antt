use Rattle.{mg_disk.specs.HeldLemmas.{synced_goes, settled}, std.proofs.Common.{rules, ap, ◌∙◌, sym, Some, refl}}
use Rattle.mg_disk.proofs.memory.MemDiskDisk.sync.Goals as goal

pub returns-in-Passes-clause-meets : goal.returns-in-Passes-clause-meets
returns-in-Passes-clause-meets c =
    let was = c.args.self.now in
    let s = c.record_sync.ensures in
    record {
      durable = settled _ _ _ _ _ c.record_sync.new.self.held s.touched (s.synced ∙ sym s.content);
      seen = ap (λ x. Some x) s.content;
      rules = record {
        stops = synced_goes was.first.items _ was.events.items _ _ was.held was.pending s.first s.events;
        blocks = s.blocks;
        tells = refl;
        count = search rules;
        cause = search rules;
      };
    }
