use Rattle.mg_disk.specs.{Blocks.gates_block, Disk.{SameBut, only_place}, HeldLemmas.wrote_goes, PlaceLemmas.same_set}
use Rattle.{mg_disk.specs.declared.memory.MemDisk.MemDisk, std.proofs.Common.{◌≡◌, rules, ap, ◌∙◌, sym, Some, subst, arith, refl, slice_set}}
use Rattle.mg_disk.proofs.memory.MemDiskDisk.write.Goals as goal

pub returns-in-Passes-clause-meets : goal.returns-in-Passes-clause-meets
returns-in-Passes-clause-meets c =
    let was = c.args.self.now in
    let put = c.put-in-Passes.ensures in
    record {
      written = ap (λ x. Some x) put.content;
      unknown = search rules;
      rules = record {
        stops = wrote_goes was.first.items _ was.events.items _ _ c.args.i c.args.from.now was.held (let a = was.content.ok.0 in let b = was.pending.count in let k = c.requires.in_range in omega arith) put.first put.events;
        blocks = put.blocks;
        tells = refl;
        count = search rules;
        cause = search rules;
      };
    }

pub returns-in-Fails-clause-meets : goal.returns-in-Fails-clause-meets
returns-in-Fails-clause-meets c =
    let was = c.args.self.now in
    let put = c.put.ensures in
    let same = c.fail-in-Fails.ensures.counts in
    let content : c.fail-in-Fails.new.self.content.items ≡ slice_set was.content.items c.args.i gates_block = ap (λ (d : MemDisk). d.content.items) same ∙ put.content in
    let one : SameBut (only_place c.args.i) was.content.items c.fail-in-Fails.new.self.content.items =
    subst (SameBut (only_place c.args.i) was.content.items) (sym content) (same_set was.content.items c.args.i gates_block) in
    record {
      written = search rules;
      unknown = search rules;
      rules = record {
        stops = wrote_goes was.first.items _ was.events.items _ _ c.args.i gates_block was.held (let a = was.content.ok.0 in let b = was.pending.count in let k = c.requires.in_range in omega arith)
            (ap (λ (d : MemDisk). d.first.items) same ∙ put.first) (ap (λ (d : MemDisk). d.events.items) same ∙ put.events);
        blocks = ap (λ (d : MemDisk). d.content.len) same ∙ put.blocks;
        tells = refl;
        count = search rules;
        cause = search rules;
      };
    }
