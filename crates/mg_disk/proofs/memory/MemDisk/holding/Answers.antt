use Rattle.{mg_disk.specs.HeldLemmas.settled_new, std.proofs.Common.{refl, ◌∙◌}}
use Rattle.mg_disk.proofs.memory.MemDisk.holding.Goals as goal

pub returns-clause-holds : goal.returns-clause-holds
returns-clause-holds c = record {
  told = refl;
  settled = settled_new c.in_ok-from_slice.field-0.items c.in_ok-with_capacity-2.field-0.items c.args.content.items c.in_ok-with_capacity-2.ensures.items (c.in_ok-from_slice.ensures.items ∙ c.deref.ensures.value);
}
