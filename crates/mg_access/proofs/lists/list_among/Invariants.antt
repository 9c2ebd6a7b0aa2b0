use Rattle.{mg_access.specs.Searching.slot_opens, mg_volume.specs.{Calls.Reads, Meaning.now_of}, std.proofs.Common.{◌≡◌, ◌≤◌, ◌+◌, ◌*◌, drop}}
use Rattle.std.specs.{List.list_any, Option.ForSome}
use Rattle.mg_access.proofs.lists.list_among.Given as goal

-- no slot before this one opens the object
abbrev pub invariant-loop-slot : goal.invariant-loop-slot
invariant-loop-slot g l = record {
  reads : Reads g.D.Disk l.fn.volume l.volume l.fn.disk l.disk l.fn.steps l.steps;
  few : l.steps ≤ l.fn.steps + 511 * l.slot-index;
  rest : ForSome (g.D.Disk.seen l.fn.disk) (λ image.
      list_any (λ slot. slot_opens (now_of l.fn.volume image) l.sought slot) l.slots ≡ list_any (λ slot. slot_opens (now_of l.fn.volume image) l.sought slot) (drop l.slot-index l.slots));
}
