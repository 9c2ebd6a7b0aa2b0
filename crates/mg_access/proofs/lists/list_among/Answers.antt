use Rattle.{mg_access.specs.{ReachedLemmas.{any_end, any_miss}, Searching.slot_opens}, mg_model.specs.declared.slots.Slot.Slot}
use Rattle.{mg_volume.specs.{Meaning.now_of, RunLemmas.{reads_then, told_since}}, std.proofs.Common.{arith, get_or, refl, sym, ◌∙◌}}
use Rattle.std.proofs.lemmas.List.{get_or_default}
use Rattle.mg_access.proofs.lists.list_among.Goals as goal

pub returns-in_err-slot_opens-clause-reads : goal.returns-in_err-slot_opens-clause-reads
returns-in_err-slot_opens-clause-reads g c =
    reads_then g.D.Disk c.args.volume.now c.loop-slot.volume c.slot_opens.new.volume c.args.disk.now c.loop-slot.disk c.slot_opens.new.disk c.args.steps.now c.loop-slot.steps c.slot_opens.new.steps c.loop-slot.invariant.reads c.slot_opens.ensures.reads

pub returns-then-branch-clause-reads : goal.returns-then-branch-clause-reads
returns-then-branch-clause-reads g c =
    reads_then g.D.Disk c.args.volume.now c.loop-slot.volume c.slot_opens.new.volume c.args.disk.now c.loop-slot.disk c.slot_opens.new.disk c.args.steps.now c.loop-slot.steps c.slot_opens.new.steps c.loop-slot.invariant.reads c.slot_opens.ensures.reads

pub loop-slot-preserved : goal.loop-slot-preserved
loop-slot-preserved g c = record {
  reads = reads_then g.D.Disk c.args.volume.now c.loop-slot.volume c.slot_opens.new.volume c.args.disk.now c.loop-slot.disk c.slot_opens.new.disk c.args.steps.now c.loop-slot.steps c.slot_opens.new.steps c.loop-slot.invariant.reads c.slot_opens.ensures.reads;
  few = let was = c.loop-slot.invariant.few in let more = c.slot_opens.ensures.at_most_511_read in omega arith;
  rest = λ image told.
      let none : Slot = record { base = 0; password = 0 } in
      let found = told_since g.D.Disk c.args.volume.now c.loop-slot.volume c.args.disk.now c.loop-slot.disk c.args.steps.now c.loop-slot.steps c.in_ok-slot_opens.field-0 (λ state. slot_opens state c.args.sought.now (get_or c.args.slots.now c.loop-slot.slot-index none))
      c.loop-slot.invariant.reads c.in_ok-slot_opens.ensures.opens image told in
      any_miss (λ slot. slot_opens (now_of c.args.volume.now image) c.args.sought.now slot) c.args.slots.now c.loop-slot.slot-index none c.loop-slot-test.true (sym c.if-branch.false ∙ found) (c.loop-slot.invariant.rest image told);
}

pub returns-then-branch-clause-via : goal.returns-then-branch-clause-via
returns-then-branch-clause-via g c image told =
    let none : Slot = record { base = 0; password = 0 } in
    let slot = get_or c.args.slots.now c.loop-slot.slot-index none in
    let found = told_since g.D.Disk c.args.volume.now c.loop-slot.volume c.args.disk.now c.loop-slot.disk c.args.steps.now c.loop-slot.steps c.in_ok-slot_opens.field-0 (λ state. slot_opens state c.args.sought.now slot) c.loop-slot.invariant.reads
    c.in_ok-slot_opens.ensures.opens image told in
    record {
      slot = slot;
      among = (c.loop-slot.slot-index, c.loop-slot-test.true, get_or_default c.args.slots.now c.loop-slot.slot-index slot none c.loop-slot-test.true);
      base = refl;
      opened = sym found ∙ c.if-branch.true;
    }

pub returns-clause-via : goal.returns-clause-via
returns-clause-via g c image told =
    sym (any_end (λ slot. slot_opens (now_of c.args.volume.now image) c.args.sought.now slot) c.args.slots.now c.loop-slot.slot-index c.loop-slot-test.false (c.loop-slot.invariant.rest image told))
