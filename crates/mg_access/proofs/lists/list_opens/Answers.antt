use Rattle.{mg_access.{proofs.Entries.{entry_before, next-hit, next-miss, next-none}, specs.Searching.words_based}, mg_volume.specs.Meaning.now_of}
use Rattle.{mg_volume.specs.{Pairs.words_looked_at, RunLemmas.reads_then}, std.proofs.Common.{◌≡◌, ◌+◌, ◌-◌, ◌≤◌, ◌<◌, ◌∙◌, IfSome, None, Some}}
use Rattle.std.proofs.Common.{arith, subst, sym}
use Rattle.mg_access.proofs.lists.list_opens.Goals as goal

pub returns-then-holds-clause-opens : goal.returns-then-holds-clause-opens
returns-then-holds-clause-opens g c image told =
    next-hit c.args.sought.now (words_based (now_of c.args.volume.now image).objects c.args.list) c.loop-from.from c.entries-count.result (c.loop-from.invariant.rest image told) (c.in-Some.j, c.in-Some.password)
    (subst (λ o. IfSome o (λ pair. (c.loop-from.from ≤ pair.0) × (pair.0 < c.entries-count.result))) c.in-Some.is c.in_ok-j.ensures.place)
    (entry_before g.D.Disk c.args.volume.now c.loop-from.volume c.args.disk.now c.loop-from.disk c.args.steps.now c.loop-from.steps c.args.list c.loop-from.from c.entries-count.result c.base-base.result c.args.sought.now
    _ (Some (c.in-Some.j, c.in-Some.password)) c.loop-from.invariant.reads c.base-base.ensures.value c.in-Some.is c.in_ok-j.ensures.found image told)
    (sym c.if-holds.true ∙ c.holds.ensures)

pub returns-then-holds-clause-reads : goal.returns-then-holds-clause-reads
returns-then-holds-clause-reads g c =
    reads_then g.D.Disk c.args.volume.now c.loop-from.volume c.next_entry.new.volume c.args.disk.now c.loop-from.disk c.next_entry.new.disk c.args.steps.now c.loop-from.steps c.next_entry.new.steps c.loop-from.invariant.reads c.next_entry.ensures.reads

pub loop-from-preserved : goal.loop-from-preserved
loop-from-preserved g c =
    let place = subst (λ o. IfSome o (λ pair. (c.loop-from.from ≤ pair.0) × (pair.0 < c.entries-count.result))) c.in-Some.is c.in_ok-j.ensures.place in
    let below = place.1 in
    let least = place.0 in
    record {
      within = omega arith;
      reads = reads_then g.D.Disk c.args.volume.now c.loop-from.volume c.next_entry.new.volume c.args.disk.now c.loop-from.disk c.next_entry.new.disk c.args.steps.now c.loop-from.steps c.next_entry.new.steps c.loop-from.invariant.reads c.next_entry.ensures.reads;
      few =
          let was = c.loop-from.invariant.few in
          let each : c.next_entry.new.steps ≡ c.loop-from.steps + (c.in-Some.j - c.loop-from.from + 2) =
          subst (λ o. c.next_entry.new.steps ≡ c.loop-from.steps + words_looked_at c.loop-from.from c.entries-count.result o) c.in-Some.is c.in_ok-j.ensures.counts in
          omega arith;
      rest = λ image told.
          next-miss c.args.sought.now (words_based (now_of c.args.volume.now image).objects c.args.list) c.loop-from.from c.entries-count.result (c.loop-from.invariant.rest image told) (c.in-Some.j, c.in-Some.password) place
          (entry_before g.D.Disk c.args.volume.now c.loop-from.volume c.args.disk.now c.loop-from.disk c.args.steps.now c.loop-from.steps c.args.list c.loop-from.from c.entries-count.result c.base-base.result c.args.sought.now
          _ (Some (c.in-Some.j, c.in-Some.password)) c.loop-from.invariant.reads c.base-base.ensures.value c.in-Some.is c.in_ok-j.ensures.found image told)
          (sym c.if-holds.false ∙ c.holds.ensures);
    }

pub returns-in-None-clause-opens : goal.returns-in-None-clause-opens
returns-in-None-clause-opens g c image told =
    next-none c.args.sought.now (words_based (now_of c.args.volume.now image).objects c.args.list) c.loop-from.from c.entries-count.result (c.loop-from.invariant.rest image told) c.loop-from.invariant.within
    (entry_before g.D.Disk c.args.volume.now c.loop-from.volume c.args.disk.now c.loop-from.disk c.args.steps.now c.loop-from.steps c.args.list c.loop-from.from c.entries-count.result c.base-base.result c.args.sought.now
    _ None c.loop-from.invariant.reads c.base-base.ensures.value c.in-None.is c.in_ok-j.ensures.found image told)

pub returns-in-None-clause-reads : goal.returns-in-None-clause-reads
returns-in-None-clause-reads g c =
    reads_then g.D.Disk c.args.volume.now c.loop-from.volume c.next_entry.new.volume c.args.disk.now c.loop-from.disk c.next_entry.new.disk c.args.steps.now c.loop-from.steps c.next_entry.new.steps c.loop-from.invariant.reads c.next_entry.ensures.reads
