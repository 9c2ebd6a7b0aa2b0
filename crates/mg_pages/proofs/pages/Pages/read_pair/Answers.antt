use Rattle.{mg_model.specs.Bytes.block_words, mg_pages.proofs.{Counted.reads-alike, InMemory.read-coming, Opened.stands-store}}
use Rattle.{mg_pages.specs.{Meaning.waiting_in, Pairs.IsNextPair}, std.proofs.Common.{refl, slice_index, subst}}
use Rattle.mg_pages.proofs.pages.Pages.read_pair.Goals as goal

pub read-requires-clause-stands : goal.read-requires-clause-stands
read-requires-clause-stands g c = stands-store g.D.Disk c.args.disk.now c.args.self.now c.requires.stands

pub invariant_of-self : goal.invariant_of-self
invariant_of-self g c = let k = c.read.ensures.looks.keeps 0 in record { sound = rw (k.store, c.read.ensures.staged) c.args.self.now.sound }

pub invariant_of-self-in-Err : goal.invariant_of-self-in-Err
invariant_of-self-in-Err g c = let k = c.read.ensures.looks.keeps 0 in record { sound = rw (k.store, c.read.ensures.staged) c.args.self.now.sound }

pub returns-in-Ok-clause-found : goal.returns-in-Ok-clause-found
unfolding waiting_in
returns-in-Ok-clause-found g c image told =
    subst (λ bytes. IsNextPair (λ index. slice_index (block_words bytes) index) c.args.from c.args.count c.args.first c.next_pair.result)
    (read-coming c.args.self.now image c.args.block c.read.new.bytes c.requires.waits_not (c.in-Ok.ensures.block image told)) c.next_pair.ensures.found

pub returns-in-Ok-clause-looks : goal.returns-in-Ok-clause-looks
returns-in-Ok-clause-looks g c =
    let e = c.read.ensures in
    reads-alike c.args.self.now _ (e.looks.keeps 0).store e.staged refl g.D.Disk c.args.disk.now c.read.new.disk c.read.result _ e.looks tt c.requires.stands

pub returns-in-Err-clause-looks : goal.returns-in-Err-clause-looks
returns-in-Err-clause-looks g c =
    let e = c.read.ensures in
    reads-alike c.args.self.now _ (e.looks.keeps 0).store e.staged refl g.D.Disk c.args.disk.now c.read.new.disk c.read.result _ e.looks c.in-Err.ensures.looks.reads.calls.cause c.requires.stands
