use Rattle.{mg_disk.specs.{Disk.{Image, SameBut, block_at}, PlaceLemmas.same_as, Runs.still_seen}, mg_journal.proofs.AfterReads.after_reads}
use Rattle.{mg_journal.specs.{Applied.{filled, nth_body}, Contents.names, Places.IsPlace}, mg_model.specs.Layout.globals_block, std.proofs.Common.◌≡◌}
use Rattle.std.proofs.{Common.{◌<◌, ◌∙◌, ℕ, All, ap, arith, length, refl, subst, sym, true}, lemmas.List.{take-append-le, take_all}}
use Rattle.mg_journal.proofs.applying.HomeBuffers.write.Goals as goal

pub returns-clause-any_moment : goal.returns-clause-any_moment
returns-clause-any_moment g c pending =
    let old = c.args.disk.now in
    let mid = c.read_bodies.new.disk in
    let reads = c.in_ok-read_bodies.ensures.reads.writes in
    let homes : Image → ℕ → Type 0 = λ a k. names (filled a c.args.places.now) k ≡ true in
    after_reads g.D.Disk old mid (λ a. SameBut (homes a) a) (λ a. same_as (homes a) a a refl) reads pending c.apply.new.disk (c.apply.ensures.any_moment (still_seen g.D.Disk old mid pending reads.same reads.stops))

pub apply-requires : goal.apply-requires
apply-requires g c =
    let places = c.args.places.now in
    let journal = c.read_bodies.new.journal in
    let reads = c.in_ok-read_bodies.ensures.reads in
    let long : length journal ≡ c.grow.new.blocks.len = omega (arith, c.in_ok-read_bodies.ensures.whole, c.deref_mut.ensures.len) in
    let is : c.deref.result.now ≡ journal = c.deref.ensures.value ∙ take-append-le c.grow.new.blocks.len journal _ (omega (arith, long)) ∙ take_all c.grow.new.blocks.len journal (omega (arith, long)) in
    let bodies : (k : ℕ) → k < length places → nth_body places k < length c.deref.result.now =
    λ k below.
    let low : nth_body places k < globals_block = (c.requires.all_on_disk k (0, 0) below).body in
    omega (arith, (c.span_of-end.ensures.all k below (omega arith) low).1, c.grow.ensures.long, c.grow.new.blocks.ok.0, c.deref.ensures.len) in
    record {
      all_on_disk = subst (λ (n : ℕ). All (IsPlace n) places) (sym reads.calls.blocks) c.requires.all_on_disk;
      bodies = bodies;
      read = λ image told k below low. ap (λ (b : Image). block_at b (nth_body places k)) is ∙ c.in_ok-read_bodies.ensures.read image (sym reads.writes.same ∙ told) k below low;
      room = omega (arith, c.grow-2.ensures.long, c.min.ensures, ap length c.deref_mut-2.ensures.value);
    }
