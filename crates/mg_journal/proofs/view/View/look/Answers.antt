use Rattle.{mg_disk.specs.{Disk.Image, Runs.nothing_then}, mg_faults.specs.Faults.{count_then, then_rose}, mg_journal.proofs.Bodies.places_since-last}
use Rattle.mg_journal.{proofs.Bodies.{segments_fit-more, segments_unfit}, specs.{JournalLemmas.{replay-none, replay-some}, Newest.HasLast}}
use Rattle.mg_journal.specs.{Places.{places_of, places_since}, declared.faults.ViewFault.TheVariants.{Damaged, Disk}}
use Rattle.{mg_model.specs.{Abbreviations.segments_fit, Layout.segment_count}, std.proofs.Common.{◌≡◌, Result, Err, ◌+◌, ◌++◌, ◌∙◌, ℕ, suc, ap}}
use Rattle.std.{proofs.Common.{arith, refl, subst, sym}, specs.Prelude.IsSome}
use Rattle.mg_journal.proofs.view.View.look.Goals as goal

abbrev fails : {E : Type 0} (T : Type 0) → E → Result T E
fails T e = Err e

same_fault : {S T E : Type 0} (e f : E) → fails S e ≡ fails S f → fails T e ≡ fails T f
same_fault {S} {T} e f is = let same : e ≡ f = cc in ap (fails T) same

one_more : (image : Image) (s : ℕ) → places_since image 0 s ++ places_of image s ≡ places_since image 0 (s + 1)
one_more image s =
    let at : s ≡ 0 + s = omega arith in
    let next : suc s ≡ s + 1 = omega arith in
    ap (λ t. places_since image 0 s ++ places_of image t) at
    ∙ sym (places_since-last image 0 s)
    ∙ ap (places_since image 0) next

pub returns-in-Err-look_segment-clause-damaged : goal.returns-in-Err-look_segment-clause-damaged
returns-in-Err-look_segment-clause-damaged g c is image told =
    let now = c.loop-segment.invariant.writes.same ∙ told in
    replay-none c.args.total image (segments_unfit c.args.total image c.loop-segment.segment segment_count c.loop-segment-test.true (c.in-Err-look_segment.ensures.damaged (same_fault c.in-Err-look_segment.fault Damaged is) image now))

pub returns-in-Err-look_segment-clause-reads : goal.returns-in-Err-look_segment-clause-reads
returns-in-Err-look_segment-clause-reads g c =
    let inv = c.loop-segment.invariant in
    let reads = c.in-Err-look_segment.ensures.reads in
    record {
      writes = nothing_then g.D.Disk c.args.disk.now c.loop-segment.disk c.look_segment.new.disk inv.writes reads.writes;
      calls = record {
        count = count_then _ _ _ _ _ _ inv.count reads.calls.count;
        blocks = reads.calls.blocks ∙ inv.blocks;
        cause = λ is. then_rose _ _ _ _ _ _ inv.count (reads.calls.cause (same_fault c.in-Err-look_segment.fault Disk is));
      };
    }

pub loop-segment-preserved : goal.loop-segment-preserved
loop-segment-preserved g c =
    let inv = c.loop-segment.invariant in
    let look = c.in-Ok-look_segment.ensures in
    let s = c.loop-segment.segment in
    record {
      fits = λ image told. segments_fit-more c.args.total image s (inv.fits image told) (look.fits image (inv.writes.same ∙ told));
      newest = λ image told. subst (λ p. HasLast p c.look_segment.new.table) (one_more image s) (look.newest image (inv.writes.same ∙ told) (places_since image 0 s) (inv.newest image told));
      fit = look.fit inv.fit;
      few = omega (arith, look.at_most_160_more, inv.few);
      writes = nothing_then g.D.Disk c.args.disk.now c.loop-segment.disk c.look_segment.new.disk inv.writes look.reads.writes;
      count = count_then _ _ _ _ _ _ inv.count look.reads.calls.count;
      blocks = look.reads.calls.blocks ∙ inv.blocks;
    }

pub returns-clause-fits : goal.returns-clause-fits
returns-clause-fits g c image told =
    let inv = c.loop-segment.invariant in
    let end : c.loop-segment.segment ≡ segment_count = let past = c.loop-segment-test.false in let last = c.loop-segment.auto.segment-end in omega arith in
    record {
      fit = ap (segments_fit c.args.total image 0) (sym end) ∙ inv.fits image told;
      newest = subst (λ n. HasLast (places_since image 0 n) c.loop-segment.table) end (inv.newest image told);
    }

pub returns-clause-replayed : goal.returns-clause-replayed
returns-clause-replayed g c image told =
    let end : c.loop-segment.segment ≡ segment_count = let past = c.loop-segment-test.false in let last = c.loop-segment.auto.segment-end in omega arith in
    subst IsSome (sym (replay-some c.args.total image (ap (segments_fit c.args.total image 0) (sym end) ∙ c.loop-segment.invariant.fits image told))) refl
