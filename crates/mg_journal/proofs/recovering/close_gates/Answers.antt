use Rattle.{mg_disk.specs.{BecomesLemmas.becomes-same, Reads.Becomes}, mg_journal.proofs.ClosingSteps.{begin_run, close_more, close_run, close_seen}}
use Rattle.mg_journal.{proofs.ClosingSteps.{none_closed, open_now, open_yet, still_now}, specs.Recovery.{AreOpen, ClosesUpTo}}
use Rattle.{mg_model.specs.Layout.segment_count, std.proofs.Common.{rules, refl, subst, ◌≡◌, ◌∙◌, arith}}
use Rattle.mg_journal.proofs.recovering.close_gates.Goals as goal

pub loop-segment-init : goal.loop-segment-init
loop-segment-init g c = record {
  blocks = refl;
  count = search rules;
  settled = λ pending. pending;
  gates = becomes-same (λ a. AreOpen 0 c.args.opened) _ _ refl c.requires.gates;
  shows = none_closed _ _ refl;
  run = λ pending image told total own. begin_run g.D.Disk total image c.args.disk.now told own (g.met.D.Disk.now_has_been c.args.disk.now) pending;
}

pub close_gate-requires-clause-known : goal.close_gate-requires-clause-known
close_gate-requires-clause-known g c = search (rules, open_now)

pub returns-in_err-close_gate-clause-any_moment : goal.returns-in_err-close_gate-clause-any_moment
returns-in_err-close_gate-clause-any_moment g c pending image told total own =
    let inv = c.loop-segment.invariant in
    close_run g.D.Disk total image c.args.disk.now told own c.loop-segment.segment c.loop-segment.disk c.close_gate.new.disk c.loop-segment-test.true inv.shows (inv.run pending image told total own) (c.close_gate.ensures.any_moment (inv.settled pending))

pub loop-segment-preserved : goal.loop-segment-preserved
loop-segment-preserved g c =
    let inv = c.loop-segment.invariant in
    let gate = c.close_gate.ensures in
    record {
      blocks = gate.calls.blocks ∙ inv.blocks;
      count = search rules;
      settled = λ pending. c.in_ok-close_gate.ensures.settled (inv.settled pending);
      gates = open_yet c.loop-segment.segment c.args.opened _ _ _ inv.gates gate.may;
      shows = close_more c.loop-segment.segment c.loop-segment-test.true _ _ _ inv.shows c.in_ok-close_gate.ensures.closed;
      run = λ pending image told total own.
          close_run g.D.Disk total image c.args.disk.now told own c.loop-segment.segment c.loop-segment.disk c.close_gate.new.disk c.loop-segment-test.true inv.shows (inv.run pending image told total own) (gate.any_moment (inv.settled pending));
    }

pub returns-clause-any_moment : goal.returns-clause-any_moment
returns-clause-any_moment g c = c.loop-segment.invariant.run

pub returns-clause-closed : goal.returns-clause-closed
returns-clause-closed g c =
    let end : c.loop-segment.segment ≡ segment_count = let past = c.loop-segment-test.false in let last = c.loop-segment.auto.segment-end in omega arith in
    subst (λ n. Becomes (ClosesUpTo n) (g.D.Disk.seen c.args.disk.now) (g.D.Disk.seen c.loop-segment.disk)) end c.loop-segment.invariant.shows

pub returns-in_err-close_gate-clause-still : goal.returns-in_err-close_gate-clause-still
returns-in_err-close_gate-clause-still g c = close_seen c.loop-segment.segment c.loop-segment-test.true _ _ _ c.loop-segment.invariant.shows c.close_gate.ensures.may

pub returns-clause-still : goal.returns-clause-still
returns-clause-still g c = still_now c.loop-segment.segment _ _ c.loop-segment.invariant.shows
