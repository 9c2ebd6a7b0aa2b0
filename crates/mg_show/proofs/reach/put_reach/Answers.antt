use Rattle.{mg_model.specs.{Ranges.IsObjectRow, State.ObjectRow}, mg_objects.specs.Held.AreApart, mg_show.proofs.Drawing.slots-last}
use Rattle.mg_show.{proofs.Reaching.{thread-reached, reach_same}, specs.{Reached.thread_reached, WritingLemmas.{flat_more, of_behind, of_put}}}
use Rattle.{mg_show.specs.WritingLemmas.{of_same, of_then, puts_none}, std.proofs.Common.{ℕ, ◌++◌, ◌≤◌, ◌<◌, ap, arith, flat_map, length, subst}}
use Rattle.std.{proofs.{Common.{take, ◌∙◌}, lemmas.List.take_all}, specs.Prelude.All}
use Rattle.mg_show.proofs.reach.put_reach.Goals as goal

pub loop-i-init : goal.loop-i-init
loop-i-init g c = record {
  puts = of_put g.D.Disk g.K.Sink (g.met.D.Disk.now_has_been c.args.disk.now) (puts_none g.K.Sink c.args.sink.now c.args.out.now);
  long = c.requires.long;
}

pub loop-i-preserved : goal.loop-i-preserved
loop-i-preserved g c =
    let shown = c.args.shown.now in
    let threads = shown.threads.items in
    let i = c.loop-i.i in
    let thread = c.index-thread.result.now in
    let below : i < length threads = let t = c.loop-i-test.true in omega arith in
    record {
      puts =
          of_same g.D.Disk g.K.Sink
          (λ r. ap (λ x. flat_map (thread_reached shown r) (take i threads) ++ thread_reached shown r x) c.index-thread.ensures
          ∙ flat_more (thread_reached shown r) threads i thread below)
          (of_then g.D.Disk g.K.Sink c.loop-i.invariant.puts (of_behind g.D.Disk g.K.Sink c.mark_lists.ensures.learns.reads c.put_marked.ensures
          (λ none r told. thread-reached shown r thread c.slots.result.now c.clear.new.bytes c.mark_lists.new.bytes
          (slots-last thread.1.frames c.last-last.result c.slots.result.now c.last-last.ensures c.slots.ensures) c.clear.ensures.zeros
          (c.mark_lists.ensures.learns.is none r told))));
      long = c.mark_lists.ensures.long ∙ c.clear.ensures.long ∙ c.loop-i.invariant.long;
    }

pub returns : goal.returns
returns g c =
    let shown = c.args.shown.now in
    let threads = shown.threads.items in
    let same = c.objects.ensures in
    let end : length threads ≤ c.loop-i.i = let past = c.loop-i-test.false in omega arith in
    let rows = subst (All (λ (o : ℕ × ObjectRow). IsObjectRow o.1)) same c.keep_rules.ensures.rows in
    of_same g.D.Disk g.K.Sink
    (λ r. ap (flat_map (thread_reached shown r)) (take_all c.loop-i.i threads end)
    ∙ reach_same shown r rows (subst AreApart same c.keep_rules.ensures.apart) c.requires.placed.rise)
    c.loop-i.invariant.puts
