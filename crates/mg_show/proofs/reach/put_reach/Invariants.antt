use Rattle.{mg_show.specs.{Reached.thread_reached, Shown.held_in, Writing.PutsOf}, std.proofs.Common.{◌≡◌, flat_map, length, take}}
use Rattle.mg_show.proofs.reach.put_reach.Given as goal

-- what the threads before this one reach is put
abbrev pub invariant-loop-i : goal.invariant-loop-i
invariant-loop-i g l = record {
  puts : PutsOf g.D.Disk g.K.Sink (held_in l.shown)
      (λ r. flat_map (thread_reached l.shown r) (take l.i l.shown.threads.items)) l.initial.disk l.disk l.initial.sink l.sink
      l.initial.out l.out;
  long : length l.bytes ≡ length l.shown.objects;
}
