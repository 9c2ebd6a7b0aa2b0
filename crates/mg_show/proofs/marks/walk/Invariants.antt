use Rattle.{mg_show.specs.{Marking.Learns, Shown.held_in, Walked.AreRanked}, std.proofs.Common.{◌≡◌, ℕ, ◌+◌, List, length}}
use Rattle.mg_show.proofs.marks.walk.Given as goal

-- what is reached in fewer steps has its rank
abbrev pub invariant-loop-k : goal.invariant-loop-k
invariant-loop-k g l = record {
  ranks : Learns g.D.Disk (held_in l.shown)
      (λ r. (bases : List ℕ) → AreRanked l.shown r bases 1 l.initial.ranks → AreRanked l.shown r bases (l.k + 1) l.ranks) l.initial.disk
      l.disk l.initial.out l.out;
  long : length l.ranks ≡ length l.initial.ranks;
}
