use Rattle.{mg_disk.specs.Disk.Image, mg_pages.{proofs.KeptWrites.AreKeptUpTo, specs.Kept.AreKept}, std.proofs.Common.{drop, ◌++◌}}
use Rattle.mg_pages.proofs.kept.keep_others.Given as goal

-- those up to this one are kept
abbrev pub invariant-loop-k : goal.invariant-loop-k
invariant-loop-k l = (r : Image) → AreKept l.first r (l.last ++ l.initial.cache) → AreKeptUpTo (drop l.k l.last) l.writes l.first r l.cache
