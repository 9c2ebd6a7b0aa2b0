use Rattle.mg_pages.proofs.Loaded.{AreBound}
use Rattle.mg_pages.proofs.loading.bind_entries.Given as goal

abbrev pub invariant-loop-j : goal.invariant-loop-j
invariant-loop-j l = AreBound l.fn.k l.j l.fn.block l.fn.frames l.frames
