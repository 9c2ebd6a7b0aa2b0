use Rattle.{mg_show.specs.{Shown.held_in, WordText.pages_text, Writing.PutsOf}, std.proofs.Common.length}
use Rattle.mg_show.proofs.state.put_pages.Given as goal

-- the words of the pages before this one are put
abbrev pub invariant-loop-i : goal.invariant-loop-i
invariant-loop-i g l = PutsOf g.D.Disk g.K.Sink (held_in l.shown)
    (λ r. pages_text r (length l.shown.frames) l.shown.frames l.first l.i) l.initial.disk l.disk l.initial.sink l.sink l.initial.out l.out
