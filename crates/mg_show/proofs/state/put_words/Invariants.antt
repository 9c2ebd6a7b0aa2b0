use Rattle.{mg_show.specs.{Shown.held_in, WordText.rows_text, Writing.PutsOf}, std.proofs.Common.{length, take}}
use Rattle.mg_show.proofs.state.put_words.Given as goal

-- the words of the objects before this one are put
abbrev pub invariant-loop-i : goal.invariant-loop-i
invariant-loop-i g l = PutsOf g.D.Disk g.K.Sink (held_in l.shown)
    (λ r. rows_text r (length l.shown.frames) l.shown.frames (take l.i l.shown.objects)) l.initial.disk l.disk l.initial.sink l.sink
    l.initial.out l.out
