use Rattle.{mg_space.specs.Space.spans_in, std.proofs.Common.{◌≡◌, take}}
use Rattle.mg_space.proofs.space.spans.Given as goal

abbrev pub invariant-loop-i : goal.invariant-loop-i
invariant-loop-i l = l.spans.items ≡ spans_in (take l.i l.objects)
