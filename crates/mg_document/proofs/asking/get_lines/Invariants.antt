use Rattle.{mg_document.specs.Asked.load_lines, std.proofs.Common.◌≡◌}
use Rattle.mg_document.proofs.asking.get_lines.Given as goal

-- the lines so far
abbrev pub invariant-loop-i : goal.invariant-loop-i
invariant-loop-i l = l.text.items ≡ load_lines l.thread l.address l.i
