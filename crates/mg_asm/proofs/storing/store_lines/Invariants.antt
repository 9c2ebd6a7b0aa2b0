use Rattle.{mg_asm.specs.Stored.store_lines, std.proofs.Common.{◌≡◌, take}}
use Rattle.mg_asm.proofs.storing.store_lines.Given as goal

-- the lines of the words so far are there
abbrev pub invariant-loop-i : goal.invariant-loop-i
invariant-loop-i l = l.text.items ≡ store_lines l.thread l.address (take l.i l.words)
