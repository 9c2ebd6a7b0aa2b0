use Rattle.{mg_asm.specs.Printed.printed, std.proofs.Common.{◌≡◌, take}}
use Rattle.mg_asm.proofs.printing.print.Given as goal

-- the words so far are printed
abbrev pub invariant-loop-word : goal.invariant-loop-word
invariant-loop-word l = l.out.items ≡ printed (take l.word-index l.words)
