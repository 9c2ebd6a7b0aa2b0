use Rattle.{mg_asm.{proofs.Stepwise.words_behind, specs.Assembled.words_of}, std.proofs.Common.{◌≡◌, ◌+◌, drop}}
use Rattle.mg_asm.proofs.assembling.words.Given as goal

-- the words so far, and those of the items that are left
abbrev pub invariant-loop-i : goal.invariant-loop-i
invariant-loop-i l = words_behind l.items l.words.items (l.i + 1) (drop l.i l.items) ≡ words_of l.items
