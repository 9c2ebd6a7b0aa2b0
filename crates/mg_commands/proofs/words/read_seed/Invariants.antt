use Rattle.mg_commands.proofs.Seed.{IsRead}
use Rattle.mg_commands.proofs.words.read_seed.Given as goal

abbrev pub invariant-loop-i : goal.invariant-loop-i
invariant-loop-i l = IsRead l.word l.seed l.i
