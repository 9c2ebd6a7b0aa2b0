use Rattle.{mg_commands.proofs.Seed.{seed-start, seed-next}, std.proofs.Common.{refl, sym, ◌∙◌}}
use Rattle.mg_commands.proofs.words.read_seed.Goals as goal

pub loop-i-init : goal.loop-i-init
loop-i-init c = seed-start _ _ c.if-word-ne64.false refl

pub loop-i-preserved : goal.loop-i-preserved
loop-i-preserved c =
    seed-next c.args.word.now c.loop-i.seed c.loop-i.i c.in_ok-seed.field-0 c.loop-i.invariant c.loop-i-test.true (sym c.byte.ensures ∙ c.in_ok-seed.was)
