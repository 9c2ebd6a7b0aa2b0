use Rattle.{mg_asm.proofs.Stepwise.{words-stepwise, words_behind}, std.proofs.Common.{rules, ap, ◌∙◌}}
use Rattle.mg_asm.proofs.assembling.words.Goals as goal

pub loop-i-init : goal.loop-i-init
loop-i-init c = ap (λ words. words_behind c.args.items.now words 1 c.args.items.now) (search rules) ∙ words-stepwise c.args.items.now
