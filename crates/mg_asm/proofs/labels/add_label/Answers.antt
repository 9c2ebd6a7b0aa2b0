use Rattle.{mg_asm.proofs.Placed.{keeps-label, keeps-other, on_ok_map}, std.proofs.Common.refl}
use Rattle.mg_asm.proofs.labels.add_label.Goals as goal

pub returns-in-Label : goal.returns-in-Label
returns-in-Label c = on_ok_map c.add.result (keeps-label c.args.labels.now c.add.new.labels c.args.item.now c.in-Label.name c.args.place c.in-Label.is) c.add.ensures

pub returns-in-Blank : goal.returns-in-Blank
returns-in-Blank c = keeps-other c.args.labels.now c.args.item.now c.args.place (λ name. rw c.in-Blank.is refl)

pub returns-in-Word : goal.returns-in-Word
returns-in-Word c = keeps-other c.args.labels.now c.args.item.now c.args.place (λ name. rw c.in-Word.is refl)

pub returns-in-Jump : goal.returns-in-Jump
returns-in-Jump c = keeps-other c.args.labels.now c.args.item.now c.args.place (λ name. rw c.in-Jump.is refl)
