use Rattle.{mg_rows.proofs.ObjectRows.head-spelled, std.proofs.Common.◌∙◌}
use Rattle.mg_rows.proofs.objects.add_head.Goals as goal

pub returns-clause-spelled : goal.returns-clause-spelled
returns-clause-spelled c =
    c.skip.ensures.value
    ∙ head-spelled c.args.row.now c.add_words-2.new.self c.add_words.new.self c.args.filling.now c.extension_words.result c.entries.result.now c.passwords.result.now c.base.result c.pages.result c.account.result
    c.requires c.add_words.ensures.value c.add_words-2.ensures.value c.base.ensures.value c.pages.ensures c.account.ensures c.passwords.ensures c.entries.ensures (rw c.ext.ensures at c.extension_words.ensures)
