use Rattle.{mg_model.specs.Access.pairs_of, mg_show.specs.WordText.words_read, std.proofs.Common.{ap, sym, ◌∙◌}}
use Rattle.mg_show.proofs.pages.list_read.Goals as goal

pub returns-then-is_held : goal.returns-then-is_held
returns-then-is_held c = c.list_in.ensures ∙ sym (ap (λ v. pairs_of (words_read v c.args.block.now)) c.if-is_held.true)
