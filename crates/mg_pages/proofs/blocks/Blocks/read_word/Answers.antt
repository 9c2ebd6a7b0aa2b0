use Rattle.{mg_model.specs.Bytes.number_at, std.proofs.Common.{◌*◌, ◌∙◌, ap}}
use Rattle.mg_pages.proofs.blocks.Blocks.read_word.Goals as goal

pub returns-in-Ok-clause-word : goal.returns-in-Ok-clause-word
returns-in-Ok-clause-word g c image told =
    c.word_at.ensures ∙ ap (λ bytes. number_at bytes (8 * c.args.index)) (c.in-Ok.ensures.block image told)
