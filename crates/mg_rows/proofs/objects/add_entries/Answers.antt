use Rattle.{mg_model.specs.{Bytes.words_bytes, BytesLemmas.length-words_bytes}, mg_rows.proofs.ObjectRows.padded}
use Rattle.mg_rows.proofs.objects.add_entries.Goals as goal

pub returns-clause-value : goal.returns-clause-value
returns-clause-value c =
    padded c.skip.new.self c.add_words.new.self c.args.filling.now (words_bytes c.args.entries.now) 128 _ c.add_words.ensures.value (length-words_bytes c.args.entries.now) c.skip.ensures.value
