use Rattle.{mg_document.{proofs.Packs.word-more, specs.Documents.words_for}, std.proofs.Common.{◌-◌, ◌*◌, length, take, drop, ◌∙◌}}
use Rattle.std.proofs.lemmas.List.{take_rest}
use Rattle.mg_document.proofs.packing.words_of.Goals as goal

pub loop-k-preserved : goal.loop-k-preserved
loop-k-preserved c =
    let bytes = c.args.bytes.now in
    let place = 8 * c.loop-k.k in
    c.in_ok-push-2.ensures.items
    ∙ word-more bytes c.loop-k.words.items (take (length bytes - place) (drop place bytes)) (8 * words_for (length bytes)) c.loop-k.k c.word.result
    c.loop-k.invariant (take_rest bytes place) c.word.ensures
