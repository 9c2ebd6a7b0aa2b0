use Rattle.{mg_model.specs.Bytes.numbers_at, mg_show.{proofs.WordTexts.{block_text-all, numbers_text-more}, specs.StateText.words_text}}
use Rattle.{mg_show.specs.{WordText.word_text, WritingLemmas.{puts_same, puts_then}}, std.proofs.Common.{◌≡◌, ◌+◌, ◌*◌, ◌++◌, ap, arith, sym, ◌∙◌}}
use Rattle.mg_show.proofs.state.put_block.Goals as goal

pub loop-k-preserved : goal.loop-k-preserved
loop-k-preserved g c =
    let address = c.args.address in
    let block = c.args.block.now in
    let n = c.loop-k.k in
    puts_same g.K.Sink (ap (λ w. words_text address (numbers_at block 0 n) ++ word_text (address + 8 * n) w) c.number_at-word.ensures ∙ sym (numbers_text-more address block n)) (puts_then g.K.Sink c.loop-k.invariant c.put_word.ensures)

pub returns : goal.returns
returns g c =
    let all : c.loop-k.k ≡ 512 = let past = c.loop-k-test.false in let end = c.loop-k.auto.k-end in omega arith in
    puts_same g.K.Sink (block_text-all c.args.address c.args.block.now c.loop-k.k all) c.loop-k.invariant
