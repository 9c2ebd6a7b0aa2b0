use Rattle.{mg_model.specs.Bytes.numbers_at, mg_show.specs.{StateText.words_text, Writing.Puts}}
use Rattle.mg_show.proofs.state.put_block.Given as goal

-- the words before this one are put
abbrev pub invariant-loop-k : goal.invariant-loop-k
invariant-loop-k g l = Puts g.K.Sink (words_text l.address (numbers_at l.block 0 l.k)) l.initial.sink l.sink l.initial.out l.out
