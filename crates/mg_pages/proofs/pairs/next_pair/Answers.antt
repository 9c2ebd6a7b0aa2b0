use Rattle.{mg_model.specs.Bytes.block_words, mg_pages.proofs.PairSteps.{count-more, none-more, word-there}, std.proofs.Common.{◌≡◌, ◌+◌, ◌-◌, ◌*◌}}
use Rattle.std.proofs.Common.{◌∙◌, arith, sym}
use Rattle.mg_pages.proofs.pairs.next_pair.Goals as goal

pub returns-then-counted_word-first-clause-found : goal.returns-then-counted_word-first-clause-found
returns-then-counted_word-first-clause-found g c =
    let j = c.loop-j.j in
    let here = word-there c.args.block.now (2 + 2 * j) c.counted_word.result (omega arith) c.counted_word.ensures.word in
    record {
      none_before = c.loop-j.invariant.none;
      is = (here ∙ c.if-counted_word-first.true, word-there c.args.block.now (3 + 2 * j) _ (omega arith) c.counted_word-then-counted_word-first.ensures.word);
    }

pub loop-j-preserved : goal.loop-j-preserved
loop-j-preserved g c =
    let j = c.loop-j.j in
    let was = c.loop-j.invariant in
    let here = word-there c.args.block.now (2 + 2 * j) c.counted_word.result (omega arith) c.counted_word.ensures.word in
    let next : j + 1 - c.args.from ≡ j - c.args.from + 1 = omega arith in
    record {
      none = none-more (block_words c.args.block.now) c.args.from j c.args.first was.none (λ hit. c.if-counted_word-first.false (sym here ∙ hit));
      words = count-more c.args.words.now c.loop-j.words c.counted_word.new.words (j - c.args.from) _ was.words c.counted_word.ensures.words next;
      ticks = omega arith;
    }

pub returns-clause-found : goal.returns-clause-found
returns-clause-found g c = record { none_before = λ k least below. c.loop-j.invariant.none k least (omega arith); is = tt }
