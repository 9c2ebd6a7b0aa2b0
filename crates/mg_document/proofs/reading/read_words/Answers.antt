use Rattle.{mg_document.{proofs.Steps.{behind-missing, behind-no_word, behind-word}, specs.Replies.ended}, std.proofs.Common.{Err, sym, ap, ◌∙◌}}
use Rattle.std.proofs.Common.{arith, rules}
use Rattle.mg_document.proofs.reading.read_words.Goals as goal

pub returns-in-None-clause-fault : goal.returns-in-None-clause-fault
returns-in-None-clause-fault c =
    λ _.
    sym c.loop-k.invariant
    ∙ behind-missing c.loop-k.bytes.items c.loop-k.k c.args.count (ended c.loop-k.rest.now) (omega arith) c.in-None.ensures.none
    ∙ ap (λ f. Err f) (sym c.fault.ensures)

pub returns-in-None-word_told-clause-fault : goal.returns-in-None-word_told-clause-fault
returns-in-None-word_told-clause-fault c =
    λ _.
    sym c.loop-k.invariant
    ∙ behind-no_word c.loop-k.bytes.items c.loop-k.k c.args.count (ended c.loop-k.rest.now) (ended c.in-Some.next.1.now) c.in-Some.next.0.now (omega arith) c.in-Some.ensures.split c.in-None-word_told.ensures
    ∙ ap (λ f. Err f) (sym c.fault-in-None-word_told.ensures)

pub loop-k-preserved : goal.loop-k-preserved
loop-k-preserved c =
    behind-word c.loop-k.bytes.items c.extend_from_slice.new.self.items c.loop-k.k c.args.count c.in-Some-word_told.word (ended c.loop-k.rest.now) (ended c.in-Some.next.1.now) c.in-Some.next.0.now
    (omega arith) c.in-Some.ensures.split c.in-Some-word_told.ensures (search rules)
    ∙ c.loop-k.invariant
