use Rattle.mg_text.proofs.Letters.{bit-free, rights_from-none, rights_from-twice, rights_from-more, rights_of-some, rights-made, bit-some}
use Rattle.std.proofs.Common.{refl, sym, ◌∙◌, arith}
use Rattle.mg_text.proofs.rights.read_rights.Goals as goal

pub loop-b-init : goal.loop-b-init
loop-b-init c = record { same = refl; few = omega arith; some = omega arith }

pub returns-in_err-weight : goal.returns-in_err-weight
returns-in_err-weight c =
    c.from_residual.ensures
    ∙ sym (rights_of-some c.loop-b.b-index c.args.word.now (omega arith) ∙ c.loop-b.invariant.same
    ∙ rights_from-none c.loop-b.bits c.loop-b.b-index c.args.word.now (omega arith) c.in_err-weight.ensures.value)

pub returns-then-has_bit : goal.returns-then-has_bit
returns-then-has_bit c =
    sym (rights_of-some c.loop-b.b-index c.args.word.now (omega arith) ∙ c.loop-b.invariant.same
    ∙ rights_from-twice c.loop-b.bits c.loop-b.b-index c.in_ok-weight.weight c.args.word.now (omega arith) c.in_ok-weight.ensures.value (sym c.has_bit.ensures ∙ c.if-has_bit.true))

pub loop-b-preserved : goal.loop-b-preserved
loop-b-preserved c = record {
  same = c.loop-b.invariant.same
      ∙ rights_from-more c.loop-b.bits c.loop-b.b-index c.in_ok-weight.weight c.args.word.now (omega arith) c.in_ok-weight.ensures.value (sym c.has_bit.ensures ∙ c.if-has_bit.false);
  few = bit-free c.loop-b.bits c.in_ok-weight.weight c.in_ok-weight.ensures.bit c.loop-b.invariant.few (sym c.has_bit.ensures ∙ c.if-has_bit.false);
  some = let s = c.loop-b.invariant.some in let one = bit-some c.in_ok-weight.weight c.in_ok-weight.ensures.bit in omega arith;
}

pub returns : goal.returns
returns c =
    rights-made c.new.result c.loop-b.bits c.loop-b.b-index c.args.word.now c.new.ensures.given c.new.ensures.is_some c.loop-b.invariant.same (omega arith)
    c.loop-b.invariant.few c.loop-b.invariant.some
