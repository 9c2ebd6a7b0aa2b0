use Rattle.{mg_model.specs.Print.hex_digits, mg_text.proofs.Texts.digits_more, std.proofs.Common.{◌≡◌, ◌+◌, ◌-◌, ◌*◌, ◌/◌, ◌++◌, ◌∙◌, drop, subst}}
use Rattle.std.proofs.Common.{rules, arith}
use Rattle.mg_text.proofs.replies.hex_digits.Goals as goal

pub loop-i-preserved : goal.loop-i-preserved
loop-i-preserved c =
    let i = c.loop-i.i in
    let next : 14 - 2 * i ≡ 16 - 2 * (i + 1) = omega arith in
    let here : 14 - 2 * i + 2 ≡ 16 - 2 * i = omega arith in
    record {
      size = search rules;
      same = subst (λ n. hex_digits n (c.loop-i.rest / 256) ++ drop n c.put_pair.new.digits ≡ hex_digits (16 - 2 * i) c.loop-i.rest ++ drop (16 - 2 * i) c.loop-i.digits) next
          (digits_more (14 - 2 * i) (16 - 2 * i) c.loop-i.rest c.loop-i.digits c.put_pair.new.digits here c.put_pair.ensures.pair)
          ∙ c.loop-i.invariant.same;
    }
