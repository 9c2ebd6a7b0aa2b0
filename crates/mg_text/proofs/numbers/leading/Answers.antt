use Rattle.{mg_model.specs.{Abbreviations.below_word, Words.{digit_of, value_from}}, mg_text.proofs.Leads.{front-digit, front-large, front-more}}
use Rattle.mg_text.proofs.{Leads.{front-none, front-past}, Values.{below_word-none, below_word-some, hex-more, hex-room}}
use Rattle.mg_text.proofs.numbers.leading.Goals.{else-count-eq0, else-loop-i-test, then-count-eq0, then-loop-i-test+in-None}
use Rattle.{mg_text.specs.Fronts.digits_front, std.proofs.Common.{◌<◌, inl, inr, get_or, length, min, ◌+◌, ◌*◌, ◌^◌, ◌≤◌, ap, option_map, rules}}
use Rattle.std.{proofs.{Common.{subst, sym, ◌∙◌, drop, arith}, lemmas.{Bool.ltb-true, List.Sums.prefix_len-drop_no}}, specs.List.prefix_len}
use Rattle.std.specs.Prelude.{is_some}
use Rattle.mg_text.proofs.numbers.leading.Goals as goal

pub returns-in_err-n-in-Some-clause-number : goal.returns-in_err-n-in-Some-clause-number
returns-in_err-n-in-Some-clause-number c =
    let large : 2 ^ 64 ≤ c.loop-i.n * c.args.base + c.in-Some.d = below_word-none (c.loop-i.n * c.args.base + c.in-Some.d) (c.in_err-n-in-Some.ensures) in
    ap (option_map (λ p. p.0)) c.from_residual.ensures
    ∙ sym (front-large c.args.base c.args.most c.loop-i.n c.loop-i.i c.in-Some.d c.args.bytes.now (omega arith) (omega arith) c.in-Some.ensures c.loop-i.invariant.same large)

pub with_digit-requires-clause-hexadecimal : goal.with_digit-requires-clause-hexadecimal
with_digit-requires-clause-hexadecimal c hex =
    let most = c.requires.most hex in hex-room c.loop-i.n c.loop-i.i (omega (arith, most)) (c.loop-i.invariant.bounded hex)

pub loop-i-preserved : goal.loop-i-preserved
loop-i-preserved c =
    let told = below_word-some (c.loop-i.n * c.args.base + c.in-Some.d) c.in_ok-n-in-Some.n c.in_ok-n-in-Some.ensures in
    record {
      same = c.loop-i.invariant.same
          ∙ ap below_word (front-digit c.args.base c.loop-i.n c.loop-i.i c.in-Some.d c.args.bytes.now (omega arith) c.in-Some.ensures
          ∙ ap (λ m. value_from c.args.base m (digits_front c.args.base (drop (c.loop-i.i + 1) c.args.bytes.now))) told.1);
      front = let more = front-more c.args.base c.loop-i.i c.in-Some.d c.args.bytes.now (omega arith) c.in-Some.ensures in let all = c.loop-i.invariant.front in omega (arith, more, all);
      at = search rules;
      small = omega (arith, told.0, told.1);
      bounded = λ hex. subst (λ m. m < 16 ^ (c.loop-i.i + 1)) told.1
          (hex-more c.args.base (get_or c.args.bytes.now c.loop-i.i 0) c.loop-i.n c.loop-i.i c.in-Some.d hex c.in-Some.ensures (c.loop-i.invariant.bounded hex));
    }

pub returns-then-digit_at-clause-number : goal.returns-then-digit_at-clause-number
returns-then-digit_at-clause-number c =
    let all = c.loop-i.invariant.front in
    let at = c.loop-i.invariant.at in
    let rest = prefix_len (λ b. is_some (digit_of c.args.base b)) (drop c.loop-i.i c.args.bytes.now) in
    elim c.loop-i-test.branch [
      | else-loop-i-test w ↦
          let over : min (length c.args.bytes.now) c.args.most ≤ c.loop-i.i = subst (λ limit. limit ≤ c.loop-i.i) c.min-i-end.ensures w.loop-i-test.false in
          elim c.if-count-eq0.branch [
            | then-count-eq0 z ↦ sym (front-past c.args.base c.args.most c.loop-i.i rest c.args.bytes.now all over (inl (omega arith)))
            | else-count-eq0 z ↦
                let more : 0 < rest = subst (λ i. 0 < prefix_len (λ b. is_some (digit_of c.args.base b)) (drop i c.args.bytes.now)) at
                (ltb-true 0 (prefix_len (λ b. is_some (digit_of c.args.base b)) (drop c.loop-i.count c.args.bytes.now)) (sym z.digit_at.ensures ∙ sym z.value-is ∙ c.if-digit_at.true)) in
                sym (front-past c.args.base c.args.most c.loop-i.i rest c.args.bytes.now all over (inr more))
          ]
      | then-loop-i-test+in-None w ↦
          let end = prefix_len-drop_no (λ b. is_some (digit_of c.args.base b)) c.args.bytes.now c.loop-i.i 0 (omega arith) (ap is_some (sym w.in-None.ensures)) in
          elim c.if-count-eq0.branch [
            | then-count-eq0 z ↦ sym (front-none c.args.base c.args.most c.args.bytes.now (omega (arith, all, at, end)))
            | else-count-eq0 z ↦
                let more : 0 < rest = subst (λ i. 0 < prefix_len (λ b. is_some (digit_of c.args.base b)) (drop i c.args.bytes.now)) at
                (ltb-true 0 (prefix_len (λ b. is_some (digit_of c.args.base b)) (drop c.loop-i.count c.args.bytes.now)) (sym z.digit_at.ensures ∙ sym z.value-is ∙ c.if-digit_at.true)) in
                absurd (omega (arith, end, more))
          ]
    ]
