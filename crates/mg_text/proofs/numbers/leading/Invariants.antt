use Rattle.{mg_model.specs.{Abbreviations.below_word, Words.{digit_of, value_from}}, mg_text.specs.Fronts.digits_front, std.proofs.Common.{◌≡◌, ◌+◌}}
use Rattle.std.{proofs.Common.{◌<◌, ◌^◌, drop}, specs.{List.prefix_len, Prelude.is_some}}
use Rattle.mg_text.proofs.numbers.leading.Given as goal

-- what was read and the digits that are left spell what all spell
abbrev pub invariant-loop-i : goal.invariant-loop-i
invariant-loop-i l = record {
  same : below_word (value_from l.base 0 (digits_front l.base l.bytes)) ≡ below_word (value_from l.base l.n (digits_front l.base (drop l.i l.bytes)));
  front : prefix_len (λ b. is_some (digit_of l.base b)) l.bytes ≡ l.i + prefix_len (λ b. is_some (digit_of l.base b)) (drop l.i l.bytes);
  at : l.count ≡ l.i;
  small : l.n < 2 ^ 64;
  bounded : l.base ≡ 16 → l.n < 16 ^ l.i;
}
