use Rattle.{mg_model.specs.Print.hex_digits, std.proofs.Common.{◌≡◌, ◌++◌, ◌-◌, ◌*◌, drop, length}}
use Rattle.mg_text.proofs.replies.hex_digits.Given as goal

-- what is left of the word has the digits before those that are written
abbrev pub invariant-loop-i : goal.invariant-loop-i
invariant-loop-i l = record {
  size : length l.digits ≡ 16;
  same : hex_digits (16 - 2 * l.i) l.rest ++ drop (16 - 2 * l.i) l.digits ≡ hex_digits 16 l.word;
}
