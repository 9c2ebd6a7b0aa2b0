use Rattle.{mg_model.specs.Print.hex_digit, mg_text.proofs.Tables.{first-of-pair, second-of-pair}, std.proofs.Common.{◌≡◌, ◌+◌, ◌%◌, set, arith}}
use Rattle.std.proofs.{Common.length-set, lemmas.List.{set_comm, drop-set}}
use Rattle.mg_text.proofs.replies.put_pair.Goals as goal

pub returns-clause-pair : goal.returns-clause-pair
returns-clause-pair c =
    let at = c.args.at in
    let digits = c.args.digits.now in
    let byte = c.args.byte in
    let e : at + 1 + 1 ≡ at + 2 = omega arith in
    rw (first-of-pair byte c.requires.byte, second-of-pair byte c.requires.byte, set_comm digits at (at + 1) _ _ (λ x. omega arith), drop-set (set digits (at + 1) (hex_digit (byte % 16))) at _ (omega (arith, length-set digits (at + 1) (hex_digit (byte % 16)))), drop-set digits (at + 1) _ (omega arith), e)
