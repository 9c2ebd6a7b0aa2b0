-- Words that spell no command.
use Rattle.{mg_asm_session.specs.Commands.command_of, mg_io.specs.Arguments.arguments, std.proofs.Common.{◌≡◌, ◌≤◌, List, [], ◌∷◌, length, None}}
use Rattle.std.{proofs.Common.{refl, arith}, specs.{Prelude.String, declared.alloc.Global.Global}}

pub three_or_more : (words : List (String Global)) → 3 ≤ length words → command_of (arguments words) ≡ None
three_or_more [] h = absurd (omega (arith, h))
three_or_more (a ∷ []) h = absurd (omega (arith, h))
three_or_more (a ∷ b ∷ []) h = absurd (omega (arith, h))
three_or_more (a ∷ b ∷ c ∷ words) h = refl
