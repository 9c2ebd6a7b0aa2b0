-- Words that spell no command.
use Rattle.{mg_document_session.specs.Commands.command_of, mg_io.specs.Arguments.arguments, std.proofs.Common.{◌≡◌, ◌≤◌, List, [], ◌∷◌, length, None}}
use Rattle.std.{proofs.Common.{refl, arith}, specs.{Prelude.String, declared.alloc.Global.Global}}

pub five_or_more : (words : List (String Global)) → 5 ≤ length words → command_of (arguments words) ≡ None
five_or_more [] h = absurd (omega (arith, h))
five_or_more (a ∷ []) h = absurd (omega (arith, h))
five_or_more (a ∷ b ∷ []) h = absurd (omega (arith, h))
five_or_more (a ∷ b ∷ c ∷ []) h = absurd (omega (arith, h))
five_or_more (a ∷ b ∷ c ∷ d ∷ []) h = absurd (omega (arith, h))
five_or_more (a ∷ b ∷ c ∷ d ∷ e ∷ words) h = refl

pub just_two : (words : List (String Global)) → 2 ≤ length words → length words ≤ 2 → command_of (arguments words) ≡ None
just_two [] h few = absurd (omega (arith, h))
just_two (a ∷ []) h few = absurd (omega (arith, h))
just_two (a ∷ b ∷ []) h few = refl
just_two (a ∷ b ∷ c ∷ words) h few = absurd (omega (arith, few))
