use Rattle.{mg_model.specs.declared.instructions.Instr.Instr, mg_script.specs.{DecodedLemmas.{decoded-registers, decoded-word}, Encoded.HasRegisters}}
use Rattle.{mg_script.specs.Encoded.encoded, std.proofs.Common.{◌≡◌, IfSome, Option, sym, subst}}
use Rattle.mg_script.proofs.words.decode.Goals as goal

pub returns-clause-registers : goal.returns-clause-registers
returns-clause-registers c = subst (λ (o : Option Instr). IfSome o HasRegisters) (sym c.instruction.ensures) (decoded-registers c.args.word)

pub returns-clause-back : goal.returns-clause-back
returns-clause-back c = subst (λ (o : Option Instr). IfSome o (λ instr. encoded instr ≡ c.args.word)) (sym c.instruction.ensures) (decoded-word c.args.word)
