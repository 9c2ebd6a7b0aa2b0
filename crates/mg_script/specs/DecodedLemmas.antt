-- The fields of an instruction that a row of the table gives.
use Rattle.std.proofs.Common.{◌≡◌, ℕ, ◌/◌, ◌%◌, ◌^◌, ◌==◌, ◌&&◌, Bool, true, false, Option, Some, None, IfSome}
use Rattle.std.proofs.{Common.{if◌then◌else◌, refl, ◌∙◌, arith}, lemmas.Bool.Decides.nat_tests}
use Rattle.mg_model.specs.{Script.{decoded, instruction_of, is_register, where_so}, declared.instructions.Instr.Instr}
use Rattle.mg_script.specs.Encoded.{HasRegisters, encoded, word_of}
use Rattle.mg_model.specs.declared.instructions.Instr.TheVariants as op

-- an instruction that has its registers and is spelled by these fields
record IsSpelling (number a b c i : ℕ) (instr : Instr) : Type 0 where
  pub registers : HasRegisters instr
  pub word : encoded instr ≡ word_of number a b c i

-- a row of the table, and those after it
given : (P : Instr → Type 0) (fits : Bool) (instr : Instr) → (fits ≡ true → P instr) → IfSome (where_so fits instr) P
given P true instr h = h refl
given P false instr h = tt

here_or : (P : Instr → Type 0) (here fits : Bool) (instr : Instr) (more : Option Instr) → (here ≡ true → fits ≡ true → P instr) → IfSome more P
    → IfSome (if here then where_so fits instr else more) P
here_or P true fits instr more h behind = given P fits instr (h refl)
here_or P false fits instr more h behind = behind

instruction_of-spells : (number a b c i : ℕ) → IfSome (instruction_of number a b c i) (IsSpelling number a b c i)
instruction_of-spells number a b c i =
    let P = λ (instr : Instr). IsSpelling number a b c i instr in
    here_or P (number == 0) (a == 0 && b == 0 && c == 0 && i == 0) op.Halt _ (λ n f. record { registers = tt; word = grind (arith, nat_tests) })
    (here_or P (number == 1) (is_register a && b == 0 && c == 0) (op.Set a i) _ (λ n f. record { registers = grind (arith, nat_tests); word = grind (arith, nat_tests) })
    (here_or P (number == 2) (is_register a && b == 0 && c == 0) (op.High a i) _ (λ n f. record { registers = grind (arith, nat_tests); word = grind (arith, nat_tests) })
    (here_or P (number == 3) (is_register a && is_register b && is_register c && i == 0) (op.Add a b c) _ (λ n f. record { registers = (grind (arith, nat_tests), grind (arith, nat_tests), grind (arith, nat_tests)); word = grind (arith, nat_tests) })
    (here_or P (number == 4) (is_register a && is_register b && is_register c && i == 0) (op.Sub a b c) _ (λ n f. record { registers = (grind (arith, nat_tests), grind (arith, nat_tests), grind (arith, nat_tests)); word = grind (arith, nat_tests) })
    (here_or P (number == 5) (is_register a && is_register b && is_register c && i == 0) (op.Lt a b c) _ (λ n f. record { registers = (grind (arith, nat_tests), grind (arith, nat_tests), grind (arith, nat_tests)); word = grind (arith, nat_tests) })
    (here_or P (number == 6) (is_register a && is_register b && c == 0) (op.Load a b i) _ (λ n f. record { registers = (grind (arith, nat_tests), grind (arith, nat_tests)); word = grind (arith, nat_tests) })
    (here_or P (number == 7) (is_register a && is_register b && c == 0) (op.Store a b i) _ (λ n f. record { registers = (grind (arith, nat_tests), grind (arith, nat_tests)); word = grind (arith, nat_tests) })
    (here_or P (number == 8) (a == 0 && b == 0 && c == 0) (op.Jump i) _ (λ n f. record { registers = tt; word = grind (arith, nat_tests) })
    (here_or P (number == 9) (is_register a && b == 0 && c == 0) (op.Jz a i) _ (λ n f. record { registers = grind (arith, nat_tests); word = grind (arith, nat_tests) })
    (here_or P (number == 10) (is_register a && b == 0 && c == 0) (op.Jnz a i) _ (λ n f. record { registers = grind (arith, nat_tests); word = grind (arith, nat_tests) })
    (here_or P (number == 11) (is_register a && is_register b && c == 0 && i == 0) (op.Pdx a b) _ (λ n f. record { registers = (grind (arith, nat_tests), grind (arith, nat_tests)); word = grind (arith, nat_tests) })
    (here_or P (number == 12) (a == 0 && b == 0 && c == 0 && i == 0) op.Ret _ (λ n f. record { registers = tt; word = grind (arith, nat_tests) })
    (here_or P (number == 13) (a == 0 && b == 0 && c == 0 && i == 0) op.Yield _ (λ n f. record { registers = tt; word = grind (arith, nat_tests) })
    (here_or P (number == 14) (a == 0 && b == 0 && c == 0 && i == 0) op.Sys _ (λ n f. record { registers = tt; word = grind (arith, nat_tests) }) tt))))))))))))))

wider : (P Q : Instr → Type 0) → ((instr : Instr) → P instr → Q instr) → (o : Option Instr) → IfSome o P → IfSome o Q
wider P Q h None some = tt
wider P Q h (Some instr) some = h instr some

pub decoded-registers : (w : ℕ) → IfSome (decoded w) HasRegisters
decoded-registers w =
    let number = w % 2 ^ 8 in
    let a = w / 2 ^ 8 % 2 ^ 8 in
    let b = w / 2 ^ 16 % 2 ^ 8 in
    let c = w / 2 ^ 24 % 2 ^ 8 in
    let i = w / 2 ^ 32 in
    wider (IsSpelling number a b c i) HasRegisters (λ instr h. h.registers) (decoded w) (instruction_of-spells number a b c i)

-- the word of its fields
parts : (w : ℕ) → word_of (w % 2 ^ 8) (w / 2 ^ 8 % 2 ^ 8) (w / 2 ^ 16 % 2 ^ 8) (w / 2 ^ 24 % 2 ^ 8) (w / 2 ^ 32) ≡ w
parts w = omega arith

pub decoded-word : (w : ℕ) → IfSome (decoded w) (λ instr. encoded instr ≡ w)
decoded-word w =
    let number = w % 2 ^ 8 in
    let a = w / 2 ^ 8 % 2 ^ 8 in
    let b = w / 2 ^ 16 % 2 ^ 8 in
    let c = w / 2 ^ 24 % 2 ^ 8 in
    let i = w / 2 ^ 32 in
    wider (IsSpelling number a b c i) (λ instr. encoded instr ≡ w) (λ instr h. h.word ∙ parts w) (decoded w) (instruction_of-spells number a b c i)
