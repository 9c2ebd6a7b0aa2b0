-- An instruction keeps a thread's row in its rules: registers stay words, and the pc the address of a word.
use Rattle.{mg_laws.proofs.KeepsRows.KeepsRow, mg_model.specs.{Abbreviations.{advanced, refusal_number}, Ranges.{IsThreadRow, IsWord}}}
use Rattle.mg_model.specs.{Script.{decoded, instruction_of, jump_by, jumped, register, where_so, with_register, word_end}, State.ThreadRow}
use Rattle.mg_model.specs.{Turn.with_registers, declared.{instructions.Instr.Instr, replies.Refusal.Refusal, threads.ThrState.ThrState}}
use Rattle.std.proofs.Common.{ℕ, ◌+◌, ◌/◌, ◌%◌, ◌^◌, ◌<◌, ◌≡◌, Bool, true, false, eqb, ltb, List, [], ◌∷◌, get_or, Option, Some, refl, ◌∙◌, subst}
use Rattle.std.proofs.{Common.{arith, All, length-set}, Math.Nat.mod-lt, lemmas.{Bool.{cases_lt, cond_both}, List.{get_or_past, Elements.All-get_or}}}
use Rattle.std.{proofs.lemmas.{List.Elements.{All-head, All-set, All-tail}, Option.same_Some}, specs.Option.ForSome}
use Rattle.mg_model.specs.declared.instructions.Instr.TheVariants as op
use Rattle.mg_model.specs.declared.replies.Refusal.TheVariants as refusal

-- a number in a list of words, also past its end
pub word-in_list : (words : List ℕ) (k : ℕ) → All IsWord words → IsWord (get_or words k 0)
word-in_list words k all = grind (arith, All-get_or, get_or_past, cases_lt)

pub register-word : (row : ThreadRow) (k : ℕ) → IsThreadRow row → IsWord (register row k)
register-word row k is = word-in_list row.regs k is.registers

pub kept_same : (row : ThreadRow) → IsThreadRow row → KeepsRow row row
kept_same row is = record { row = is; birth = refl; creator = refl }

pub kept_register : (row next : ThreadRow) (k value : ℕ) → KeepsRow row next → IsWord value → KeepsRow row (with_register next k value)
kept_register row next k value kept word =
    let is : IsThreadRow next = kept.row in
    record {
      row = record {
        birth = is.birth;
        creator = is.creator;
        pc = is.pc;
        aligned = is.aligned;
        eight = length-set next.regs k value ∙ is.eight;
        registers = All-set IsWord next.regs k value word is.registers;
        some_frame = is.some_frame;
        few_frames = is.few_frames;
        frames = is.frames;
        bottom = is.bottom;
      };
      birth = kept.birth;
      creator = kept.creator;
    }

pub kept_pc : (row next : ThreadRow) (pc : ℕ) → KeepsRow row next → IsWord pc → pc % 8 ≡ 0 → KeepsRow row (record next { pc = pc })
kept_pc row next pc kept word aligned = grind arith

pub kept_state : (row next : ThreadRow) (state : ThrState) → KeepsRow row next → KeepsRow row (record next { state = state })
kept_state row next state kept = grind arith

-- a sum of two multiples of 8, modulo the end of words
sum-aligned : (a b : ℕ) → a % 8 ≡ 0 → b % 8 ≡ 0 → (a + b) % 2 ^ 64 % 8 ≡ 0
sum-aligned a b left right = omega arith

pub advanced-keeps : (row : ThreadRow) → IsThreadRow row → KeepsRow row (advanced row)
advanced-keeps row is = kept_pc row row ((row.pc + 8) % word_end) (kept_same row is) (mod-lt _ (omega arith)) (sum-aligned row.pc 8 is.aligned refl)

jump_by-aligned : (i : ℕ) → jump_by i % 8 ≡ 0
jump_by-aligned i = cond_both (ltb i (2 ^ 31)) _ _ (λ n. n % 8 ≡ 0) (λ _. omega arith) (λ _. omega arith)

pub jumped-keeps : (row next : ThreadRow) (here i : ℕ) → KeepsRow row next → here % 8 ≡ 0 → KeepsRow row (jumped next here i)
jumped-keeps row next here i kept aligned = kept_pc row next ((here + jump_by i) % word_end) kept (mod-lt _ (omega arith)) (sum-aligned here (jump_by i) aligned (jump_by-aligned i))

-- the values of a reply
pub kept_registers : (row next : ThreadRow) (k : ℕ) (values : List ℕ) → KeepsRow row next → All IsWord values → KeepsRow row (with_registers next k values)
kept_registers row next k [] kept all = kept
kept_registers row next k (value ∷ values) kept all =
    grind (arith, (kept_registers row (with_register next k value) (k + 1) values (kept_register row next k value kept (All-head IsWord value values all)) (All-tail IsWord value values all)))

pub refusal_number-word : (word : Refusal) → IsWord (refusal_number word)
refusal_number-word refusal.Syntax = omega arith
refusal_number-word _ = omega arith

-- an immediate has 32 bits
abbrev pub HasImmediate : Instr → Type 0
HasImmediate (op.Set a i) = i < 2 ^ 32
HasImmediate (op.High a i) = i < 2 ^ 32
HasImmediate _ = Unit {0}

so : (test : Bool) (instr : Instr) → HasImmediate instr → ForSome (where_so test instr) HasImmediate
so true instr has = λ other same. subst HasImmediate (same_Some _ _ same) has
so false instr has = λ other same. absurd (cc)

abbrev MayHave : Option Instr → Type 0
MayHave o = ForSome o HasImmediate

instruction_of-immediate : (word a b c i : ℕ) → i < 2 ^ 32 → MayHave (instruction_of word a b c i)
instruction_of-immediate word a b c i small =
    cond_both (eqb word 0) _ _ MayHave (λ _. so _ op.Halt tt) (λ _.
    cond_both (eqb word 1) _ _ MayHave (λ _. so _ (op.Set a i) small) (λ _.
    cond_both (eqb word 2) _ _ MayHave (λ _. so _ (op.High a i) small) (λ _.
    cond_both (eqb word 3) _ _ MayHave (λ _. so _ (op.Add a b c) tt) (λ _.
    cond_both (eqb word 4) _ _ MayHave (λ _. so _ (op.Sub a b c) tt) (λ _.
    cond_both (eqb word 5) _ _ MayHave (λ _. so _ (op.Lt a b c) tt) (λ _.
    cond_both (eqb word 6) _ _ MayHave (λ _. so _ (op.Load a b i) tt) (λ _.
    cond_both (eqb word 7) _ _ MayHave (λ _. so _ (op.Store a b i) tt) (λ _.
    cond_both (eqb word 8) _ _ MayHave (λ _. so _ (op.Jump i) tt) (λ _.
    cond_both (eqb word 9) _ _ MayHave (λ _. so _ (op.Jz a i) tt) (λ _.
    cond_both (eqb word 10) _ _ MayHave (λ _. so _ (op.Jnz a i) tt) (λ _.
    cond_both (eqb word 11) _ _ MayHave (λ _. so _ (op.Pdx a b) tt) (λ _.
    cond_both (eqb word 12) _ _ MayHave (λ _. so _ op.Ret tt) (λ _.
    cond_both (eqb word 13) _ _ MayHave (λ _. so _ op.Yield tt) (λ _.
    cond_both (eqb word 14) _ _ MayHave (λ _. so _ op.Sys tt) (λ _. λ other same. absurd (cc))))))))))))))))

pub decoded-immediate : (word : ℕ) (instr : Instr) → IsWord word → decoded word ≡ Some instr → HasImmediate instr
decoded-immediate word instr is same = instruction_of-immediate (word % 2 ^ 8) (word / 2 ^ 8 % 2 ^ 8) (word / 2 ^ 16 % 2 ^ 8) (word / 2 ^ 24 % 2 ^ 8) (word / 2 ^ 32) (omega arith) instr same
