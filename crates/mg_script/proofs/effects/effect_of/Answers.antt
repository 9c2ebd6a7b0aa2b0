use Rattle.mg_model.specs.{Abbreviations.advanced, Script.{jump_by, jumped, register, word_end}, State.{State, ThreadRow}, Turn.put_row}
use Rattle.{mg_model.specs.{Turn.run_instruction, declared.instructions.Instr.Instr}, mg_script.specs.Effects.{finished, standing}}
use Rattle.{mg_script.specs.declared.effects.Effect.{Effect, TheVariants.Next}, std.proofs.Common.{ℕ, ◌≡◌, ◌+◌, ◌%◌, ◌==◌, Bool, true, false}}
use Rattle.std.proofs.Common.{if◌then◌else◌, refl, ap, sym, ◌∙◌}
use Rattle.mg_script.proofs.effects.effect_of.Goals as goal

-- the effect of a jump that is taken
abbrev there : ThreadRow → ℕ → ℕ → Effect
there row here i = Next (record (standing row) { pc = (here + jump_by i) % word_end })

jumps_if : (state : State) (t : ℕ) (row : ThreadRow) (here i : ℕ) (v : Bool) → put_row state t (if v then jumped row here i else row) ≡ finished state t row (if v then there row here i else Next (standing row))
jumps_if state t row here i true = refl
jumps_if state t row here i false = refl

jumps_unless : (state : State) (t : ℕ) (row : ThreadRow) (here i : ℕ) (v : Bool) → put_row state t (if v then row else jumped row here i) ≡ finished state t row (if v then Next (standing row) else there row here i)
jumps_unless state t row here i true = refl
jumps_unless state t row here i false = refl

pub returns-in-Jz-clause-turn : goal.returns-in-Jz-clause-turn
returns-in-Jz-clause-turn c state t =
    let row = advanced c.args.row.now in
    let here = c.row.inside.pc in
    let asked : c.jump_if_zero.result ≡ (if register row c.in-Jz.a == 0 then there row here c.in-Jz.i else Next (standing row)) = cc in
    ap (λ (old : ThreadRow). run_instruction state t old.pc row c.args.instr.now) (sym c.row.view_is) ∙ ap (λ (i : Instr). run_instruction state t here row i) c.in-Jz.is ∙ jumps_if state t row here c.in-Jz.i (register row c.in-Jz.a == 0) ∙ sym (ap (λ (effect : Effect). finished state t row effect) asked)

pub returns-in-Jnz-clause-turn : goal.returns-in-Jnz-clause-turn
returns-in-Jnz-clause-turn c state t =
    let row = advanced c.args.row.now in
    let here = c.row.inside.pc in
    let asked : c.jump_unless_zero.result ≡ (if register row c.in-Jnz.a == 0 then Next (standing row) else there row here c.in-Jnz.i) = cc in
    ap (λ (old : ThreadRow). run_instruction state t old.pc row c.args.instr.now) (sym c.row.view_is) ∙ ap (λ (i : Instr). run_instruction state t here row i) c.in-Jnz.is ∙ jumps_unless state t row here c.in-Jnz.i (register row c.in-Jnz.a == 0) ∙ sym (ap (λ (effect : Effect). finished state t row effect) asked)
