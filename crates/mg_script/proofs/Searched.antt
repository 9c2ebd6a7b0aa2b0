-- What a turn reads and costs, by the instruction that its word spells.
use Rattle.mg_model.specs.{Accesses.{call_accesses, call_words, instruction_accesses, instruction_words, word_access}, Refused.checked}
use Rattle.mg_model.specs.{Script.{decoded, operand, register}, State.{State, ThreadRow}, Turn.thread_call, Warmth.{disturbs, is_calm, is_ok}}
use Rattle.mg_model.specs.declared.{calls.Call.Call, instructions.Instr.Instr, replies.{Refusal.TheVariants.{Align, Denied}, Reply.TheVariants.Done}}
use Rattle.{mg_model.specs.declared.rights.Right.TheVariants.P, mg_script.specs.{Actions.call_of, Effects.begun, TurnCosts.TurnsSearchAsCalls}}
use Rattle.std.{proofs.{Common.{arith, refl}, lemmas.Bool.false≢true}, specs.{Option.option_map_or, Prelude.{ℕ, ◌≡◌, ◌+◌, ◌&&◌, Bool, true, false}}}
use Rattle.std.specs.Prelude.{not, nat_lt, [], ◌∷◌, if◌then◌else◌, Option, Some, None}
use Rattle.mg_model.specs.declared.calls.Call.TheVariants as call
use Rattle.mg_model.specs.declared.instructions.Instr.TheVariants as op

-- the call of what a word spells
abbrev asked : ThreadRow → Option Instr → Call
asked thread o = option_map_or (λ instr. call_of thread instr) o call.Bad

begun-asked : (thread : ThreadRow) (word : ℕ) (may : Bool) → begun thread (if may then Some word else None) ≡ asked thread (if may then decoded word else None)
begun-asked thread word true = refl
begun-asked thread word false = refl

-- an answer to a call that disturbs nothing
quiet : (ok : Bool) → (ok && false) ≡ false
quiet true = refl
quiet false = refl

-- a store that is answered ok is aligned and allowed
stored-calm : (state done : State) (aligned may first : Bool) → not (aligned && (may && first)) ≡ true
    → (is_ok (checked state ((not aligned, Align) ∷ (not may, Denied) ∷ []) (done, Done)).1 && first) ≡ false
stored-calm state done false may first calm = refl
stored-calm state done true false first calm = refl
stored-calm state done true true false calm = refl
stored-calm state done true true true calm = absurd (false≢true calm)

-- the word that is fetched, and those of what it spells, which is nothing if no word is fetched
fetch-words : (may : Bool) (own : ℕ) → (may ≡ false → own ≡ 0) → (if may then 1 + own else 0) ≡ (if may then 1 else 0) + own
fetch-words true own none = refl
fetch-words false own none = let zero : own ≡ 0 = none refl in omega arith

module _ (state : State) (t : ℕ) (thread : ThreadRow) where
  -- a mask above a byte makes no call
  entering-accesses : (above : Bool) (a mask : ℕ) → (if above then [] else word_access t a P) ≡ call_accesses state t (if above then call.Bad else call.Pdx a mask)
  entering-accesses true a mask = refl
  entering-accesses false a mask = refl

  entering-words : (above : Bool) (a mask : ℕ) → 0 ≡ call_words state t (if above then call.Bad else call.Pdx a mask)
  entering-words true a mask = refl
  entering-words false a mask = refl

  -- an instruction and its call
  asked-accesses : (o : Option Instr) → instruction_accesses state t thread o ≡ call_accesses state t (asked thread o)
  asked-accesses None = refl
  asked-accesses (Some (op.Pdx a b)) = entering-accesses (nat_lt 255 (register thread b)) (register thread a) (register thread b)
  asked-accesses (Some other) = refl

  asked-words : (o : Option Instr) → instruction_words state t thread o ≡ call_words state t (asked thread o)
  asked-words None = refl
  asked-words (Some (op.Pdx a b)) = entering-words (nat_lt 255 (register thread b)) (register thread a) (register thread b)
  asked-words (Some other) = refl

  asked-calm : (o : Option Instr) → is_calm state t thread o ≡ true → (is_ok (thread_call state t (asked thread o)).1 && disturbs state t (asked thread o)) ≡ false
  asked-calm None calm = refl
  asked-calm (Some (op.Load a b i)) calm = quiet (is_ok (thread_call state t (call.Load (operand thread b i))).1)
  asked-calm (Some (op.Store a b i)) calm = grind (arith, stored-calm)
  asked-calm (Some (op.Pdx a b)) calm = absurd (false≢true calm)
  asked-calm (Some op.Ret) calm = absurd (false≢true calm)
  asked-calm (Some op.Sys) calm = absurd (false≢true calm)
  asked-calm (Some other) calm = refl

pub turns-search : TurnsSearchAsCalls
turns-search state t thread = grind (arith, begun-asked, asked-accesses, fetch-words, asked-words, asked-calm)
