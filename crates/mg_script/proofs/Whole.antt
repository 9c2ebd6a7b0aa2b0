-- An effect and its action say the same of a turn.
use Rattle.{mg_model.specs.{Abbreviations.advanced, State.{State, ThreadRow}}, mg_script.specs.Actions.{HasRegister, OnlyMoves, carried_out}}
use Rattle.{mg_script.specs.{Effects.{HasPlace, action_of, finished}, declared.effects.Effect.Effect}, std.proofs.Common.{ℕ, ◌≡◌, refl}}
use Rattle.mg_script.specs.declared.effects.Effect.TheVariants as effect

-- the row's own pc does not matter
pub whole-turn : (state : State) (t : ℕ) (thread : ThreadRow) (asked : Effect) → carried_out state t (advanced thread) (action_of thread asked) ≡ finished state t (advanced thread) asked
whole-turn state t thread (effect.Next stands) = refl
whole-turn state t thread (effect.Load address to) = refl
whole-turn state t thread (effect.Store address value) = refl
whole-turn state t thread (effect.Pdx address mask) = refl
whole-turn state t thread effect.Ret = refl
whole-turn state t thread effect.Sys = refl

pub whole-register : (thread : ThreadRow) (asked : Effect) → HasPlace asked → HasRegister (action_of thread asked)
whole-register thread (effect.Next stands) has = tt
whole-register thread (effect.Load address to) has = has
whole-register thread (effect.Store address value) has = tt
whole-register thread (effect.Pdx address mask) has = tt
whole-register thread effect.Ret has = tt
whole-register thread effect.Sys has = tt

pub whole-moves : (thread : ThreadRow) (asked : Effect) → OnlyMoves thread (action_of thread asked)
whole-moves thread (effect.Next stands) = refl
whole-moves thread (effect.Load address to) = tt
whole-moves thread (effect.Store address value) = tt
whole-moves thread (effect.Pdx address mask) = tt
whole-moves thread effect.Ret = tt
whole-moves thread effect.Sys = tt
