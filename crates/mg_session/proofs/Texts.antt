-- How states add up over lines.
use Rattle.{mg_model.specs.{State.State, Step.{after, step}, declared.calls.Line.Line}, std.{proofs.Common.refl, specs.Prelude.{◌≡◌, List, [], ◌∷◌}}}
use Rattle.std.specs.Prelude.{◌++◌}

-- the state after some lines and then others
pub after-append : (state : State) (ls more : List Line) → after state (ls ++ more) ≡ after (after state ls) more
after-append state [] more = refl
after-append state (line ∷ ls) more = after-append (step state line).0 ls more
