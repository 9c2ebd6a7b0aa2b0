-- What the lines of a session count, each of them.
use Rattle.std.specs.Prelude.{ℕ, ◌≡◌, ◌≤◌, ◌+◌, List, [], ◌∷◌}
use Rattle.mg_model.specs.{Accesses.line_words, State.State, Step.step, Warmth.{Event, line_cost}}
use Rattle.mg_model.specs.declared.calls.Line.{Line}

-- Lines one after another, and a counter before and after them. Each line adds its own words at least, and at most what it may
-- cost after those before it. So a line whose accesses are all warm adds its own words and nothing else.
abbrev pub CountsEach : List Event → State → List Line → ℕ → ℕ → Type 0
CountsEach past state [] steps steps' = steps' ≡ steps
CountsEach past state (line ∷ more) steps steps' =
    (middle : ℕ) × (steps + line_words state line ≤ middle) × (middle ≤ steps + line_cost past state line)
    × CountsEach (record { state = state; line = line } ∷ past) (step state line).0 more middle steps'
