-- Laws on the keys that are kept and on the counter of words: from one access to a line, and from lines to a session.
use Rattle.std.specs.Prelude.{ℕ, ◌≡◌, ◌≤◌, ◌+◌, Bool, false, List, [], ◌∷◌, ◌++◌}
use Rattle.mg_model.specs.{Accesses.{Access, accesses}, Events.events, Kept.{Follows, KeepsKeys, KeepsRules, KeepsWarm}}
use Rattle.mg_model.specs.{Kept.Validates, Keys.Key, State.State, Step.after, Warmth.{Event, is_disturbing, line_cost}}
use Rattle.mg_model.specs.declared.calls.Line.{Line}

-- a run of accesses, from the keys that are kept before it to those kept after it, with this number of words searched
abbrev pub Search : Type 1
Search = State → (Key → Bool) → List Access → (Key → Bool) → ℕ → Type 0

-- accesses one after another keep the rules of a line
abbrev pub SearchesKeepRules : Search → Type 0
SearchesKeepRules searches =
    (state : State) (kept : Key → Bool) (made : List Access) (kept' : Key → Bool) (words : ℕ) → searches state kept made kept' words → KeepsRules state made kept kept' words

-- one access more after those that were made
abbrev pub SearchesGoOn : Search → Type 0
SearchesGoOn searches =
    (state : State) (kept : Key → Bool) (made : List Access) (middle : Key → Bool) (words : ℕ) (access : Access) (kept' : Key → Bool) (more : ℕ)
    → searches state kept made middle words → Validates state access middle kept' more → searches state kept (made ++ access ∷ []) kept' (words + more)

-- the most words that are searched for accesses, if these keys are kept before them
abbrev pub Limit : Type 0
Limit = (Key → Bool) → State → List Access → ℕ

-- an access, and more after it: if the words searched for those are within their limit, all are within the limit of all
abbrev pub LimitGoesOn : Limit → Type 0
LimitGoesOn limit =
    (state : State) (access : Access) (more : List Access) (kept middle : Key → Bool) (first rest : ℕ) → Validates state access kept middle first → rest ≤ limit middle state more → first + rest ≤ limit kept state (access ∷ more)

-- if those keep the rules of a line, all do
abbrev pub RulesGoOn : Type 0
RulesGoOn =
    (state : State) (access : Access) (more : List Access) (kept middle kept' : Key → Bool) (first rest : ℕ)
    → Validates state access kept middle first → KeepsRules state more middle kept' rest → KeepsRules state (access ∷ more) kept kept' (first + rest)

-- if each line stays within its limit and keeps its keys, the counter rises by at most this
abbrev pub BoundedByCost : (State → List Line → ℕ) → Type 0
BoundedByCost bound = (kept : Key → Bool) (state : State) (lines : List Line) (steps steps' : ℕ) → Follows kept state lines steps steps' → steps' ≤ steps + bound state lines

-- what is kept after earlier lines of a session
abbrev pub Warm : Type 1
Warm = List Event → (Key → Bool) → Type 0

-- whatever is kept when a session begins, nothing is warm yet
abbrev pub BeginsWarm : Warm → Type 0
BeginsWarm warm = (kept : Key → Bool) → warm [] kept

-- after a line that keeps its keys, or that disturbs, each key is kept that would be warm after it
abbrev pub StaysWarm : Warm → Type 0
StaysWarm warm =
    (past : List Event) (event : Event) (kept kept' : Key → Bool) → warm past kept
    → (is_disturbing event.state event.line ≡ false → KeepsKeys event.state (accesses event.state event.line) kept kept') → warm (event ∷ past) kept'

-- if each key is kept that would be warm, the limit of a line is within its cost
abbrev pub LimitsWithinCost : ((Key → Bool) → State → Line → ℕ) → Type 0
LimitsWithinCost limit = (past : List Event) (kept : Key → Bool) (state : State) (line : Line) → KeepsWarm past kept → limit kept state line ≤ line_cost past state line

-- the events of one line more
abbrev pub EventsGoOn : (List Event → State → List Line → List Event) → Type 0
EventsGoOn those =
    (past : List Event) (state : State) (lines : List Line) (line : Line) → those past state (lines ++ line ∷ []) ≡ record { state = after state lines; line = line } ∷ those past state lines

-- what lines cost, and then more lines
abbrev pub CostsAddUp : (List Event → State → List Line → ℕ) → Type 0
CostsAddUp costs =
    (past : List Event) (state : State) (lines more : List Line) → costs past state (lines ++ more) ≡ costs past state lines + costs (events past state lines) (after state lines) more

-- one line more costs what it costs after those of its session
abbrev pub CostsGoOn : (State → List Line → ℕ) → Type 0
CostsGoOn costs = (state : State) (lines : List Line) (line : Line) → costs state (lines ++ line ∷ []) ≡ costs state lines + line_cost (events [] state lines) (after state lines) line

-- first lines cost no more than all
abbrev pub PrefixesCostLess : (State → List Line → ℕ) → Type 0
PrefixesCostLess costs = (state : State) (lines more : List Line) → costs state lines ≤ costs state (lines ++ more)
