-- From lines to a session: keys that would be warm are kept, so each line stays within its cost, and costs add up.
use Rattle.mg_laws.{proofs.{KeysSeats.last_is_kept, KeysTaken.{last-recent, recent-last}}, specs.Costs.{BeginsWarm, BoundedByCost, CostsAddUp}}
use Rattle.{mg_laws.specs.Costs.{CostsGoOn, EventsGoOn, LimitsWithinCost, PrefixesCostLess, StaysWarm}, mg_model.specs.Accesses.Access}
use Rattle.mg_model.specs.{Events.{events, keys_taken_in}, Kept.{Follows, KeepsWarm, is_served, line_limit}, Keys.{Key, first_at, seat_of}}
use Rattle.mg_model.specs.{State.State, Step.step, Warmth.{Event, cost, cost_behind, failing, is_disturbing, is_warm, recent}}
use Rattle.{mg_model.specs.declared.calls.Line.Line, std.proofs.Common.{ℕ, ◌≡◌, ◌≤◌, ◌+◌, Bool, true, false, List, [], ◌∷◌, ◌++◌, Some, refl, sym}}
use Rattle.std.proofs.{Common.{ap, ◌∙◌, arith}, lemmas.{Bool.{and_from, and_parts, cond-false, cond-true, false≢true}, Option.none-some}}

-- Kept keys

pub warm-begins : BeginsWarm KeepsWarm
warm-begins kept = record { each = λ key is. absurd (false≢true is) }

pub warm-stays : StaysWarm KeepsWarm
warm-stays past event kept kept' warm keeps = record {
  each = λ key is. by_line key (is_disturbing event.state event.line) refl (recent-last (event ∷ past) key is);
}
  where
    by_line : (key : Key) (disturbs : Bool) → is_disturbing event.state event.line ≡ disturbs → first_at (seat_of key) (recent (event ∷ past)) ≡ Some key → kept' key ≡ true
    by_line key true is first = grind (arith, none-some, cond-true)
    by_line key false is first =
        last_is_kept (keys_taken_in event) (recent past) kept kept' (keeps is).stays (keeps is).comes (λ other there. warm.each other (last-recent past other there)) key
        (ap (λ keys. first_at (seat_of key) keys) (sym (cond-false (is_disturbing event.state event.line) [] (keys_taken_in event ++ recent past) is)) ∙ first)

-- The limit of a line

-- a warm access is served without a search
warm-served : (past : List Event) (kept : Key → Bool) (state : State) → KeepsWarm past kept → (before : List Access) (access : Access)
    → is_warm past state before access ≡ true → is_served kept state before access ≡ true
warm-served past kept state warm before access is = grind (arith, and_parts, and_from)

-- a wider test fails less often
failing-less : (test wider : List Access → Access → Bool) → ((before : List Access) (access : Access) → test before access ≡ true → wider before access ≡ true)
    → (before more : List Access) → failing wider before more ≤ failing test before more
failing-less test wider implies before [] = omega arith
failing-less test wider implies before (access ∷ more) = grind (arith, (failing-less test wider implies (before ++ access ∷ []) more))

pub limit-within : LimitsWithinCost line_limit
limit-within past kept state line warm = grind (arith, failing-less, warm-served)

-- Lines one after another

follows-cost : (past : List Event) (kept : Key → Bool) (state : State) (lines : List Line) (steps steps' : ℕ) → KeepsWarm past kept → Follows kept state lines steps steps'
    → steps' ≤ steps + cost_behind past state lines
follows-cost past kept state [] steps steps' warm follows = omega arith
follows-cost past kept state (line ∷ more) steps steps' warm (kept', middle, rise, keeps, rest) =
    let event : Event = record { state = state; line = line } in
    let limit = limit-within past kept state line warm in
    let later = follows-cost (event ∷ past) kept' (step state line).0 more middle steps' (warm-stays past event kept kept' warm keeps) rest in
    omega arith

pub bounded : BoundedByCost cost
bounded kept state lines steps steps' follows = follows-cost [] kept state lines steps steps' (warm-begins kept) follows

pub events-go_on : EventsGoOn events
events-go_on past state [] line = refl
events-go_on past state (x ∷ lines) line = events-go_on (record { state = state; line = x } ∷ past) (step state x).0 lines line

pub costs-add_up : CostsAddUp cost_behind
costs-add_up past state [] more = omega arith
costs-add_up past state (x ∷ lines) more =
    let later = costs-add_up (record { state = state; line = x } ∷ past) (step state x).0 lines more in
    omega (arith, later)

pub costs-go_on : CostsGoOn cost
costs-go_on state lines line = let sum = costs-add_up [] state lines (line ∷ []) in omega (arith, sum)

pub prefix-costs_less : PrefixesCostLess cost
prefix-costs_less state lines more = let sum = costs-add_up [] state lines more in omega (arith, sum)
