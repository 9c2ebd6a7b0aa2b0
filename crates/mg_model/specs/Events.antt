-- The events of a session, and `is_recent` in plain words. Laws and contracts of the crates above cite these; no clause of
-- `top` does.
use Rattle.std.specs.Prelude.{ℕ, ◌≡◌, ◌↔◌, Bool, true, false, List, [], ◌∷◌, ◌++◌, All}
use Rattle.mg_model.specs.{Accesses.accesses, Keys.{Key, has_seat, keys_taken}, State.State, Step.step, Warmth.Event}
use Rattle.mg_model.specs.{Warmth.is_disturbing, declared.calls.Line.Line}

-- the events of a session: those of earlier lines, and then those of these lines, done from a state on
abbrev pub events : List Event → State → List Line → List Event
events past state [] = past
events past state (line ∷ more) = events (record { state = state; line = line } ∷ past) (step state line).0 more

-- the keys that an earlier line took, the last one first
abbrev pub keys_taken_in : Event → List Key
keys_taken_in event = keys_taken event.state (accesses event.state event.line)

abbrev pub DisturbsNothing : Event → Type 0
DisturbsNothing event = is_disturbing event.state event.line ≡ false

-- `is_recent` in plain words: an earlier line took the key, neither it nor a later one disturbs, and the key's seat was
-- taken by no other key since, be it in that line or in a later one.
pub record WasTaken (past : List Event) (key : Key) : Type 0 where
  pub later : List Event
  pub event : Event
  pub older : List Event
  pub split : past ≡ later ++ event ∷ older
  pub quiet : DisturbsNothing event
  pub all_quiet : All DisturbsNothing later
  pub after : List Key
  pub before : List Key
  pub took : keys_taken_in event ≡ after ++ key ∷ before
  pub seat : has_seat after key ≡ true
  pub seats : All (λ other. has_seat (keys_taken_in other) key ≡ true) later

-- the test says just what these words say
abbrev pub TellsTaken : (List Event → Key → Bool) → Type 0
TellsTaken test = (past : List Event) (key : Key) → (test past key ≡ true) ↔ WasTaken past key
