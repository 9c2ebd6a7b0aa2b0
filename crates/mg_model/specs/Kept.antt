-- What accesses and lines do to the keys that are kept, and to a counter of words.
--
-- Which keys are kept is a test on keys, and no list of seats is named here. A key that is kept spares a search.
use Rattle.std.specs.{List.list_all, Option.option_map_or, Prelude.{ℕ, ◌≡◌, ◌≤◌, ◌+◌, ◌*◌, ◌==◌, ◌&&◌, Bool, true, not}}
use Rattle.std.specs.Prelude.{false, List, [], ◌∷◌, if◌then◌else◌, Some}
use Rattle.mg_model.specs.{Accesses.{Access, accesses, line_words}, Keys.{Key, first_at, has_seat, key_of, seat_of}}
use Rattle.mg_model.specs.{Keys.{key_taken, keys_taken}, State.State, Step.step, Warmth.{Event, failing, is_disturbing}}
use Rattle.mg_model.specs.{Warmth.is_recent, declared.calls.Line.Line}
use Rattle.mg_model.specs.declared.limits.TheConstants.{SEARCH_LIMIT as search_limit}

-- whether a key's seat was taken by none of these keys
abbrev pub is_elsewhere : List Key → Key → Bool
is_elsewhere keys key = list_all (λ other. not (seat_of other == seat_of key)) keys

-- whether the key of an access is kept
abbrev pub is_known : (Key → Bool) → State → Access → Bool
is_known kept state access = option_map_or kept (key_of state access) false

-- the most words that are searched for one access: none if its key is kept
abbrev pub access_limit : (Key → Bool) → State → Access → ℕ
access_limit kept state access = if is_known kept state access then 0 else search_limit

-- One access, for which this number of words was searched. If it is allowed, its key is kept, and no other seat changes.
pub record Validates (state : State) (access : Access) (kept kept' : Key → Bool) (words : ℕ) : Type 0 where
  pub own : (key : Key) → key_taken state access ≡ key ∷ [] → kept' key ≡ true
  pub others : (key : Key) → is_elsewhere (key_taken state access) key ≡ true → kept' key ≡ kept key
  pub few : words ≤ access_limit kept state access

-- accesses one after another, for which this number of words was searched in all
abbrev pub Searches : State → (Key → Bool) → List Access → (Key → Bool) → ℕ → Type 0
Searches state kept [] kept' words = ((key : Key) → kept' key ≡ kept key) × (words ≡ 0)
Searches state kept (access ∷ more) kept' words =
    (middle : Key → Bool) × (first rest : ℕ) × (words ≡ first + rest) × Validates state access kept middle first × Searches state middle more kept' rest

-- What accesses leave of the keys that are kept, if nothing else changes them: a key stays unless another one took its seat,
-- and the last key that took a seat is kept.
pub record KeepsKeys (state : State) (made : List Access) (kept kept' : Key → Bool) : Type 0 where
  pub stays : (key : Key) → kept key ≡ true → has_seat (keys_taken state made) key ≡ true → kept' key ≡ true
  pub comes : (key : Key) → first_at (seat_of key) (keys_taken state made) ≡ Some key → kept' key ≡ true

-- whether an access is served without a search: its key was kept before the line, and no other key took its seat in the line
abbrev pub is_served : (Key → Bool) → State → List Access → Access → Bool
is_served kept state before access = option_map_or (λ key. kept key && has_seat (keys_taken state before) key) (key_of state access) false

-- the most that is searched for the accesses of a line
abbrev pub searches_limit : (Key → Bool) → State → List Access → ℕ
searches_limit kept state made = search_limit * failing (is_served kept state) [] made

-- accesses one after another keep the rules of a line
pub record KeepsRules (state : State) (made : List Access) (kept kept' : Key → Bool) (words : ℕ) : Type 0 where
  pub keys : KeepsKeys state made kept kept'
  pub few : words ≤ searches_limit kept state made

-- the most that a line adds to the counter, be it answered or not: its own words, and what is searched
abbrev pub line_limit : (Key → Bool) → State → Line → ℕ
line_limit kept state line = line_words state line + searches_limit kept state (accesses state line)

-- A line that was answered. The counter adds the line's own words, and at most the words of its searches besides. If the
-- line does not disturb, keys are kept by the rules. A line that disturbs may drop any key.
pub record KeepsLine (state : State) (line : Line) (kept kept' : Key → Bool) (steps steps' : ℕ) : Type 0 where
  pub keys : is_disturbing state line ≡ false → KeepsKeys state (accesses state line) kept kept'
  pub least : steps + line_words state line ≤ steps'
  pub most : steps' ≤ steps + line_limit kept state line

-- after earlier lines of a session each key that would be warm is kept
pub record KeepsWarm (past : List Event) (kept : Key → Bool) : Type 0 where
  pub each : (key : Key) → is_recent past key ≡ true → kept key ≡ true

-- Lines one after another, and the counter before and after them. Each line stays within its limit, and keeps its keys if it
-- does not disturb. If the last line was not answered, nothing needs to be kept after it.
abbrev pub Follows : (Key → Bool) → State → List Line → ℕ → ℕ → Type 0
Follows kept state [] steps steps' = steps ≡ steps'
Follows kept state (line ∷ more) steps steps' =
    (kept' : Key → Bool) × (middle : ℕ) × (middle ≤ steps + line_limit kept state line)
    × (is_disturbing state line ≡ false → KeepsKeys state (accesses state line) kept kept')
    × Follows kept' (step state line).0 more middle steps'
