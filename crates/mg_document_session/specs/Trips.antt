-- A document that is stored in a state and loaded from the state after that, by the machine's own definition of a step.
use Rattle.std.specs.Prelude.{ℕ, ◌^◌, ◌<◌, ◌≤◌, ◌≡◌, List, [], ◌∷◌, ◌++◌, length, All, Result, Ok}
use Rattle.mg_document.specs.{Asked.{get_calls, get_text, put_calls}, Documents.byte_limit}
use Rattle.{mg_document.specs.declared.faults.ReplyFault.ReplyFault, mg_model.specs.{Lines.lines, Print.replies_text}}
use Rattle.mg_model.specs.{State.State, Step.{after, step}, WellFormed.IsWellFormed, declared.calls.Line.Line}
use Rattle.mg_model.specs.declared.replies.Reply.{Reply, TheVariants.No}

-- a reply that refuses nothing
abbrev pub IsOk : Reply → Type 0
IsOk (No word) = ⊥
IsOk other = Unit {0}

-- each of these lines, one after another from a state, is answered ok
abbrev pub AllOk : State → List Line → Type 0
AllOk state [] = Unit {0}
AllOk state (line ∷ more) = IsOk (step state line).1 × AllOk (step state line).0 more

-- a byte
abbrev pub IsByte : ℕ → Type 0
IsByte b = b < 256

-- A thread stores these bytes as a document at an address of a state, each line of which is answered ok; and then a thread, the same
-- or another one, loads a document of as many bytes from there, each line of which is answered ok too.
pub record Trip : Type 0 where
  pub state : State
  pub thread : ℕ
  pub reader : ℕ
  pub address : ℕ
  pub bytes : List ℕ
  pub formed : IsWellFormed state
  pub small : All IsByte bytes
  pub few : length bytes ≤ byte_limit
  pub stored : AllOk state (put_calls thread address bytes)
  pub loaded : AllOk (after state (put_calls thread address bytes)) (get_calls reader address (length bytes))

-- the replies to the loads
abbrev pub replies : Trip → List ℕ
replies trip =
    replies_text (after trip.state (put_calls trip.thread trip.address trip.bytes)) (get_calls trip.reader trip.address (length trip.bytes))

-- the replies give what was stored, whatever follows them
abbrev pub ComesBack : (List ℕ → Result (List ℕ) ReplyFault) → Type 0
ComesBack told = (trip : Trip) (more : List ℕ) → told (replies trip ++ more) ≡ Ok trip.bytes

-- the lines that load a document are read as the calls that load it
abbrev pub ReadAsLoads : Type 0
ReadAsLoads = (thread address bytes : ℕ) → thread < 2 ^ 64 → address < 2 ^ 52 → bytes ≤ byte_limit → lines (get_text thread address bytes) ≡ get_calls thread address bytes
