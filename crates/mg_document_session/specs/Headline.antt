-- What the program promises. An object that does not tell its content has None for it, and a promise on content is then empty.
use Rattle.std.specs.{Io.KnownBytes.Appends, Prelude.{ℕ, ◌+◌, ◌^◌, ◌≡◌, ◌≢◌, ◌⊎◌, List, [], ◌++◌, Option, IfSome}}
use Rattle.std.specs.Prelude.{IsSomeAnd, Result, Ok, Err}
use Rattle.mg_document.specs.{Asked.{get_calls, get_text, put_calls, put_text}, Documents.byte_limit}
use Rattle.mg_document.specs.{FaultText.fault_line, Replies.bytes_told, declared.faults.ReplyFault.ReplyFault}
use Rattle.{mg_document.specs.declared.faults.ReplyFault.TheVariants.At, mg_document_session.specs.Trips.Trip}
use Rattle.mg_document_session.specs.{Trips.replies, declared.{faulty.Faulty.Faulty, words.Command.Command}}
use Rattle.{mg_document_session.specs.declared.words.Command.TheVariants.{Bytes, Get, Put}, mg_faults.specs.Faults.Rose}
use Rattle.mg_filter.specs.{Whole.{OfWhole, TakesMore}, declared.status.Status.Status}
use Rattle.{mg_io.specs.Known.{AppendsPrefix, TakesAtMost}, mg_model.specs.Lines.lines}
use Rattle.mg_filter.specs.declared.status.Status.TheVariants as status
use Rattle.mg_io.specs.declared.traits.Sink as sinks
use Rattle.mg_io.specs.declared.traits.Source as sources

-- the most bytes of an input: those of a document, or of the replies to one; `get` reads none
abbrev pub limit_of : Command → ℕ
limit_of (Put thread address) = byte_limit
limit_of (Get thread address bytes) = 0
limit_of Bytes = 2 ^ 24

-- What an input becomes: the lines that store it, the lines that load a document, or the bytes of the document that it gives; or its first fault.
abbrev pub became : Command → List ℕ → Result (List ℕ) ReplyFault
became (Put thread address) input = Ok (put_text thread address input)
became (Get thread address bytes) input = Ok (get_text thread address bytes)
became Bytes input = bytes_told input

-- the machine reads this text as the calls of the command
abbrev pub IsCalls : Command → List ℕ → List ℕ → Type 0
IsCalls (Put thread address) input text = lines text ≡ put_calls thread address input
IsCalls (Get thread address bytes) input text = lines text ≡ get_calls thread address bytes
IsCalls Bytes input text = Unit {0}

-- an input became a text, which is read as the calls, and the sink took it
abbrev pub PutsText : Command → List ℕ → Result (List ℕ) ReplyFault → Option (List ℕ) → Option (List ℕ) → Type 0
PutsText command input (Ok text) taken taken' = IsCalls command input text × Appends taken taken' text
PutsText command input (Err fault) taken taken' = ⊥

-- an input has a fault, and the sink took its line
abbrev pub PutsFault : Result (List ℕ) ReplyFault → Option (List ℕ) → Option (List ℕ) → Type 0
PutsFault (Ok text) taken taken' = ⊥
PutsFault (Err fault) taken taken' = Appends taken taken' (fault_line fault)

-- the sink took some first bytes of the text, or the sink aside of the line of the fault
abbrev pub PutsPart : Result (List ℕ) ReplyFault → Option (List ℕ) → Option (List ℕ) → Option (List ℕ) → Option (List ℕ) → Type 0
PutsPart (Ok text) taken taken' aside aside' = AppendsPrefix taken taken' text × (aside' ≡ aside)
PutsPart (Err fault) taken taken' aside aside' = (taken' ≡ taken) × AppendsPrefix aside aside' (fault_line fault)

-- this holds of the input: all that the source had, which was read to its end, and of `get` nothing
abbrev pub OfInput : Command → Option (List ℕ) → Option (List ℕ) → (List ℕ → Type 0) → Type 0
OfInput (Put thread address) left left' P = OfWhole left left' P
OfInput (Get thread address bytes) left left' P = P []
OfInput Bytes left left' P = OfWhole left left' P

-- `get` leaves the source alone
abbrev pub LeavesSource : {S : Type 0} → Command → S → S → Type 0
LeavesSource (Put thread address) source source' = Unit {0}
LeavesSource (Get thread address bytes) source source' = source' ≡ source
LeavesSource Bytes source source' = Unit {0}

-- this is the input of the command, with its first fault
abbrev pub IsFaulty : Command → Option (List ℕ) → Option (List ℕ) → Option Faulty → Type 0
IsFaulty command left left' faulty = OfInput command left left'
    (λ input. IsSomeAnd faulty (λ f. (f.replies.items ≡ input) × (became command input ≡ Err (At f.reply f.kind))))

-- What a command keeps: `out` takes what the input became, and `err` its fault.
pub record Keeps {S O E : Type 0} (from : sources.Ghosts S) (to : sinks.Ghosts O) (aside : sinks.Ghosts E) (command : Command)
    (result : Status) (source source' : S) (out out' : O) (err err' : E) : Type 0 where
  -- At the end `out` took what the input became, and nothing else was written. The machine reads lines as the calls of the command.
  pub done : result ≡ status.Done
      → OfInput command (from.left source) (from.left source')
      (λ input. PutsText command input (became command input) (to.taken out) (to.taken out')) × (err' ≡ err)
  -- At a fault `err` took its line, and nothing else was written.
  pub fault : result ≡ status.Fault
      → OfInput command (from.left source) (from.left source')
      (λ input. PutsFault (became command input) (aside.taken err) (aside.taken err')) × (out' ≡ out)
  -- A sink that failed took a first part of its text. It fails only if its count of faults rose.
  pub sink : result ≡ status.Sink
      → OfInput command (from.left source) (from.left source')
      (λ input. PutsPart (became command input) (to.taken out) (to.taken out') (aside.taken err) (aside.taken err'))
  pub sink_failed : result ≡ status.Sink → Rose (to.faults out) (to.faults out') (to.is_spent out')
      ⊎ Rose (aside.faults err) (aside.faults err') (aside.is_spent err')
  -- If there was not enough memory, the source failed or the input is too long, nothing was written.
  pub nothing : (result ≡ status.Memory) ⊎ ((result ≡ status.Source) ⊎ (result ≡ status.TooLong)) → (out' ≡ out) × (err' ≡ err)
  -- The source failed only if its count of faults rose.
  pub source_failed : result ≡ status.Source → Rose (from.faults source) (from.faults source') (from.is_spent source')
  -- The input is too long exactly if more was taken than it may have.
  pub too_long : result ≡ status.TooLong → TakesMore (limit_of command) (from.left source) (from.left source')
  pub within : result ≢ status.TooLong → TakesAtMost (limit_of command) (from.left source) (from.left source')
  -- At each status no more is taken than that, and a piece of 4,096 bytes.
  pub bounded : TakesAtMost (limit_of command + 4096) (from.left source) (from.left source')
  -- `get` leaves the source alone.
  pub alone : LeavesSource command source source'
  -- Words that spell a command are no `usage`.
  pub spelled : result ≢ status.Usage

-- What `bytes` keeps of an input that begins with the replies to a document's loads: there is no fault, and at the end the sink took
-- the bytes that were stored.
abbrev pub BringsBack : Status → Option (List ℕ) → Option (List ℕ) → Option (List ℕ) → Type 0
BringsBack result left taken taken' =
    IfSome left (λ input. (trip : Trip) (more : List ℕ) → input ≡ replies trip ++ more
    → (result ≢ status.Fault) × (result ≡ status.Done → Appends taken taken' trip.bytes))
