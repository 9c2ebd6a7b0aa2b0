-- What a session of any machine keeps: what the sink took, what a stop leaves, and how the session ends. An object that does
-- not tell its content has None for it; a promise on content is then empty.
use Rattle.std.specs.{Io.KnownBytes.Appends, Prelude.{ℕ, ◌+◌, ◌-◌, ◌^◌, ◌<◌, ◌≤◌, ◌≡◌, ◌≢◌, ◌⊎◌, List, [], length}}
use Rattle.std.specs.Prelude.{take, drop, Option, Some, IfSome, IsSomeAnd, Result, Ok, Err}
use Rattle.{mg_disk.specs.{Disk.Image, Stops.{CountRose, Leaves}}, mg_faults.specs.Faults.Rose}
use Rattle.{mg_io.specs.Known.{AppendsPrefix, TakesAtMost}, mg_model.specs.{Ended.ended_lines, Lines.lines}}
use Rattle.mg_model.specs.{Print.answered, State.State, Volume.{Is, volume}, declared.calls.Line.Line}
use Rattle.mg_serve.specs.declared.{ended.Ended.Ended, status.Status.Status}
use Rattle.mg_disk.specs.declared.disk.Disk as disks
use Rattle.mg_io.specs.declared.traits.Sink as sinks
use Rattle.mg_io.specs.declared.traits.Source as sources
use Rattle.mg_serve.specs.declared.ended.Ended.TheVariants as ended
use Rattle.mg_serve.specs.declared.status.Status.TheVariants as status

-- How a command ends

-- the exit status
abbrev pub code_of : Status → ℕ
code_of status.Done = 0
code_of status.Usage = 1
code_of status.NoVolume = 2
code_of status.Memory = 3
code_of status.Disk = 4
code_of status.Source = 5
code_of status.Sink = 6
code_of status.TooLong = 7
code_of status.TooSmall = 8

-- done, or there was not enough memory
abbrev pub IsDoneOrMemory : Status → Type 0
IsDoneOrMemory result = (result ≡ status.Done) ⊎ (result ≡ status.Memory)

-- how a session may end
abbrev pub EndsSession : Status → Type 0
EndsSession result =
    (result ≡ status.Done) ⊎ ((result ≡ status.Memory) ⊎ ((result ≡ status.Disk)
    ⊎ ((result ≡ status.Source) ⊎ ((result ≡ status.Sink) ⊎ (result ≡ status.TooLong)))))

-- the status of a session that ended early
abbrev pub status_at : Ended → Status
status_at ended.Disk = status.Disk
status_at ended.Source = status.Source
status_at ended.Sink = status.Sink
status_at ended.TooLong = status.TooLong

-- the status of a session that ended so
abbrev pub status_of : {T : Type 0} → Result T Ended → Status
status_of (Ok x) = status.Done
status_of (Err e) = status_at e

-- what holds once a session ended, unless the disk ended it
abbrev pub UnlessDisk : {T : Type 0} → Result T Ended → Type 0 → Type 0
UnlessDisk (Err ended.Disk) P = Unit {0}
UnlessDisk _ P = P

-- The objects of a session

-- An object: what is told of it, and the object as a call found it and as it left it.
pub record Use (Facts : Type 1) (X : Type 0) : Type 1 where
  pub facts : Facts
  pub old : X
  pub new : X

abbrev pub use_of : {Facts : Type 1} {X : Type 0} → Facts → X → X → Use Facts X
use_of facts old new = record { facts = facts; old = old; new = new }

-- a disk, a source and a sink
abbrev pub DiskUse : Type 0 → Type 1
DiskUse D = Use (disks.Ghosts D) D

abbrev pub SourceUse : Type 0 → Type 1
SourceUse S = Use (sources.Ghosts S) S

abbrev pub SinkUse : Type 0 → Type 1
SinkUse K = Use (sinks.Ghosts K) K

-- the count of faults rose, or is at its last value
abbrev pub DiskRose : {D : Type 0} → DiskUse D → Type 0
DiskRose d = CountRose d.facts d.old d.new

abbrev pub SourceRose : {S : Type 0} → SourceUse S → Type 0
SourceRose i = Rose (i.facts.faults i.old) (i.facts.faults i.new) (i.facts.is_spent i.new)

abbrev pub SinkRose : {K : Type 0} → SinkUse K → Type 0
SinkRose o = Rose (o.facts.faults o.old) (o.facts.faults o.new) (o.facts.is_spent o.new)

-- a stop at the end may leave this image
abbrev pub MayLeave : {D : Type 0} → DiskUse D → Image → Type 0
MayLeave d c = (d.facts.time d.new).left_since (d.facts.time d.new).moment c

-- at each moment a stop left such an image
abbrev pub AlwaysLeft : {D : Type 0} → DiskUse D → (Image → Type 0) → Type 0
AlwaysLeft d P = Leaves d.facts d.old d.new P

-- reads give an image that spells this state
abbrev pub SpellsNow : {D : Type 0} → DiskUse D → State → Type 0
SpellsNow d state = IsSomeAnd (d.facts.seen d.new) (λ image. volume image ≡ Is state)

-- the bytes that a source had left, and those that it has left now
abbrev pub left_at : {S : Type 0} → SourceUse S → Option (List ℕ)
left_at i = i.facts.left i.old

abbrev pub left_now : {S : Type 0} → SourceUse S → Option (List ℕ)
left_now i = i.facts.left i.new

-- what holds of the input, if it is told: the bytes that the source had left
abbrev pub OfInput : {S : Type 0} → SourceUse S → (List ℕ → Type 0) → Type 0
OfInput i P = IfSome (left_at i) P

-- what holds of the input and of the rest of it that was not taken
abbrev pub OfRest : {S : Type 0} → SourceUse S → (List ℕ → List ℕ → Type 0) → Type 0
OfRest i P = OfInput i (λ input. IsSomeAnd (left_now i) (λ rest. P input rest))

-- the sink took this text
abbrev pub Prints : {K : Type 0} → SinkUse K → List ℕ → Type 0
Prints o said = Appends (o.facts.taken o.old) (o.facts.taken o.new) said

-- the sink took a prefix of it
abbrev pub PrintsPrefix : {K : Type 0} → SinkUse K → List ℕ → Type 0
PrintsPrefix o said = AppendsPrefix (o.facts.taken o.old) (o.facts.taken o.new) said

-- what holds of the number of answered lines, if it is told what a sink had taken and what it has taken now: it is that of the
-- newlines
abbrev pub OfAnswered : Option (List ℕ) → Option (List ℕ) → (ℕ → Type 0) → Type 0
OfAnswered taken taken' P = IfSome taken (λ before. IsSomeAnd taken' (λ now. P (answered (drop (length before) now))))

-- the same of the sink of a session
abbrev pub OfAnsweredLines : {K : Type 0} → SinkUse K → (ℕ → Type 0) → Type 0
OfAnsweredLines o P = OfAnswered (o.facts.taken o.old) (o.facts.taken o.new) P

-- A session: how much of the input is taken

-- the bytes that a session may take
abbrev pub input_limit : ℕ
input_limit = 2 ^ 32

-- when the input is no longer than a session may take
abbrev pub IfShort : {S : Type 0} → SourceUse S → Type 0 → Type 0
IfShort i promise = OfInput i (λ input. length input ≤ input_limit → promise)

-- the bytes that were taken from an input
abbrev pub consumed : List ℕ → List ℕ → List ℕ
consumed input rest = take (length input - length rest) input

-- the session ended as it took bytes: the source failed, or gave too much
abbrev pub EndsTaking : Status → Type 0
EndsTaking result = (result ≡ status.Source) ⊎ (result ≡ status.TooLong)

-- the last of the lines that were taken was cut: bytes are left after it, or the session ended so
abbrev pub IsCut : Status → List ℕ → Type 0
IsCut result rest = (rest ≢ []) ⊎ EndsTaking result

-- A session: what is printed
-- A machine is described by two functions of the lines that it takes: `said`, the text of its replies to them, and `state_after`,
-- the state of its volume after them. For a kernel in the state `s` they are `replies_text s` and `after s`.

-- What the sink took of a session that ended with this status.
pub record Answers {S K : Type 0} (said : List Line → List ℕ) (result : Status) (i : SourceUse S) (o : SinkUse K) : Type 0 where
  -- At each status it is a prefix of the replies to the whole input.
  pub prefix : OfInput i (λ input. PrintsPrefix o (said (lines input)))
  -- At the end the source was read whole, and the sink took the replies to all of it.
  pub done : result ≡ status.Done → OfInput i (λ input. (left_now i ≡ Some []) × Prints o (said (lines input)))
  -- If the disk or the source failed, or too much came, it is the replies to some first lines, each of them whole.
  pub first_lines : (result ≡ status.Disk) ⊎ EndsTaking result →
      OfInput i (λ input. (k : ℕ) × (k ≤ length (lines input)) × Prints o (said (take k (lines input))))

-- A session: what a stop leaves

-- among the first k lines of an input are all that are answered, and none that did not come
pub record IsAnswered (input rest : List ℕ) (taken taken' : Option (List ℕ)) (k : ℕ) : Type 0 where
  pub all_answered : OfAnswered taken taken' (λ count. count ≤ k)
  pub came : k ≤ length (lines (consumed input rest))

-- the same, of what a sink took
abbrev pub AreHeld : {K : Type 0} → SinkUse K → List ℕ → List ℕ → ℕ → Type 0
AreHeld o input rest k = IsAnswered input rest (o.facts.taken o.old) (o.facts.taken o.new) k

-- an image spells the state after this many first lines
abbrev pub SpellsFirst : (List Line → State) → List ℕ → ℕ → Image → Type 0
SpellsFirst state_after input k c = volume c ≡ Is (state_after (take k (lines input)))

-- What a stop leaves of a session.
pub record Holds {D S K : Type 0} (state_after : List Line → State) (d : DiskUse D) (i : SourceUse S) (o : SinkUse K) : Type 0 where
  -- At each moment it leaves the state after some first lines.
  pub moments : OfInput i (λ input. AlwaysLeft d (λ c. (k : ℕ) × (k ≤ length (lines input)) × SpellsFirst state_after input k c))
  -- At the end, whatever the status, these are at least the answered lines, and all of them came.
  pub held : OfRest i (λ input rest. (c : Image) → MayLeave d c → (k : ℕ) × AreHeld o input rest k × SpellsFirst state_after input k c)

-- What a stop leaves once a session ended with this status, and not by the disk. Whatever was pending at entry: lines are
-- taken once opening has succeeded, and then nothing is pending.
pub record HoldsExactly {D S K : Type 0} (state_after : List Line → State) (result : Status)
    (d : DiskUse D) (i : SourceUse S) (o : SinkUse K) : Type 0 where
  -- If the source failed, or gave too much, the answered lines are held and no others.
  pub held_taking : EndsTaking result →
      OfInput i (λ input. OfAnsweredLines o (λ count. (c : Image) → MayLeave d c → SpellsFirst state_after input count c))
  -- Where the sink failed it is one and the same state, after some first lines as at the end of every session.
  pub held_sink : result ≡ status.Sink →
      OfRest i (λ input rest. (k : ℕ) × AreHeld o input rest k × ((c : Image) → MayLeave d c → SpellsFirst state_after input k c))

-- A session: when each status comes

-- How a session in batches of `batch` replies ends, and how much of the input it takes, whatever reads tell.
pub record Ends {S K : Type 0} (batch limit : ℕ) (result : Status) (i : SourceUse S) (o : SinkUse K) : Type 0 where
  -- If the source failed, or gave too much, fewer calls than a batch are unanswered of the lines that are ended among the first
  -- `limit` bytes taken.
  pub few : EndsTaking result →
      OfRest i (λ input rest. OfAnsweredLines o (λ count. length (ended_lines (take limit (consumed input rest))) < count + batch))
  -- There is not enough memory only before anything was taken or printed.
  pub memory : result ≡ status.Memory → (i.new ≡ i.old) × (o.new ≡ o.old)
  -- The source and the sink failed only if their counts rose.
  pub source_failed : result ≡ status.Source → SourceRose i
  pub sink_failed : result ≡ status.Sink → SinkRose o
  -- The input is too long exactly if more was taken than a session may, unless a call failed.
  pub too_long : result ≡ status.TooLong → OfRest i (λ input rest. limit + length rest < length input)
  pub within : (result ≡ status.Done) ⊎ (result ≡ status.Source) → TakesAtMost limit (left_at i) (left_now i)
  -- At each status no more is taken than that, and a piece.
  pub bounded : TakesAtMost (limit + 4096) (left_at i) (left_now i)
