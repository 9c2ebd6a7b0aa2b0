-- A session of any machine that takes lines: where it began and where it is, and what is said of the lines between.
-- `Session` and `Broken` are any two words for this. The lines that are cut from the input and the lines that are stepped
-- are kept apart, so nothing here depends on how the input is cut.
use Rattle.std.specs.Prelude.{ℕ, ◌≡◌, Bool, List, [], ◌∷◌, ◌++◌, Option, Some}
use Rattle.{mg_disk.specs.{Disk.Image, Stops.{NothingPending, WritesNothing}}, mg_model.specs.Counts.CountsAlike}
use Rattle.mg_model.specs.{Print.reply_line, State.State, Volume.{Is, volume}, declared.calls.Line.Line}
use Rattle.{mg_model.specs.declared.replies.Reply.Reply, mg_serve.specs.{Waiting.Waiting, declared.ended.Ended.Ended}}
use Rattle.mg_disk.specs.declared.disk.Disk as disks
use Rattle.mg_serve.specs.declared.ended.Ended.TheVariants as ended

-- A machine is described by what it says to lines to come, and by the state that it keeps after them.

-- a line was answered so: what was said from it on is its reply and what is said after it, and what was kept is what is kept
pub record AnswersLine (said : List Line → List ℕ) (kept : List Line → State)
    (said' : List Line → List ℕ) (kept' : List Line → State) (line : Line) (reply : Reply) : Type 0 where
  pub says : (ls : List Line) → said (line ∷ ls) ≡ reply_line reply ++ said' ls
  pub none : said' [] ≡ []
  pub keeps : (ls : List Line) → kept (line ∷ ls) ≡ kept' ls

-- whatever came of a line: nothing was written, and the machine serves on as it did
pub record ServesOn {D : Type 0} (facts : disks.Ghosts D) (Stands : Type 0)
    (alive alive' : Bool) (words words' : ℕ) (old new : D) (steps steps' : ℕ) : Type 0 where
  pub stands : Stands
  pub settled : NothingPending facts new
  pub writes : WritesNothing facts old new
  pub live : alive' ≡ alive
  pub counted : CountsAlike words words' steps steps'

-- reads give an image that spells the state of now, and over it the machine says and keeps what it did
pub record Commits (said : List Line → List ℕ) (kept : List Line → State)
    (said' : Image → List Line → List ℕ) (kept' : Image → List Line → State) (told : Option Image) : Type 0 where
  pub image : Image
  pub seen : told ≡ Some image
  pub spelled : volume image ≡ Is (kept [])
  pub says : (ls : List Line) → said' image ls ≡ said ls
  pub keeps : (ls : List Line) → kept' image ls ≡ kept ls

-- a machine after a commit: it stands on the disk, and nothing is staged or pending
pub record Rests {D : Type 0} (facts : disks.Ghosts D) (Stands : Type 0) (staged : ℕ) (disk : D) : Type 0 where
  pub stands : Stands
  pub settled : NothingPending facts disk
  pub none_staged : staged ≡ 0

-- where a session began
pub record Entry (M D : Type 0) : Type 0 where
  pub machine : M
  pub disk : D
  pub taken : Option (List ℕ)
  pub steps : ℕ

-- where it is
pub record Point (M D : Type 0) : Type 0 where
  pub machine : M
  pub disk : D
  pub owed : Waiting
  pub taken : Option (List ℕ)
  pub steps : ℕ

-- a line ends a session only by the disk or by the sink
abbrev pub IsInside : Ended → Type 0
IsInside ended.Disk = Unit {0}
IsInside ended.Sink = Unit {0}
IsInside ended.Source = ⊥
IsInside ended.TooLong = ⊥

module _ {M D : Type 0} (Session : Entry M D → List Line → Point M D → Type 0) where
  -- whatever was stepped before, these lines were stepped from old to new
  abbrev pub Runs : Point M D → List Line → Point M D → Type 0
  Runs old ls new = (entry : Entry M D) (sofar : List Line) → Session entry sofar old → Session entry (sofar ++ ls) new

  -- the same, with no line between them
  abbrev pub Closes : Point M D → Point M D → Type 0
  Closes old new = (entry : Entry M D) (ls : List Line) → Session entry ls old → Session entry ls new

module _ {M D : Type 0} (Session : Entry M D → List Line → Point M D → Type 0) (Broken : Ended → Entry M D → List Line → List ℕ → Point M D → Type 0) where
  -- the session ended between them, with some bytes sent since it began
  abbrev pub Halts : Ended → Point M D → List Line → Point M D → Type 0
  Halts e old ls new = (entry : Entry M D) (sofar : List Line) → Session entry sofar old → (put : List ℕ) × Broken e entry (sofar ++ ls) put new

  -- the same, with no line between them
  abbrev pub FailsToClose : Ended → Point M D → Point M D → Type 0
  FailsToClose e old new = (entry : Entry M D) (ls : List Line) → Session entry ls old → (put : List ℕ) × Broken e entry ls put new
