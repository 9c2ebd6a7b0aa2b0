-- A session of a machine on a volume: which lines are kept and answered, which wait, and what a stop may leave.
use Rattle.std.specs.{Io.KnownBytes.Appends, Option.ForSome, Prelude.{ℕ, ◌≡◌, ◌≢◌, ◌⊎◌, ◌<◌, ◌≤◌, ◌+◌, Bool, false}}
use Rattle.std.specs.Prelude.{true, List, ◌++◌, length, take, drop, Option, Some, IfSome, IsSomeAnd, IsTrue, Result}
use Rattle.std.specs.Prelude.{Err}
use Rattle.{mg_disk.specs.{Disk.Image, Stops.{DiskCallsBy, Leaves, NothingPending}}, mg_faults.specs.Faults.CountGoesOn}
use Rattle.{mg_faults.specs.Faults.Rose, mg_model.specs.{Counts.CountsAlike, Ended.ended_lines, Lines.lines}}
use Rattle.mg_model.specs.{Print.answered, State.State, Volume.{Is, volume}, declared.calls.Line.Line}
use Rattle.mg_serve.specs.{Machines.{Entry, Point}, Parts.{IsPrefix, SpellsAfter}, Sessions.{Answers, DiskRose}}
use Rattle.mg_serve.specs.Sessions.{DiskUse, Ends, EndsSession, Holds, HoldsExactly, IsCut, IsDoneOrMemory, OfInput}
use Rattle.mg_serve.specs.{Sessions.{SinkRose, SinkUse, SourceRose, SourceUse, UnlessDisk, consumed}, Waiting.Waiting}
use Rattle.mg_serve.specs.declared.{ended.Ended.Ended, status.Status.Status}
use Rattle.mg_disk.specs.declared.disk.Disk as disks
use Rattle.mg_io.specs.declared.traits.Sink as sinks
use Rattle.mg_serve.specs.declared.ended.Ended.TheVariants as ended
use Rattle.mg_serve.specs.declared.machine.Machine as machines
use Rattle.mg_serve.specs.declared.status.Status.TheVariants as status

-- the input has no more than this many bytes, if it is told
abbrev pub IsWithin : ℕ → Option (List ℕ) → Type 0 → Type 0
IsWithin limit left promise = IfSome left (λ input. length input ≤ limit → promise)

-- A machine may serve lines in batches of `batch` replies: it is live and stands on the disk, nothing is staged, and a batch has 1 to
-- 64 replies.
pub record MayServe {M D : Type 0} (is : machines.Ghosts M) (facts : disks.Ghosts D) (batch : ℕ) (m : M) (disk : D) : Type 0 where
  pub live : IsTrue (is.is_live m)
  pub stands : is.StandsOn D facts m disk
  pub none_staged : is.staged_of m ≡ 0
  pub at_least_1 : 1 ≤ batch
  pub small : batch ≤ 64

-- It serves them: it is live and stands on the disk, so few blocks are staged that a line more has room, and so has its reply.
pub record IsServing {M D : Type 0} (is : machines.Ghosts M) (facts : disks.Ghosts D) (batch : ℕ) (m : M) (disk : D) (owed : Waiting) : Type 0 where
  pub live : IsTrue (is.is_live m)
  pub stands : is.StandsOn D facts m disk
  pub staged : is.staged_of m ≤ 28
  pub open_batch : owed.count < batch
  pub small : batch ≤ 64

-- What each call within a session keeps, however it ends: unless the disk failed the machine is live and stands on the disk;
-- the two counts of words rise by as much; and the disk and the sink failed only if their counts rose.
pub record Keeps {M D K T : Type 0} (is : machines.Ghosts M) (facts : disks.Ghosts D) (to : sinks.Ghosts K)
    (m : M) (disk : D) (sink : K) (steps : ℕ) (result : Result T Ended) (m' : M) (disk' : D) (sink' : K) (steps' : ℕ) : Type 0 where
  pub live : UnlessDisk result (IsTrue (is.is_live m'))
  pub stands : UnlessDisk result (is.StandsOn D facts m' disk')
  pub counted : CountsAlike (is.words_in m) (is.words_in m') steps steps'
  pub calls : DiskCallsBy facts disk disk' (result ≡ Err ended.Disk)
  pub sink_count : CountGoesOn (to.faults sink) (to.faults sink') (to.is_spent sink) (to.is_spent sink')
  pub sink_cause : result ≡ Err ended.Sink → Rose (to.faults sink) (to.faults sink') (to.is_spent sink')

-- the image spells the state after some first lines, and after this many at least
abbrev pub IsBetween : ℕ → (List Line → State) → List Line → Image → Type 0
IsBetween low kept ls c = (k : ℕ) × (low ≤ k) × (k ≤ length ls) × (volume c ≡ Is (kept (take k ls)))

-- when reads were told: `done` is kept and answered, `waiting` was stepped since; `first` is the image at the entry
pub record Stands {M D : Type 0} (is : machines.Ghosts M) (facts : disks.Ghosts D) (entry : Entry M D) (first : Image) (done waiting : List Line) (put : List ℕ) (p : Point M D) : Type 0 where
  pub image : Image
  pub seen : facts.seen p.disk ≡ Some image
  pub spelled : volume image ≡ Is (is.kept entry.machine first done)
  -- what comes is said and kept as it would be after these lines
  pub says : (ls : List Line) → is.said entry.machine first ((done ++ waiting) ++ ls) ≡ (put ++ p.owed.text) ++ is.said p.machine image ls
  pub keeps : (ls : List Line) → is.kept entry.machine first ((done ++ waiting) ++ ls) ≡ is.kept p.machine image ls
  pub replies : put ≡ is.said entry.machine first done
  pub owed : put ++ p.owed.text ≡ is.said entry.machine first (done ++ waiting)
  pub leaves : Leaves facts entry.disk p.disk (IsPrefix (is.kept entry.machine first) (done ++ waiting))
  pub stepped : is.Stepped entry.machine first (done ++ waiting) entry.steps p.steps p.machine

-- since `entry` these lines were stepped
pub record Session {M D : Type 0} (is : machines.Ghosts M) (facts : disks.Ghosts D) (entry : Entry M D) (ls : List Line) (p : Point M D) : Type 0 where
  pub done : List Line
  pub waiting : List Line
  pub put : List ℕ
  pub split : ls ≡ done ++ waiting
  pub sink : Appends entry.taken p.taken put
  pub answers : answered put ≡ length done
  pub owes : answered p.owed.text ≡ length waiting
  pub count : p.owed.count ≡ length waiting
  pub told : ForSome (facts.seen entry.disk) (λ first. Stands is facts entry first done waiting put p)

-- what a stop may leave if a session ended so, with this many lines answered; a disk that failed in a commit leaves a
-- machine that is not live
abbrev pub Held : Ended → Bool → ℕ → (List Line → State) → List Line → Image → Type 0
Held ended.Disk false low kept ls c = IsBetween low kept ls c
Held ended.Disk true low kept ls c = volume c ≡ Is (kept (take low ls))
Held ended.Source alive low kept ls c = volume c ≡ Is (kept (take low ls))
Held ended.TooLong alive low kept ls c = volume c ≡ Is (kept (take low ls))
Held ended.Sink alive low kept ls c = volume c ≡ Is (kept ls)

-- whole replies were sent, unless the sink failed
abbrev pub PutsWhole : Ended → (List Line → List ℕ) → List Line → List ℕ → Type 0
PutsWhole ended.Disk said ls put = put ≡ said (take (answered put) ls)
PutsWhole ended.Source said ls put = put ≡ said (take (answered put) ls)
PutsWhole ended.TooLong said ls put = put ≡ said (take (answered put) ls)
PutsWhole ended.Sink said ls put = Unit {0}

-- what else is said of the lines, of which this many are answered: the disk may have failed in the last of them
abbrev pub IsAfter : {M : Type 0} → machines.Ghosts M → Ended → ℕ → M → Image → List Line → ℕ → ℕ → M → Type 0
IsAfter is ended.Disk count old first ls steps steps' new = is.Stepped old first ls steps steps' new ⊎ ((count < length ls) × is.StoppedIn old first ls steps steps' new)
IsAfter is ended.Source count old first ls steps steps' new = is.Stepped old first ls steps steps' new
IsAfter is ended.TooLong count old first ls steps steps' new = is.Stepped old first ls steps steps' new
IsAfter is ended.Sink count old first ls steps steps' new = is.Stepped old first ls steps steps' new

-- when reads were told: what is left of a session that ended so
pub record Remains {M D : Type 0} (is : machines.Ghosts M) (facts : disks.Ghosts D) (e : Ended) (entry : Entry M D) (first : Image) (ls : List Line) (put : List ℕ) (p : Point M D) : Type 0 where
  pub replies : (later : List Line) → (more : List ℕ) × (is.said entry.machine first (ls ++ later) ≡ put ++ more)
  pub whole : PutsWhole e (is.said entry.machine first) ls put
  pub leaves : Leaves facts entry.disk p.disk (IsPrefix (is.kept entry.machine first) ls)
  pub held : (c : Image) → (facts.time p.disk).left_since (facts.time p.disk).moment c → Held e (is.is_live p.machine) (answered put) (is.kept entry.machine first) ls c
  pub stepped : IsAfter is e (answered put) entry.machine first ls entry.steps p.steps p.machine

-- the session in batches of `batch` replies ended so, with these bytes sent, and had stepped these lines
pub record Broken {M D : Type 0} (is : machines.Ghosts M) (facts : disks.Ghosts D) (batch : ℕ) (e : Ended) (entry : Entry M D) (ls : List Line) (put : List ℕ) (p : Point M D) : Type 0 where
  pub sink : Appends entry.taken p.taken put
  pub fewer : answered put ≤ length ls
  pub near : length ls ≤ answered put + batch
  pub told : ForSome (facts.seen entry.disk) (λ first. Remains is facts e entry first ls put p)

-- the first `stepped` lines of the input were stepped, and `count` of them are answered
pub record IsTraced {M : Type 0} (is : machines.Ghosts M) (batch : ℕ) (result : Status) (old : M) (image : Image) (input rest : List ℕ) (taken taken' : Option (List ℕ)) (steps steps' : ℕ) (new : M) : Type 0 where
  pub stepped : ℕ
  pub count : ℕ
  -- they are among the lines of the bytes that came
  pub few : stepped ≤ length (lines input)
  pub came : (more : List Line) × (lines (consumed input rest) ≡ take stepped (lines input) ++ more)
  -- and if the last line was cut, among those that a newline ended
  pub ended : IsCut result rest → (more : List Line) × (ended_lines (consumed input rest) ≡ take stepped (lines input) ++ more)
  pub answers : IfSome taken (λ before. IsSomeAnd taken' (λ now. answered (drop (length before) now) ≡ count))
  -- all answered lines are among them, and at most a batch more: none at the end
  pub least : count ≤ stepped
  pub most : stepped ≤ count + batch
  pub done : result ≡ status.Done → (stepped ≡ length (lines input)) × (count ≡ stepped)
  pub source : result ≡ status.Source → stepped < count + batch
  pub too_long : result ≡ status.TooLong → stepped < count + batch
  -- what the machine says of them; the disk may have failed in the last
  pub at_disk : result ≡ status.Disk → is.Stepped old image (take stepped (lines input)) steps steps' new ⊎ ((count < stepped) × is.StoppedIn old image (take stepped (lines input)) steps steps' new)
  pub after : result ≢ status.Disk → is.Stepped old image (take stepped (lines input)) steps steps' new

-- the same, if it is told what the source gives
abbrev pub Traces : {M : Type 0} → machines.Ghosts M → ℕ → Status → M → Image → Option (List ℕ) → Option (List ℕ) → Option (List ℕ) → Option (List ℕ) → ℕ → ℕ → M → Type 0
Traces is batch result old image left left' taken taken' steps steps' new =
    IfSome left (λ input. IsSomeAnd left' (λ rest. IsTraced is batch result old image input rest taken taken' steps steps' new))

-- What is kept as lines run on a machine that stands on a disk, in batches of `batch` replies.
pub record Serves {M D S K : Type 0} (is : machines.Ghosts M) (batch limit : ℕ) (result : Status) (m m' : M) (d : DiskUse D) (i : SourceUse S) (o : SinkUse K) (steps steps' : ℕ) : Type 0 where
  pub which : EndsSession result
  pub answers : ForSome (d.facts.seen d.old) (λ image. Answers (is.said m image) result i o)
  pub kept : result ≡ status.Done → ForSome (d.facts.seen d.old) (λ image. OfInput i (λ input. SpellsAfter (is.kept m image) input (d.facts.seen d.new)))
  pub holds : ForSome (d.facts.seen d.old) (λ image. Holds (is.kept m image) d i o)
  pub holds_exactly : ForSome (d.facts.seen d.old) (λ image. HoldsExactly (is.kept m image) result d i o)
  pub traces : ForSome (d.facts.seen d.old) (λ image. Traces is batch result m image (i.facts.left i.old) (i.facts.left i.new) (o.facts.taken o.old) (o.facts.taken o.new) steps steps' m')
  pub ends : Ends batch limit result i o
  -- At the end nothing is pending.
  pub settled : result ≡ status.Done → NothingPending d.facts d.new
  -- The disk failed only if its count rose.
  pub disk_failed : result ≡ status.Disk → DiskRose d
  -- If no call failed and the input is not too long, all is done, or there was not enough memory.
  pub complete : (DiskRose d → ⊥) → (SourceRose i → ⊥) → (SinkRose o → ⊥) → IsWithin limit (i.facts.left i.old) (IsDoneOrMemory result)
