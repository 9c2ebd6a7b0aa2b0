-- What the program promises: the words and the records of the clauses of `top` and of `serve`, in the order in which
-- docs/PROMISES.md states them. An object that does not tell its content has None for it; a promise on content is then empty.
use Rattle.std.specs.{Fmt.decimal, Io.KnownBytes.Appends, List.range_with_len, Option.ForSome, Prelude.{ℕ, ◌+◌, ◌<◌}}
use Rattle.std.specs.Prelude.{◌≤◌, ◌≡◌, ◌≢◌, ◌⊎◌, List, [], ◌∷◌, ◌++◌, codes, filter_map, length, take, Option, IfSome}
use Rattle.std.specs.Prelude.{IsSomeAnd}
use Rattle.mg_disk.specs.{Disk.Image, Stops.{FromLeft, LeftOr, MightHaveLeft, NothingPending, WritesNothing}}
use Rattle.{mg_faults.specs.Faults.Rose, mg_gen.specs.{Generated.{line_text, generated_settings}, Summary.summary_text}}
use Rattle.{mg_io.specs.{Arguments.PrintsUsage, Known.AppendsPrefix}, mg_layout.specs.MayFormat.{IsNoState, MayFormat}}
use Rattle.{mg_layout.specs.MayFormat.ReadsFresh, mg_model.specs.{Bank.used, Draw.password_drawn, Ended.ended_lines}}
use Rattle.mg_model.specs.{Fresh.{fresh, root_base}, Layout.total_blocks, Lines.{line_of, lines}, Print.hex_text}
use Rattle.mg_model.specs.{Print.{ok_text, replies_text, spaced}, Settings.Settings, State.State, Step.{after, step}}
use Rattle.mg_model.specs.{Volume.{Damaged, Is, NotVolume, OldVolume, VolumeRead, volume}, Warmth.cost}
use Rattle.{mg_model.specs.declared.{calls.Line.Line, replies.Reply.Reply}, mg_serve.specs.Counting.CountsEach}
use Rattle.mg_serve.specs.Sessions.{OfAnswered, AlwaysLeft, Answers, AreHeld, DiskRose, DiskUse, Ends, EndsSession}
use Rattle.mg_serve.specs.Sessions.{HoldsExactly, IfShort, IsCut, IsDoneOrMemory, MayLeave, OfInput, OfRest, Prints}
use Rattle.mg_serve.specs.Sessions.{PrintsPrefix, SinkRose, SinkUse, SourceRose, SourceUse, SpellsFirst, SpellsNow}
use Rattle.mg_serve.specs.{Sessions.{input_limit, left_at, left_now, consumed}, declared.status.Status.Status}
use Rattle.mg_disk.specs.declared.disk.Disk as disks
use Rattle.mg_io.specs.declared.traits.Sink as sinks
use Rattle.mg_serve.specs.declared.status.Status.TheVariants as status

-- A session

-- A session: how many replies make a batch, how it ended, its disk, its source and its sink, and the counter of words as it began and as
-- it ended.
pub record Session (D S K : Type 0) : Type 1 where
  pub batch : ℕ
  pub result : Status
  pub disk : DiskUse D
  pub source : SourceUse S
  pub sink : SinkUse K
  pub steps : ℕ
  pub steps' : ℕ

abbrev pub session_of : {D S K : Type 0} → ℕ → Status → DiskUse D → SourceUse S → SinkUse K → ℕ → ℕ → Session D S K
session_of batch result disk source sink steps steps' =
    record { batch = batch; result = result; disk = disk; source = source; sink = sink; steps = steps; steps' = steps' }

-- the counter of words rose by no more than these lines may cost
abbrev pub CostsAtMost : State → List Line → ℕ → ℕ → Type 0
CostsAtMost s ls steps steps' = steps' ≤ steps + cost s ls

-- It rose by no more than the lines of the bytes that were taken may cost. If the last of them was cut, it is not among them.
abbrev pub IsWithinCost : State → Status → Option (List ℕ) → Option (List ℕ) → ℕ → ℕ → Type 0
IsWithinCost s result left left' steps steps' =
    IfSome left (λ input. IsSomeAnd left' (λ rest. CostsAtMost s (lines (consumed input rest)) steps steps'
    × (IsCut result rest → CostsAtMost s (ended_lines (consumed input rest)) steps steps')))

-- some first lines of an input were stepped, and what each of them counts adds up to the counter's rise
pub record CountsFirst (s : State) (result : Status) (input : List ℕ) (taken taken' : Option (List ℕ)) (steps steps' : ℕ) : Type 0 where
  pub stepped : ℕ
  pub came : stepped ≤ length (lines input)
  -- among them are all that were answered, and at the end all lines
  pub answered_lines : OfAnswered taken taken' (λ count. count ≤ stepped)
  pub done : result ≡ status.Done → stepped ≡ length (lines input)
  pub counts : CountsEach [] s (take stepped (lines input)) steps steps'

-- the same, if the input is told and the disk did not fail within a line
abbrev pub IsCounted : State → Status → Option (List ℕ) → Option (List ℕ) → Option (List ℕ) → ℕ → ℕ → Type 0
IsCounted s result left taken taken' steps steps' =
    result ≢ status.Disk → IfSome left (λ input. CountsFirst s result input taken taken' steps steps')

-- `VOLUME run` and `VOLUME run BATCH`

-- a promise on the state of the volume that reads give, if they are told and give one
abbrev pub OnVolume : Option Image → (State → Type 0) → Type 0
OnVolume told P = ForSome told (λ image. (s : State) → volume image ≡ Is s → P s)

-- what holds of the state of the volume that reads of a disk gave when a call found it
abbrev pub OfState : {D : Type 0} → DiskUse D → (State → Type 0) → Type 0
OfState d P = OnVolume (d.facts.seen d.old) P

-- when that image spells none
abbrev pub OfNoState : {D : Type 0} → DiskUse D → Type 0 → Type 0
OfNoState d P = ForSome (d.facts.seen d.old) (λ image. IsNoState (volume image) → P)

-- the line of what an image spells: of a volume its frames, objects, pages, accounts, threads, period and credits
abbrev pub check_line : VolumeRead → List ℕ
check_line NotVolume = codes "open not" ++ 10 ∷ []
check_line OldVolume = codes "open old" ++ 10 ∷ []
check_line Damaged = codes "open damaged" ++ 10 ∷ []
check_line (Is s) =
    ok_text (decimal s.settings.frames ∷ decimal (length s.objects) ∷ decimal (used s.objects) ∷ decimal (length s.accounts)
    ∷ decimal (length s.threads) ∷ decimal s.counters.period ∷ decimal s.settings.credits ∷ []) ++ 10 ∷ []

-- reads give a volume of this kind, or one of these kinds of none, and its line was printed
pub record TellsLine (kind : VolumeRead → Type 0) (told : Option Image) (taken taken' : Option (List ℕ)) : Type 0 where
  pub read : VolumeRead
  pub is_kind : kind read
  pub is : ForSome told (λ image. volume image ≡ read)
  pub put : Appends taken taken' (check_line read)

-- how a command may end on a disk that holds no volume
abbrev pub EndsUnopened : Status → Type 0
EndsUnopened result = (result ≡ status.NoVolume) ⊎ ((result ≡ status.Memory) ⊎ ((result ≡ status.Disk) ⊎ (result ≡ status.Sink)))

-- What a command that opens a volume does if there is none.
pub record TellsOfNone {D K : Type 0} (facts : disks.Ghosts D) (to : sinks.Ghosts K) (result : Status)
    (disk disk' : D) (sink sink' : K) : Type 0 where
  -- It ends without a volume only if reads give none; the line says which kind of none, and nothing is written, on every disk.
  pub none : result ≡ status.NoVolume →
      TellsLine IsNoState (facts.seen disk) (to.taken sink) (to.taken sink') × WritesNothing facts disk disk'
  -- If reads give none it ends so, unless a call failed or there was not enough memory, and what is printed is a prefix of that line.
  pub not_opened : ForSome (facts.seen disk) (λ image. IsNoState (volume image) →
      EndsUnopened result × AppendsPrefix (to.taken sink) (to.taken sink') (check_line (volume image)))

-- how `run` may end
abbrev pub EndsRun : Status → Type 0
EndsRun result = (result ≡ status.NoVolume) ⊎ EndsSession result

-- What a stop leaves of a command that opens a volume and runs lines on it, whatever was pending.
pub record HoldsSince {D S K : Type 0} (state_after : List Line → State) (d : DiskUse D) (i : SourceUse S) (o : SinkUse K) : Type 0 where
  -- At each moment it leaves what it might have left before, or the state after some first lines.
  pub moments : OfInput i (λ input. AlwaysLeft d (LeftOr d.facts d.old (λ c.
      (k : ℕ) × (k ≤ length (lines input)) × SpellsFirst state_after input k c)))
  -- At the end these are at least the answered lines, and all of them came. Only if no line was answered may it leave what it might have
  -- left before.
  pub held : OfRest i (λ input rest. (c : Image) → MayLeave d c → (MightHaveLeft d.facts d.old c × AreHeld o input rest 0)
      ⊎ ((k : ℕ) × AreHeld o input rest k × SpellsFirst state_after input k c))

-- What is kept as lines run on the volume of a disk, by a machine that says and keeps this from a state on. The state is that of the
-- volume that reads give at entry.
pub record LinesKeep {D S K : Type 0} (said : State → List Line → List ℕ) (state_after : State → List Line → State)
    (s : Session D S K) : Type 0 where
  pub answers : OfState s.disk (λ state. Answers (said state) s.result s.source s.sink)
  -- At the end reads give the state after all lines.
  pub kept : s.result ≡ status.Done →
      OfState s.disk (λ state. OfInput s.source (λ input. SpellsNow s.disk (state_after state (lines input))))
  pub holds : OfState s.disk (λ state. HoldsSince (state_after state) s.disk s.source s.sink)
  pub holds_exactly : OfState s.disk (λ state. HoldsExactly (state_after state) s.result s.disk s.source s.sink)
  -- At status 0 nothing is pending.
  pub settled : s.result ≡ status.Done → NothingPending s.disk.facts s.disk.new
  pub ends : Ends s.batch input_limit s.result s.source s.sink
  pub which : EndsRun s.result
  -- The disk failed only if its count rose.
  pub disk_failed : s.result ≡ status.Disk → DiskRose s.disk
  pub without : TellsOfNone s.disk.facts s.sink.facts s.result s.disk.old s.disk.new s.sink.old s.sink.new
  -- If there is no volume nothing is taken, and nothing is written at any status. Nothing is printed there if the disk failed.
  pub none_source : s.result ≡ status.NoVolume → s.source.new ≡ s.source.old
  pub untouched : OfNoState s.disk ((s.source.new ≡ s.source.old) × WritesNothing s.disk.facts s.disk.old s.disk.new
      × (s.result ≡ status.Disk → s.sink.new ≡ s.sink.old))
  -- If reads give a volume, no call failed and the input is not too long, all is done, or there was not enough memory.
  pub complete : OfState s.disk (λ _. (DiskRose s.disk → ⊥) → (SourceRose s.source → ⊥) → (SinkRose s.sink → ⊥)
      → IfShort s.source (IsDoneOrMemory s.result))

-- What a run of lines costs.
pub record RunCosts {D S K : Type 0} (s : Session D S K) : Type 0 where
  -- At each status the counter rose by no more than the lines that were read may cost.
  pub cost : OfState s.disk (λ state. IsWithinCost state s.result (left_at s.source) (left_now s.source) s.steps s.steps')
  -- Unless the disk failed it rose by what each of the lines counts that were stepped. So a line that repeats an access counts its own
  -- words alone: no list is read for it.
  pub counts : OfState s.disk (λ state. IsCounted state s.result (left_at s.source)
      (s.sink.facts.taken s.sink.old) (s.sink.facts.taken s.sink.new) s.steps s.steps')
  -- If there is no volume it does not rise.
  pub none_steps : s.result ≡ status.NoVolume → s.steps' ≡ s.steps
  pub untouched_steps : OfNoState s.disk (s.steps' ≡ s.steps)

-- What `run` keeps: the machine's replies are `replies_text`, and its states `after`; and what it may cost.
pub record RunKeeps {D S K : Type 0} (s : Session D S K) : Type 0 where
  pub lines : LinesKeep replies_text after s
  pub costs : RunCosts s

-- `VOLUME dry FRAMES SEED CREDITS`

-- What `dry` keeps, from the fresh state of these settings, in batches of 64 replies.
pub record DryKeeps {S K : Type 0} (settings : Settings) (result : Status) (i : SourceUse S) (o : SinkUse K)
    (steps steps' : ℕ) : Type 0 where
  pub answers : Answers (replies_text (fresh settings)) result i o
  -- At each status the counter rose by no more than the lines that were read may cost.
  pub cost : IsWithinCost (fresh settings) result (left_at i) (left_now i) steps steps'
  -- It rose by what each of the lines counts that were stepped.
  pub counts : IsCounted (fresh settings) result (left_at i) (o.facts.taken o.old) (o.facts.taken o.new) steps steps'
  pub ends : Ends 64 input_limit result i o
  -- It needs no volume and no disk.
  pub others : (result ≢ status.Usage) × (result ≢ status.NoVolume) × (result ≢ status.Disk) × (result ≢ status.TooSmall)
  -- If no call failed and the input is not too long, all is done, or there was not enough memory.
  pub complete : (SourceRose i → ⊥) → (SinkRose o → ⊥) → IfShort i (IsDoneOrMemory result)

-- `VOLUME gen NUMBER LINES`

-- the first `count` lines of the run of a number, as they are read
abbrev pub generated_lines : ℕ → ℕ → List Line
generated_lines number count = filter_map (λ k. line_of (line_text number k)) (range_with_len 0 count)

-- the machine's replies to these lines
abbrev pub replies_from : State → List Line → List Reply
replies_from s [] = []
replies_from s (line ∷ more) = (step s line).1 ∷ replies_from (step s line).0 more

-- what is printed of a run from the fresh state: a line for `ok` and one for each refusal, each with the number of replies that were so
abbrev pub generated_text : ℕ → ℕ → List ℕ
generated_text number count = summary_text (replies_from (fresh generated_settings) (generated_lines number count))

-- What `gen` keeps.
pub record GenKeeps {K : Type 0} (number count : ℕ) (result : Status) (o : SinkUse K) (steps steps' : ℕ) : Type 0 where
  -- At the end the counts of the machine's replies were printed; at each status what was printed is a prefix of that.
  pub done : result ≡ status.Done → Prints o (generated_text number count)
  pub prefix : PrintsPrefix o (generated_text number count)
  -- At each status the counter rose by no more than the generated lines may cost.
  pub cost : steps' ≤ steps + cost (fresh generated_settings) (generated_lines number count)
  pub which : (result ≡ status.Done) ⊎ ((result ≡ status.Memory) ⊎ (result ≡ status.Sink))
  -- If there was not enough memory nothing was printed; the sink failed only if its count rose.
  pub memory : result ≡ status.Memory → o.new ≡ o.old
  pub sink_failed : result ≡ status.Sink → SinkRose o
  -- If no call failed all is done, or there was not enough memory.
  pub complete : (SinkRose o → ⊥) → IsDoneOrMemory result

-- `VOLUME check`

-- What `check` keeps.
pub record CheckKeeps {D K : Type 0} (result : Status) (d : DiskUse D) (o : SinkUse K) : Type 0 where
  -- At the end the line of the volume was printed.
  pub done : result ≡ status.Done →
      TellsLine (λ read. (s : State) × (read ≡ Is s)) (d.facts.seen d.old) (o.facts.taken o.old) (o.facts.taken o.new)
  -- At each status what was printed is a prefix of such a line, that of the image if reads are told.
  pub prefix : (read : VolumeRead) × ForSome (d.facts.seen d.old) (λ image. volume image ≡ read) × PrintsPrefix o (check_line read)
  pub writes : WritesNothing d.facts d.old d.new
  pub without : TellsOfNone d.facts o.facts result d.old d.new o.old o.new
  pub which : (result ≡ status.Done) ⊎ EndsUnopened result
  -- If there was not enough memory, or the disk failed, nothing was printed; the disk and the sink failed only if their counts rose.
  pub memory : result ≡ status.Memory → o.new ≡ o.old
  pub disk_failed : result ≡ status.Disk → DiskRose d × (o.new ≡ o.old)
  pub sink_failed : result ≡ status.Sink → SinkRose o
  -- Of a volume, if no call failed, all is done, or there was not enough memory.
  pub complete : OfState d (λ _. (DiskRose d → ⊥) → (SinkRose o → ⊥) → IsDoneOrMemory result)

-- `VOLUME format FRAMES SEED CREDITS`, with a tariff after it or none

-- the line of a volume that was made: the base of the root object, the root's password, and the treasury's
abbrev pub made_line : Settings → List ℕ
made_line settings =
    ok_text (hex_text root_base ∷ hex_text (password_drawn settings.seed 0) ∷ hex_text (password_drawn settings.seed 1) ∷ []) ++ 10 ∷ []

-- the line of a disk that is too small: how many blocks are needed, and how many there are
abbrev pub small_line : ℕ → ℕ → List ℕ
small_line need have = codes "small" ++ spaced (decimal need ∷ decimal have ∷ []) ++ 10 ∷ []

-- the fresh volume stands: reads give it, a stop leaves it and no other state, and nothing is pending
pub record IsMade {D : Type 0} (facts : disks.Ghosts D) (old new : D) (settings : Settings) : Type 0 where
  pub reads : ReadsFresh settings (facts.seen old) (facts.seen new)
  pub left : (c : Image) → (facts.time new).left_since (facts.time new).moment c → volume c ≡ Is (fresh settings)
  pub settled : NothingPending facts new

-- the blocks of the volume, and those of the disk
abbrev pub need_of : Settings → ℕ
need_of settings = total_blocks settings.frames

abbrev pub blocks_of : {D : Type 0} → DiskUse D → ℕ
blocks_of d = d.facts.block_count d.old

-- What `format` keeps. It never runs out of memory.
pub record FormatKeeps {D K : Type 0} (settings : Settings) (result : Status) (d : DiskUse D) (o : SinkUse K) : Type 0 where
  -- At each moment a stop leaves no volume, the fresh one, or, whatever was pending, what the blocks after the gate spelled in an
  -- image that a stop might have left before.
  pub moments : AlwaysLeft d (FromLeft d.facts d.old (λ image. MayFormat image settings))
  -- At the end the fresh volume stands, and the line gives its passwords.
  pub made : result ≡ status.Done → IsMade d.facts d.old d.new settings × Prints o (made_line settings)
  -- If the disk has enough blocks, that volume stands also if its line could not be printed, and at each status what was printed is a
  -- prefix of that line.
  pub enough : need_of settings ≤ blocks_of d →
      (result ≡ status.Sink → IsMade d.facts d.old d.new settings) × PrintsPrefix o (made_line settings)
  -- The disk is too small exactly if the volume needs more blocks than it has; it is not called then.
  pub too_small : result ≡ status.TooSmall →
      (blocks_of d < need_of settings) × Prints o (small_line (need_of settings) (blocks_of d))
  pub small : blocks_of d < need_of settings →
      ((result ≡ status.TooSmall) ⊎ (result ≡ status.Sink)) × (d.new ≡ d.old) × PrintsPrefix o (small_line (need_of settings) (blocks_of d))
  pub which : (result ≡ status.Done) ⊎ ((result ≡ status.Disk) ⊎ ((result ≡ status.Sink) ⊎ (result ≡ status.TooSmall)))
  -- If the disk failed nothing was printed; the disk and the sink failed only if their counts rose.
  pub disk_failed : result ≡ status.Disk → DiskRose d × (o.new ≡ o.old)
  pub sink_failed : result ≡ status.Sink → SinkRose o
  -- If no call failed and the disk has enough blocks, the volume is made.
  pub complete : need_of settings ≤ blocks_of d → (DiskRose d → ⊥) → (SinkRose o → ⊥) → result ≡ status.Done

-- Lines after the replies

-- What is printed after the replies once lines ran and ended so, and how the whole ends.
pub record PrintsLast {K : Type 0} (to : sinks.Ghosts K) (ran : Status) (last : List ℕ) (result : Status)
    (replied sink' : K) : Type 0 where
  -- At the end the last lines are printed, or the sink fails in them.
  pub done : ran ≡ status.Done → ((result ≡ status.Done) × Appends (to.taken replied) (to.taken sink') last)
      ⊎ ((result ≡ status.Sink) × AppendsPrefix (to.taken replied) (to.taken sink') last
      × Rose (to.faults replied) (to.faults sink') (to.is_spent sink'))
  -- After lines that ended early nothing more is printed.
  pub early : ran ≢ status.Done → (result ≡ ran) × (sink' ≡ replied)

-- Words that spell no command

-- What is kept if the words spell no command.
pub record UsageKeeps {D S K : Type 0} (to : sinks.Ghosts K) (result : Status)
    (disk disk' : D) (source source' : S) (sink sink' : K) : Type 0 where
  pub put : PrintsUsage to (result ≡ status.Usage) (result ≡ status.Sink) sink sink'
  -- The disk and the source are left alone.
  pub alone : (disk' ≡ disk) × (source' ≡ source)
