-- What a migration promises. An object that does not tell its content has None for it; a promise on content is then empty.
use Rattle.std.specs.{Io.KnownBytes.Appends, Option.ForSome, Prelude.{ℕ, ◌≡◌, ◌⊎◌, ◌<◌, ◌≤◌, nat_lt, List, [], ◌∷◌}}
use Rattle.std.specs.Prelude.{◌++◌, if◌then◌else◌, codes}
use Rattle.{mg_check.specs.declared.examining.Summary.Summary, mg_commands.specs.Headline.{blocks_of, check_line}}
use Rattle.{mg_commands.specs.{Headline.small_line, Unopened.summary_line}, mg_disk.specs.{Disk.Image, Stops.FromLeft}}
use Rattle.{mg_disk.specs.Stops.{NothingPending, WritesNothing}, mg_faults.specs.Faults.Rose}
use Rattle.{mg_io.specs.{Arguments.PrintsUsage, Known.AppendsPrefix}, mg_migrate.specs.Copied.{ReadsNow, StandsClosed}}
use Rattle.mg_migrate.specs.{Migrated.{Fits1, HasLifted, IsLiftOf, MayMigrate, StandsBack, needed}, Version1.Damaged1}
use Rattle.mg_migrate.specs.Version1.{Is1, NewVolume1, NotVolume1, OldVolume1, Volume1Read, lift, volume1}
use Rattle.mg_model.specs.{State.State, Volume.{Damaged, Is, NotVolume, OldVolume}}
use Rattle.mg_serve.specs.Sessions.{AlwaysLeft, DiskRose, DiskUse, IsDoneOrMemory, Prints, PrintsPrefix, SinkRose}
use Rattle.mg_serve.specs.{Sessions.SinkUse, declared.status.Status.Status}
use Rattle.mg_disk.specs.declared.disk.Disk as disks
use Rattle.mg_io.specs.declared.traits.Sink as sinks
use Rattle.mg_serve.specs.declared.status.Status.TheVariants as status

-- The line, and the status with it

-- the line of what the old image spells: which kind of none, that the new disk, with this number of blocks, is too small for the volume, or
-- what `check` reports of the state with passwords that never end
abbrev pub migrate_line : ℕ → Volume1Read → List ℕ
migrate_line have NotVolume1 = check_line NotVolume
migrate_line have OldVolume1 = check_line OldVolume
migrate_line have NewVolume1 = codes "open new" ++ 10 ∷ []
migrate_line have Damaged1 = check_line Damaged
migrate_line have (Is1 state) = if nat_lt have (needed state) then small_line (needed state) have else check_line (Is (lift state))

-- the status of what the old image spells
abbrev pub migrate_status : ℕ → Volume1Read → Status
migrate_status have (Is1 state) = if nat_lt have (needed state) then status.TooSmall else status.Done
migrate_status have _ = status.NoVolume

-- a line that goes with a status, of some volume, some kind of none, or some sizes
abbrev pub GoesWith : Status → List ℕ → Type 0
GoesWith status.Done line = (summary : Summary) × (line ≡ summary_line summary)
GoesWith status.NoVolume line =
    (line ≡ check_line NotVolume) ⊎ ((line ≡ check_line OldVolume) ⊎ ((line ≡ codes "open new" ++ 10 ∷ []) ⊎ (line ≡ check_line Damaged)))
GoesWith status.TooSmall line = (sizes : ℕ × ℕ) × (line ≡ small_line sizes.0 sizes.1)
GoesWith _ line = ⊥

-- the line was printed
abbrev pub HasPut : Status → Type 0
HasPut result = (result ≡ status.Done) ⊎ ((result ≡ status.NoVolume) ⊎ (result ≡ status.TooSmall))

-- there was not enough memory, or a call failed
abbrev pub HasFailed : Status → Type 0
HasFailed result = (result ≡ status.Memory) ⊎ ((result ≡ status.Disk) ⊎ (result ≡ status.Sink))

-- The new disk

-- the old state stands there with passwords that never end: reads give it, a stop leaves it and no other, and nothing is pending
pub record IsMigrated {D : Type 0} (facts : disks.Ghosts D) (old : Volume1Read) (new new' : D) : Type 0 where
  pub reads : ReadsNow (IsLiftOf old) (facts.seen new) (facts.seen new')
  pub left : (c : Image) → (facts.time new').left_since (facts.time new').moment c → IsLiftOf old c
  pub settled : NothingPending facts new'

-- the blocks of the old image stand there, each lifted and in its place, in what reads give and in each image that a stop may leave
pub record HasPlaces {D : Type 0} (facts : disks.Ghosts D) (before : Image) (new new' : D) : Type 0 where
  pub reads : ReadsNow (HasLifted before) (facts.seen new) (facts.seen new')
  pub left : (c : Image) → (facts.time new').left_since (facts.time new').moment c → HasLifted before c

-- the new disk once what the old image spells was told: no call was made on it if that is no volume or the disk is too small
abbrev pub StandsAfter : {D : Type 0} → disks.Ghosts D → Volume1Read → D → D → Type 0
StandsAfter facts (Is1 state) new new' =
    (facts.block_count new < needed state → new' ≡ new) × (needed state ≤ facts.block_count new → IsMigrated facts (Is1 state) new new')
StandsAfter facts _ new new' = new' ≡ new

-- `VOLUME migrate OLD`

-- a promise on the state of the old image, if that is a volume of version 1
abbrev pub IfState1 : Volume1Read → (State → Type 0) → Type 0
IfState1 (Is1 state) P = P state
IfState1 _ P = Unit {0}

-- what holds of what reads of the old disk gave, if it is told
abbrev pub OfBefore : {E : Type 0} → DiskUse E → (Image → Type 0) → Type 0
OfBefore from P = ForSome (from.facts.seen from.old) P

-- What `migrate` keeps, from the old disk to the new one.
pub record MigrateKeeps {D E K : Type 0} (result : Status) (to : DiskUse D) (from : DiskUse E) (o : SinkUse K) : Type 0 where
  -- It ends as the old image says, or there was not enough memory, or a call failed; and that on every disk.
  pub ends : OfBefore from (λ before. (result ≡ migrate_status (blocks_of to) (volume1 before)) ⊎ HasFailed result)
  pub which : HasPut result ⊎ HasFailed result
  -- At 0, 2 and 8 the line of the old image was printed, and at each status a prefix of it.
  pub line : HasPut result → OfBefore from (λ before. Prints o (migrate_line (blocks_of to) (volume1 before)))
  pub prefix : OfBefore from (λ before. PrintsPrefix o (migrate_line (blocks_of to) (volume1 before)))
  -- Of an old disk that does not tell its reads too, what was printed at 0, 2 and 8 is a line of that status.
  pub some_line : HasPut result → (line : List ℕ) × GoesWith result line × Prints o line
  -- At each moment a stop leaves on the new disk no state, the migrated one, or, whatever was pending there, what the blocks after
  -- the gate spelled in an image that a stop might have left before.
  pub moments : OfBefore from (λ before. AlwaysLeft to (FromLeft to.facts to.old (λ image. MayMigrate image (volume1 before))))
  -- At the end the migrated state stands, also if its line could not be printed; no call was made on the new disk if none was told.
  pub stands : HasPut result ⊎ (result ≡ status.Sink) →
      OfBefore from (λ before. StandsAfter to.facts (volume1 before) to.old to.new)
  -- There rows and frames keep their numbers.
  pub places : HasPut result ⊎ (result ≡ status.Sink) → OfBefore from (λ before. IfState1 (volume1 before) (λ state.
      needed state ≤ blocks_of to → HasPlaces to.facts before to.old to.new))
  pub untouched : (result ≡ status.NoVolume) ⊎ ((result ≡ status.TooSmall) ⊎ (result ≡ status.Memory)) → to.new ≡ to.old
  -- Nothing is ever written on the old disk.
  pub old_kept : WritesNothing from.facts from.old from.new
  -- If there was not enough memory, or a disk failed, nothing was printed; a disk and the sink failed only if their counts rose.
  pub memory : result ≡ status.Memory → o.new ≡ o.old
  pub disk_failed : result ≡ status.Disk → (DiskRose to ⊎ DiskRose from) × (o.new ≡ o.old)
  -- No call was made on the new disk, at any status, if the old image is no volume of version 1 that fits there.
  pub stands_back : OfBefore from (λ before. StandsBack (blocks_of to) (volume1 before) to.old to.new)
  -- If the old disk failed alone, no call was made on the new one, or the copying of a volume that fits had begun, and the gate of the
  -- new one is closed.
  pub closed : result ≡ status.Disk → (DiskRose to → ⊥) →
      (to.new ≡ to.old) ⊎ (StandsClosed to.facts to.new × OfBefore from (λ before. Fits1 (blocks_of to) (volume1 before)))
  pub sink_failed : result ≡ status.Sink → SinkRose o
  -- Of a volume that the new disk is large enough for, if no call failed, all is done, or there was not enough memory.
  pub complete : OfBefore from (λ before. IfState1 (volume1 before) (λ state. needed state ≤ blocks_of to → (DiskRose to → ⊥)
      → (DiskRose from → ⊥) → (SinkRose o → ⊥) → IsDoneOrMemory result))

-- What is kept if the words spell no migration.
pub record NoMigrateKeeps {D E K : Type 0} (to : sinks.Ghosts K) (result : Status) (new new' : D) (old old' : E)
    (sink sink' : K) : Type 0 where
  pub put : PrintsUsage to (result ≡ status.Usage) (result ≡ status.Sink) sink sink'
  -- Both disks are left alone.
  pub disks : (new' ≡ new) × (old' ≡ old)
