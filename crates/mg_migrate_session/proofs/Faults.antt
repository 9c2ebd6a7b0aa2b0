-- What the command keeps when the volume was not migrated.
use Rattle.{mg_check.specs.declared.examining.Summary.Summary, mg_disk.specs.Stops.{CountRose, FromLeft, Leaves, WritesNothing}}
use Rattle.{mg_faults.specs.Faults.Rose, mg_io.specs.Known.AppendsPrefix, mg_migrate.specs.{Copied.StandsClosed, Migrated.{Fits1, IsUntouched}}}
use Rattle.mg_migrate.specs.{Migrated.{MayMigrate, StandsBack, Tells1}, Version1.{Damaged1, NewVolume1, NotVolume1, OldVolume1, Volume1Read, volume1}}
use Rattle.{mg_migrate.specs.declared.migrating.MigrateFault.MigrateFault, mg_migrate_session.proofs.Endings.{IsTold, disk_keeps, memory_keeps}}
use Rattle.mg_migrate_session.{proofs.Endings.{small_state1, told_keeps, too_small}, specs.FaultText.{EndsUnmigratedBy, TellsNothingOld, fault_line}}
use Rattle.{mg_migrate_session.specs.Headline.{HasPut, IfState1, MigrateKeeps}, mg_model.specs.State.State, mg_serve.specs.Sessions.use_of}
use Rattle.{mg_serve.specs.declared.status.Status.Status, std.{proofs.Common.{refl, sym, subst, inl, inr}, specs.Io.KnownBytes.Appends}}
use Rattle.std.specs.{Option.ForSome, Prelude.{ℕ, ◌≡◌, ◌⊎◌, List, Result, Err}}
use Rattle.mg_disk.specs.declared.disk.Disk as disks
use Rattle.mg_io.specs.declared.traits.Sink as sinks
use Rattle.mg_migrate.specs.declared.migrating.MigrateFault.TheVariants as fault
use Rattle.mg_serve.specs.declared.status.Status.TheVariants as status

-- what is said of the image, as it is this kind of none
of_kind : {D : Type 0} (d : disks.Ghosts D) (line : List ℕ) (new new' : D) (v kind : Volume1Read) → IsTold d status.NoVolume line new new' kind → v ≡ kind → IsTold d status.NoVolume line new new' v
of_kind d line new new' v kind told is = subst (λ w. IsTold d status.NoVolume line new new' w) (sym is) told

-- and nothing is owed to a state
no_state1 : (v kind : Volume1Read) (P : State → Type 0) → IfState1 kind P → v ≡ kind → IfState1 v P
no_state1 v kind P none is = subst (λ w. IfState1 w P) (sym is) none

-- what a fault does
pub fault_keeps : {D E K : Type 0} (d : disks.Ghosts D) (e : disks.Ghosts E) (to : sinks.Ghosts K) (f : MigrateFault) (result : Status) (new new' : D) (old old' : E) (sink sink' : K)
    → ForSome (e.seen old) (λ before. Tells1 (Err f) (d.block_count new) (volume1 before))
    → ForSome (e.seen old) (λ before. Leaves d new new' (FromLeft d new (λ image. MayMigrate image (volume1 before))))
    → IsUntouched new new' (Err f) → ForSome (e.seen old) (λ before. StandsBack (d.block_count new) (volume1 before) new new')
    → (◌≡◌ {A = Result Summary MigrateFault} (Err f) (Err fault.OldDisk) → (new' ≡ new) ⊎ (StandsClosed d new' × ForSome (e.seen old) (λ before. Fits1 (d.block_count new) (volume1 before))))
    → WritesNothing e old old'
    → (◌≡◌ {A = Result Summary MigrateFault} (Err f) (Err fault.OldDisk) → CountRose e old old') → (◌≡◌ {A = Result Summary MigrateFault} (Err f) (Err fault.NewDisk) → CountRose d new new')
    → EndsUnmigratedBy f result → (HasPut result → Appends (to.taken sink) (to.taken sink') (fault_line f)) → AppendsPrefix (to.taken sink) (to.taken sink') (fault_line f)
    → (TellsNothingOld f → sink' ≡ sink) → (result ≡ status.Sink → Rose (to.faults sink) (to.faults sink') (to.is_spent sink'))
    → MigrateKeeps result (use_of d new new') (use_of e old old') (use_of to sink sink')
fault_keeps d e to fault.OldDisk result new new' old old' sink sink' told moments untouched back closed kept old_rose new_rose ends put prefix quiet rose =
    disk_keeps d e to result new new' old old' sink sink' moments back kept ends (inr (old_rose refl)) (λ no. closed refl) (quiet tt)
fault_keeps d e to fault.Not result new new' old old' sink sink' told moments untouched back closed kept old_rose new_rose ends put prefix quiet rose =
    told_keeps d e to result new new' old old' sink sink' moments back kept status.NoVolume (fault_line fault.Not) (inr (inl refl)) (inl refl)
    (λ before is. of_kind d (fault_line fault.Not) new new' (volume1 before) NotVolume1 (record { ends = refl; puts = refl; stands = untouched; enough = tt }) (told before is))
    (λ before is. no_state1 (volume1 before) NotVolume1 _ tt (told before is))
    (λ none. untouched) ends (λ none. put (inr (inl none))) prefix rose
fault_keeps d e to fault.Old result new new' old old' sink sink' told moments untouched back closed kept old_rose new_rose ends put prefix quiet rose =
    told_keeps d e to result new new' old old' sink sink' moments back kept status.NoVolume (fault_line fault.Old) (inr (inl refl)) (inr (inl refl))
    (λ before is. of_kind d (fault_line fault.Old) new new' (volume1 before) OldVolume1 (record { ends = refl; puts = refl; stands = untouched; enough = tt }) (told before is))
    (λ before is. no_state1 (volume1 before) OldVolume1 _ tt (told before is))
    (λ none. untouched) ends (λ none. put (inr (inl none))) prefix rose
fault_keeps d e to fault.New result new new' old old' sink sink' told moments untouched back closed kept old_rose new_rose ends put prefix quiet rose =
    told_keeps d e to result new new' old old' sink sink' moments back kept status.NoVolume (fault_line fault.New) (inr (inl refl)) (inr (inr (inl refl)))
    (λ before is. of_kind d (fault_line fault.New) new new' (volume1 before) NewVolume1 (record { ends = refl; puts = refl; stands = untouched; enough = tt }) (told before is))
    (λ before is. no_state1 (volume1 before) NewVolume1 _ tt (told before is))
    (λ none. untouched) ends (λ none. put (inr (inl none))) prefix rose
fault_keeps d e to fault.Damaged result new new' old old' sink sink' told moments untouched back closed kept old_rose new_rose ends put prefix quiet rose =
    told_keeps d e to result new new' old old' sink sink' moments back kept status.NoVolume (fault_line fault.Damaged) (inr (inl refl)) (inr (inr (inr refl)))
    (λ before is. of_kind d (fault_line fault.Damaged) new new' (volume1 before) Damaged1 (record { ends = refl; puts = refl; stands = untouched; enough = tt }) (told before is))
    (λ before is. no_state1 (volume1 before) Damaged1 _ tt (told before is))
    (λ none. untouched) ends (λ none. put (inr (inl none))) prefix rose
fault_keeps d e to (fault.TooSmall need have) result new new' old old' sink sink' told moments untouched back closed kept old_rose new_rose ends put prefix quiet rose =
    told_keeps d e to result new new' old old' sink sink' moments back kept status.TooSmall (fault_line (fault.TooSmall need have)) (inr (inr refl)) ((need, have), refl)
    (λ before is. too_small d need have new new' (volume1 before) (told before is) untouched) (λ before is. small_state1 d need have new (volume1 before) _ (told before is)) (λ small. untouched) ends (λ small. put (inr (inr small))) prefix rose
fault_keeps d e to fault.Memory result new new' old old' sink sink' told moments untouched back closed kept old_rose new_rose ends put prefix quiet rose =
    memory_keeps d e to result new new' old old' sink sink' moments back kept ends untouched (quiet tt)
fault_keeps d e to fault.NewDisk result new new' old old' sink sink' told moments untouched back closed kept old_rose new_rose ends put prefix quiet rose =
    disk_keeps d e to result new new' old old' sink sink' moments back kept ends (inl (new_rose refl)) (λ no. absurd (no (new_rose refl))) (quiet tt)
