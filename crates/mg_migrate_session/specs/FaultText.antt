-- What a fault of a migration says, and how the command ends with it.
use Rattle.std.specs.Prelude.{ℕ, ◌≡◌, ◌⊎◌, List, [], ◌∷◌, ◌++◌, codes}
use Rattle.mg_commands.specs.Headline.{check_line, small_line}
use Rattle.{mg_migrate.specs.declared.migrating.MigrateFault.MigrateFault, mg_model.specs.Volume.{Damaged, NotVolume}}
use Rattle.{mg_model.specs.Volume.OldVolume, mg_serve.specs.declared.status.Status.Status}
use Rattle.mg_migrate.specs.declared.migrating.MigrateFault.TheVariants as fault
use Rattle.mg_serve.specs.declared.status.Status.TheVariants as status

-- the line of a fault, if it has one
abbrev pub fault_line : MigrateFault → List ℕ
fault_line fault.OldDisk = []
fault_line fault.Not = check_line NotVolume
fault_line fault.Old = check_line OldVolume
fault_line fault.New = codes "open new" ++ 10 ∷ []
fault_line fault.Damaged = check_line Damaged
fault_line (fault.TooSmall need have) = small_line need have
fault_line fault.Memory = []
fault_line fault.NewDisk = []

-- it says nothing of the old image
abbrev pub TellsNothingOld : MigrateFault → Type 0
TellsNothingOld fault.OldDisk = Unit {0}
TellsNothingOld fault.Not = ⊥
TellsNothingOld fault.Old = ⊥
TellsNothingOld fault.New = ⊥
TellsNothingOld fault.Damaged = ⊥
TellsNothingOld (fault.TooSmall need have) = ⊥
TellsNothingOld fault.Memory = Unit {0}
TellsNothingOld fault.NewDisk = Unit {0}

-- how the command ends with it
abbrev pub EndsUnmigratedBy : MigrateFault → Status → Type 0
EndsUnmigratedBy fault.OldDisk result = result ≡ status.Disk
EndsUnmigratedBy fault.Not result = (result ≡ status.NoVolume) ⊎ (result ≡ status.Sink)
EndsUnmigratedBy fault.Old result = (result ≡ status.NoVolume) ⊎ (result ≡ status.Sink)
EndsUnmigratedBy fault.New result = (result ≡ status.NoVolume) ⊎ (result ≡ status.Sink)
EndsUnmigratedBy fault.Damaged result = (result ≡ status.NoVolume) ⊎ (result ≡ status.Sink)
EndsUnmigratedBy (fault.TooSmall need have) result = (result ≡ status.TooSmall) ⊎ (result ≡ status.Sink)
EndsUnmigratedBy fault.Memory result = result ≡ status.Memory
EndsUnmigratedBy fault.NewDisk result = result ≡ status.Disk
