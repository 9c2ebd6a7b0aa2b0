-- What a fault of the opening of a volume says, and how a command ends with it; and what is reported of a volume.
use Rattle.std.specs.{Fmt.decimal, Option.ForSome, Prelude.{ℕ, ◌≡◌, ◌⊎◌, List, [], ◌∷◌, ◌++◌, Option}}
use Rattle.mg_check.specs.{Summaries.summary_of, declared.examining.{OpenFault.OpenFault, Summary.Summary}}
use Rattle.{mg_commands.specs.Headline.check_line, mg_disk.specs.Disk.Image, mg_model.specs.Print.ok_text}
use Rattle.mg_model.specs.{State.State, Volume.{Damaged, Is, NotVolume, OldVolume, volume}}
use Rattle.mg_serve.specs.declared.status.Status.{Status}
use Rattle.mg_check.specs.declared.examining.OpenFault.TheVariants as fault
use Rattle.mg_serve.specs.declared.status.Status.TheVariants as status

-- the line of a fault of the opening, if it has one
abbrev pub fault_line : OpenFault → List ℕ
fault_line fault.Not = check_line NotVolume
fault_line fault.Old = check_line OldVolume
fault_line fault.Damaged = check_line Damaged
fault_line fault.Disk = []
fault_line fault.Memory = []

-- what a fault says of the image that reads give
abbrev pub FaultTells : OpenFault → Option Image → Type 0
FaultTells fault.Not told = ForSome told (λ image. volume image ≡ NotVolume)
FaultTells fault.Old told = ForSome told (λ image. volume image ≡ OldVolume)
FaultTells fault.Damaged told = ForSome told (λ image. volume image ≡ Damaged)
FaultTells fault.Disk told = Unit {0}
FaultTells fault.Memory told = Unit {0}

-- it says nothing of the image
abbrev pub TellsNothing : OpenFault → Type 0
TellsNothing fault.Not = ⊥
TellsNothing fault.Old = ⊥
TellsNothing fault.Damaged = ⊥
TellsNothing fault.Disk = Unit {0}
TellsNothing fault.Memory = Unit {0}

-- how a command ends with it
abbrev pub EndsUnopenedBy : OpenFault → Status → Type 0
EndsUnopenedBy fault.Not result = (result ≡ status.NoVolume) ⊎ (result ≡ status.Sink)
EndsUnopenedBy fault.Old result = (result ≡ status.NoVolume) ⊎ (result ≡ status.Sink)
EndsUnopenedBy fault.Damaged result = (result ≡ status.NoVolume) ⊎ (result ≡ status.Sink)
EndsUnopenedBy fault.Disk result = result ≡ status.Disk
EndsUnopenedBy fault.Memory result = result ≡ status.Memory

-- the line of a volume of which this is reported
abbrev pub summary_line : Summary → List ℕ
summary_line summary =
    ok_text (decimal summary.frames ∷ decimal summary.objects ∷ decimal summary.pages ∷ decimal summary.accounts
    ∷ decimal summary.threads ∷ decimal summary.period ∷ decimal summary.credits ∷ []) ++ 10 ∷ []

-- this is reported of a state, which is that of the image if reads are told
pub record TellsState (summary : Summary) (told : Option Image) : Type 0 where
  pub state : State
  pub is : ForSome told (λ image. volume image ≡ Is state)
  pub summed : summary ≡ summary_of state
