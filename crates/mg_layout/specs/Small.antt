-- What `format` says of a disk that is too small.
use Rattle.std.specs.Prelude.{◌≡◌, ℕ, ◌<◌, ◌≤◌, Result, Ok, Err}
use Rattle.mg_layout.specs.declared.formatting.FormatFault.{FormatFault}
use Rattle.mg_layout.specs.declared.formatting.FormatFault.TheVariants as fault

-- the call answers that the disk is too small exactly if the need exceeds what the disk has, and the answer names both
abbrev pub TellsSmall : {T : Type 0} → ℕ → ℕ → Result T FormatFault → Type 0
TellsSmall need have (Ok x) = need ≤ have
TellsSmall need have (Err fault.Disk) = need ≤ have
TellsSmall need have (Err (fault.TooSmall n h)) = (n ≡ need) × (h ≡ have) × (have < need)

-- if the disk is too small, no call was made on it
abbrev pub IsUntouchedSmall : {T D : Type 0} → D → D → Result T FormatFault → Type 0
IsUntouchedSmall old new (Err (fault.TooSmall n h)) = new ≡ old
IsUntouchedSmall old new _ = Unit {0}
