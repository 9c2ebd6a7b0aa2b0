-- What a stop may leave while a volume is made, and what the call answers.
use Rattle.std.specs.Prelude.{◌≡◌, ◌⊎◌, ℕ, ◌<◌, ◌≤◌, ◌∷◌, drop, slice_set, Option, Some, None, IsSomeAnd, Result, Ok}
use Rattle.std.specs.Prelude.{Err}
use Rattle.{mg_disk.specs.Disk.Image, mg_layout.specs.declared.formatting.FormatFault.FormatFault}
use Rattle.mg_model.specs.{Fresh.fresh, Layout.{gate_block, gate_open}, Replay.block_of, Settings.Settings, Volume.Is}
use Rattle.mg_model.specs.Volume.{VolumeRead, volume}
use Rattle.mg_layout.specs.declared.formatting.FormatFault.TheVariants as fault

-- it is not a state of the machine
abbrev pub IsNoState : VolumeRead → Type 0
IsNoState (Is state) = ⊥
IsNoState _ = Unit {0}

-- this image with its gate open; it spells what the blocks say, whatever the gate was
abbrev pub opened : Image → Image
opened image = slice_set image gate_block (gate_open ∷ drop 1 (block_of image gate_block))

-- no volume, what the blocks after the gate spelled before, or the fresh state
abbrev pub MayFormat : Image → Settings → Image → Type 0
MayFormat image settings c = IsNoState (volume c) ⊎ ((volume c ≡ volume (opened image)) ⊎ (volume c ≡ Is (fresh settings)))

-- what reads give is told if it was told before, and then it spells the fresh state
abbrev pub ReadsFresh : Settings → Option Image → Option Image → Type 0
ReadsFresh settings None new = new ≡ None
ReadsFresh settings (Some image) new = IsSomeAnd new (λ c. volume c ≡ Is (fresh settings))
