-- What is reported of a volume.
use Rattle.std.specs.Prelude.{◌≡◌, length}
use Rattle.{mg_check.specs.declared.examining.Summary.Summary, mg_disk.specs.Disk.Image, mg_model.specs.Bank.used}
use Rattle.{mg_model.specs.{State.State, Volume.{Is, volume}}, mg_rules.specs.RowsRead.state_in}
use Rattle.mg_rules.specs.declared.volume_rows.VolumeRows.{VolumeRows}

abbrev pub summary_of : State → Summary
summary_of state = record {
  frames = state.settings.frames;
  objects = length state.objects;
  pages = used state.objects;
  accounts = length state.accounts;
  threads = length state.threads;
  period = state.counters.period;
  credits = state.settings.credits;
}

-- the image is a volume, and this is what is reported of its state
pub record Tells (summary : Summary) (image : Image) : Type 0 where
  pub state : State
  pub is : volume image ≡ Is state
  pub told : summary ≡ summary_of state

-- this is what is reported of these rows, whatever words the frames have
abbrev pub TellsOf : Summary → VolumeRows → Type 0
TellsOf summary rows = (replayed : Image) → summary ≡ summary_of (state_in rows replayed)
