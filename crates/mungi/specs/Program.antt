-- What the program keeps, from its words to its exit status: the records of `top` and of `top_migrate`.
use Rattle.std.specs.{Prelude.{ℕ, ◌≡◌, ◌≢◌, ◌⊎◌, false, true, List, Some, None, String}, declared.alloc.Global.Global}
use Rattle.mg_commands.specs.{Commands.{run_of, spelled}, Headline.{CheckKeeps, DryKeeps, FormatKeeps, GenKeeps}}
use Rattle.mg_commands.specs.Headline.{LinesKeep, RunCosts, UsageKeeps, session_of}
use Rattle.mg_commands.specs.declared.words.Command.TheVariants.{Check, Dry, Format, Gen, Run}
use Rattle.{mg_io.specs.Arguments.arguments, mg_migrate_session.specs.{Commands.is_migrate, Headline.MigrateKeeps}}
use Rattle.{mg_model.specs.{Print.replies_text, Settings.Settings, Step.after}, mg_serve.specs.Sessions.DiskUse}
use Rattle.mg_serve.specs.{Sessions.{SinkUse, SourceUse}, declared.status.Status.Status}
use Rattle.mg_serve.specs.declared.status.Status.TheVariants as status

-- What every command but `migrate` did, with this status at the end.
pub record Ran {D S K : Type 0} (words : List (String Global)) (result : Status) (d : DiskUse D) (i : SourceUse S) (o : SinkUse K)
    (steps steps' : ℕ) : Type 0 where
  pub run : (batch : ℕ) → run_of (arguments words) ≡ Some batch → LinesKeep replies_text after (session_of batch result d i o steps steps')
  pub run_costs : (batch : ℕ) → run_of (arguments words) ≡ Some batch → RunCosts (session_of batch result d i o steps steps')
  pub dry : (settings : Settings) → spelled words ≡ Some (Dry settings) → DryKeeps settings result i o steps steps'
  pub check : spelled words ≡ Some Check → CheckKeeps result d o
  pub format : (settings : Settings) → spelled words ≡ Some (Format settings) → FormatKeeps settings result d o
  pub generated : (number count : ℕ) → spelled words ≡ Some (Gen number count) → GenKeeps number count result o steps steps'
  pub usage : spelled words ≡ None → UsageKeeps o.facts result d.old d.new i.old i.new o.old o.new
  -- `dry` and `gen` make no call on the disk, and only `dry` and `run` make one on the source.
  pub disk_alone : (settings : Settings) → spelled words ≡ Some (Dry settings) → d.new ≡ d.old
  pub generated_alone : (number count : ℕ) → spelled words ≡ Some (Gen number count) → (d.new ≡ d.old) × (i.new ≡ i.old)
  pub source_alone : ((settings : Settings) → spelled words ≢ Some (Dry settings)) →
      ((batch : ℕ) → spelled words ≢ Some (Run batch)) → i.new ≡ i.old
  -- Only `dry`, `run` and `gen` move the counter of words.
  pub steps_alone : ((settings : Settings) → spelled words ≢ Some (Dry settings)) →
      ((batch : ℕ) → spelled words ≢ Some (Run batch)) → ((number count : ℕ) → spelled words ≢ Some (Gen number count)) → steps' ≡ steps
  -- Which commands end with the statuses 1, 2, 5 and 8.
  pub not_spelled : result ≡ status.Usage → spelled words ≡ None
  pub no_volume : result ≡ status.NoVolume →
      (spelled words ≡ Some Check) ⊎ ((batch : ℕ) × (spelled words ≡ Some (Run batch)))
  pub too_small : result ≡ status.TooSmall → (settings : Settings) × (spelled words ≡ Some (Format settings))
  pub source_failed : result ≡ status.Source →
      ((settings : Settings) × (spelled words ≡ Some (Dry settings))) ⊎ ((batch : ℕ) × (spelled words ≡ Some (Run batch)))

-- What the program did, with this status at the end: `disk` is the one in the file of the first word, and `old` the one in the file of
-- the third.
pub record Did {D E S K : Type 0} (words : List (String Global)) (result : Status) (d : DiskUse D) (old : DiskUse E)
    (i : SourceUse S) (o : SinkUse K) (steps steps' : ℕ) : Type 0 where
  pub migrate : is_migrate (arguments words) ≡ true → MigrateKeeps result d old o × (i.new ≡ i.old)
  pub other : is_migrate (arguments words) ≡ false → Ran words result d i o steps steps' × (old.new ≡ old.old)
