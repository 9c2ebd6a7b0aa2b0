-- What the rows of a volume say of it.
use Rattle.{mg_check.specs.{Summaries.summary_of, declared.examining.Summary.Summary}, mg_disk.specs.Disk.Image, mg_model.specs.State.ObjectRow}
use Rattle.{mg_model.specs.State.{Thread, ThreadRow}, mg_rules.specs.{ObjectOrderLemmas.{spelled-count, spelled-used}, RowsRead.objects_of}}
use Rattle.{mg_rules.specs.{RowsRead.state_in, ToldLemmas.accounts-placed, declared.volume_rows.VolumeRows.VolumeRows}, std.proofs.Common.arith}
use Rattle.std.{proofs.lemmas.List.length-map, specs.Prelude.{◌≡◌, ◌+◌, ℕ, length, sum_by}}

-- a record of these parts
abbrev summary_with : ℕ → ℕ → ℕ → ℕ → ℕ → ℕ → ℕ → Summary
summary_with frames objects pages accounts threads period credits = record { frames = frames; objects = objects; pages = pages; accounts = accounts; threads = threads; period = period; credits = credits }

abbrev thread_of : ℕ × ThreadRow → Thread
thread_of row = record { number = row.0 + 1; row = row.1 }

pub counted : (rows : VolumeRows) (image : Image)
    → summary_with rows.params.frames (length (objects_of rows)) (sum_by (λ (o : ℕ × ObjectRow). o.1.pages) (objects_of rows)) (length rows.accounts.items) (length rows.threads.items) rows.globals.period rows.params.credits ≡ summary_of (state_in rows image)
counted rows image = grind (arith, spelled-count, spelled-used, accounts-placed, length-map)

-- a summary with these parts, which are those of rows
pub told : (rows : VolumeRows) (image : Image) (frames objects pages accounts threads period credits : ℕ)
    → frames ≡ rows.params.frames → objects ≡ length (objects_of rows) → pages ≡ sum_by (λ (o : ℕ × ObjectRow). o.1.pages) (objects_of rows) → accounts ≡ length rows.accounts.items
    → threads ≡ length rows.threads.items → period ≡ rows.globals.period → credits ≡ rows.params.credits → summary_with frames objects pages accounts threads period credits ≡ summary_of (state_in rows image)
told rows image frames objects pages accounts threads period credits f o p a t e c = grind (arith, counted)
