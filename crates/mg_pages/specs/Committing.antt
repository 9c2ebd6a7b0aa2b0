-- What a commit leaves.
use Rattle.std.specs.Prelude.{ℕ, Some}
use Rattle.{mg_disk.specs.Disk.{Image, SeenBut}, mg_journal.specs.Contents.InJournal, mg_model.specs.Replay.replay}

-- the contents of c are the blocks of r, the segments' own blocks left aside
abbrev pub HasContents : ℕ → Image → Image → Type 0
HasContents total r c = SeenBut InJournal (Some r) (replay c total)
