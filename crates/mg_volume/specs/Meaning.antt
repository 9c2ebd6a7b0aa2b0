-- What a volume is, as functions of the value and an image. The layers above see these words by their names.
use Rattle.std.specs.{List.{list_all, list_any}, Option.ForSome, Prelude.{◌≡◌, ◌+◌, ◌≤◌, ◌<◌, ◌&&◌, nat_le, nat_lt, ℕ}}
use Rattle.std.specs.Prelude.{Bool, true, List, [], ◌∷◌, Some, find, length, map, sum_by, All, IsTrue}
use Rattle.mg_disk.specs.{Disk.Image, Stops.NothingPending, declared.disk.Disk.Ghosts}
use Rattle.mg_model.specs.{Abbreviations.{account_row_bytes, object_row_bytes, thread_row_bytes}, Access.covers}
use Rattle.mg_model.specs.{Layout.{globals_block, super_block}, Limits.{account_limit, thread_limit, object_limit}}
use Rattle.mg_model.specs.{Objects.{page_behind, page_of}, Ranges.IsObjectRow, Replay.block_of, Settings.Settings}
use Rattle.mg_model.specs.Spelling.{Spells, account_read, globals_read, object_read, super_read, thread_read}
use Rattle.mg_model.specs.{State.{Counters, ObjectRow, State, Thread, ThreadRow}, Volume.{Is, accounts_fit}}
use Rattle.mg_model.specs.Volume.{bound_pages, has_open_gate, live_rows, object_spelled, objects_fit, threads_fit}
use Rattle.{mg_model.specs.{Volume.volume, declared.accounts.AccRow.AccRow}, mg_objects.specs.Held.by_base}
use Rattle.{mg_rules.specs.RowsRead.placed_from, mg_space.specs.Space.ArePaid, mg_volume.specs.Held.VolumeHeld}
use Rattle.mg_pages.specs.Meaning as pages

-- the parts of the state that do not lie in pages
unfoldable pub settings_in : VolumeHeld → Settings
settings_in v = v.settings

unfoldable pub counters_in : VolumeHeld → Counters
counters_in v = v.counters

-- rows without their places
abbrev pub bare_rows : List (ℕ × ObjectRow) → List ObjectRow
bare_rows objects = map (λ (o : ℕ × ObjectRow). o.1) objects

-- the objects' rows, in the order of their bases
unfoldable pub objects_in : VolumeHeld → List ObjectRow
objects_in v = bare_rows v.objects

unfoldable pub accounts_in : VolumeHeld → List AccRow
accounts_in v = v.accounts

unfoldable pub threads_in : VolumeHeld → List Thread
threads_in v = map (λ (t : ℕ × ThreadRow). record { number = t.0; row = t.1 }) v.threads

-- whether a page lies in an object
abbrev pub is_page_in : ℕ → ObjectRow → Bool
is_page_in page row = nat_le (page_of row) page && nat_lt page (page_behind row)

abbrev pub has_page : VolumeHeld → ℕ → Bool
has_page v page = list_any (λ row. is_page_in page row) (objects_in v)

-- the object that has an address has this base
pub record IsBaseAt (v : VolumeHeld) (address base : ℕ) : Type 0 where
  pub row : ObjectRow
  pub found : find (λ (r : ObjectRow). covers r address) (objects_in v) ≡ Some row
  pub is : base ≡ row.base
  pub rules : IsObjectRow row

-- the state: the rows that are held, and the words that are staged, else those of the replayed image, else 0
unfoldable pub now_of : VolumeHeld → Image → State
now_of v image = record {
  settings = v.settings;
  counters = v.counters;
  objects = map
      (λ (o : ℕ × ObjectRow). object_spelled (pages.coming v.pages image) v.settings.frames (pages.table_in v.pages) o.1) v.objects;
  accounts = v.accounts;
  threads = threads_in v;
}

-- the blocks that are staged, each with its bytes, and how many they are
unfoldable pub staged_in : VolumeHeld → List (ℕ × List ℕ)
staged_in v = pages.staged_in v.pages

unfoldable pub staged_of : VolumeHeld → ℕ
staged_of v = pages.staged_of v.pages

unfoldable pub is_live : VolumeHeld → Bool
is_live v = pages.is_live v.pages

unfoldable pub total_of : VolumeHeld → ℕ
total_of v = pages.total_of v.pages

unfoldable pub words_in : VolumeHeld → ℕ
words_in v = pages.words_in v.pages

-- rows in the order of their bases, of which no two share a page
abbrev pub rows_apart : List ObjectRow → Bool
rows_apart [] = true
rows_apart (row ∷ []) = true
rows_apart (row ∷ next ∷ rows) = nat_le (page_behind row) (page_of next) && rows_apart (next ∷ rows)

-- what every value keeps, on every disk: rows in their ranges and places, as few as a volume has room for, objects that
-- lie apart, each bound page in an object, and a treasury
pub record IsKept (v : VolumeHeld) : Type 0 where
  pub frames : pages.frame_count v.pages ≡ v.settings.frames
  pub rows : All (λ (o : ℕ × ObjectRow). IsObjectRow o.1) v.objects
  pub places : All (λ (o : ℕ × ObjectRow). o.0 < object_limit) v.objects
  pub apart : rows_apart (objects_in v) ≡ true
  pub used : sum_by (λ (o : ℕ × ObjectRow). o.1.pages) v.objects ≤ v.settings.frames
  pub few_objects : length v.objects ≤ object_limit
  pub some_accounts : 1 ≤ length v.accounts
  pub few_accounts : length v.accounts ≤ account_limit
  pub few_threads : length v.threads ≤ thread_limit
  pub inside : list_all (λ page. has_page v page) (bound_pages (pages.table_in v.pages)) ≡ true

-- what a volume's value keeps: its parts their rules, and its bank for how many pages each account pays
pub record IsVolume (v : VolumeHeld) (totals : List ℕ) : Type 0 where
  pub kept : IsKept v
  pub paid : ArePaid totals v.objects

-- the image is a volume; what is coming spells the rows and the frame table that are held, and no other row
pub record Spelled (v : VolumeHeld) (image : Image) : Type 0 where
  pub fitting : pages.IsSpelledBy v.pages image
  pub frames : pages.frame_count v.pages ≡ v.settings.frames
  pub gated : has_open_gate image ≡ true
  pub super : super_read (block_of image super_block) ≡ Spells v.settings
  pub counters_are : globals_read (block_of (pages.coming v.pages image) globals_block) ≡ Some v.counters
  pub accounts_are : live_rows (λ i. account_read (account_row_bytes (pages.coming v.pages image) i)) 0 account_limit
      ≡ Some (placed_from 0 v.accounts)
  pub threads : List (ℕ × ThreadRow)
  pub threads_are : live_rows (λ i. thread_read (thread_row_bytes (pages.coming v.pages image) i)) 0 thread_limit ≡ Some threads
  pub numbered : map (λ (t : ℕ × ThreadRow). (t.0 + 1, t.1)) threads ≡ v.threads
  pub objects : List (ℕ × ObjectRow)
  pub objects_are : live_rows (λ i. object_read (object_row_bytes (pages.coming v.pages image) i)) 0 object_limit ≡ Some objects
  pub ordered : by_base objects ≡ v.objects
  pub kept : State
  pub is : volume image ≡ Is kept

unfoldable pub IsSpelledBy : VolumeHeld → Image → Type 0
IsSpelledBy v image = Spelled v image

-- the volume stands on the disk: nothing is pending, and it is what reads give and what is staged
pub record StandsOn {D : Type 0} (facts : Ghosts D) (v : VolumeHeld) (disk : D) : Type 0 where
  pub room : total_of v ≤ facts.block_count disk
  pub settled : NothingPending facts disk
  pub fits : ForSome (facts.seen disk) (λ image. IsSpelledBy v image)

-- accounts, objects and threads keep the rules that hold between them
abbrev pub is_sound : State → Bool
is_sound state =
    accounts_fit state.settings.credits state.counters.period state.accounts
    && objects_fit state.settings.frames (length state.accounts) state.objects
    && threads_fit state.counters.births state.threads

-- nothing changed but the count of words
pub record Keeps (old new : VolumeHeld) : Type 0 where
  pub now : (image : Image) → now_of new image ≡ now_of old image
  pub writes : staged_in new ≡ staged_in old
  pub staged : staged_of new ≡ staged_of old
  pub live : is_live new ≡ is_live old
  pub total : total_of new ≡ total_of old

-- the same volume, with its settings, as live, and as many words counted
pub record SameShape (old new : VolumeHeld) : Type 0 where
  pub settings : settings_in new ≡ settings_in old
  pub total : total_of new ≡ total_of old
  pub live : is_live new ≡ is_live old
  pub words : words_in new ≡ words_in old

-- the parts of the state beside the objects are as they were
pub record SameParts (old new : VolumeHeld) : Type 0 where
  pub settings : settings_in new ≡ settings_in old
  pub counters : counters_in new ≡ counters_in old
  pub accounts : accounts_in new ≡ accounts_in old
  pub threads : threads_in new ≡ threads_in old

-- so are the rows of the objects, and the volume has its places
pub record SameRows (old new : VolumeHeld) : Type 0 where
  pub parts : SameParts old new
  pub rows : objects_in new ≡ objects_in old
  pub total : total_of new ≡ total_of old

-- the volume stands on the disk, its rows keep the rules between them, and a commit may be made
pub record CanCommit {D : Type 0} (facts : Ghosts D) (v : VolumeHeld) (disk : D) : Type 0 where
  pub live : IsTrue (is_live v)
  pub stands : StandsOn facts v disk
  pub sound : ForSome (facts.seen disk) (λ image. is_sound (now_of v image) ≡ true)
