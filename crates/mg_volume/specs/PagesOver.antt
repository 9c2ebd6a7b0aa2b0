-- What was just made of the rows of a volume: its pages, and its lists.
use Rattle.std.specs.Prelude.{◌≡◌, ◌≤◌, ℕ, List, Option, length, true}
use Rattle.{mg_bank.specs.Bank.BankHeld, mg_disk.specs.{Disk.Image, declared.disk.Disk.Ghosts}}
use Rattle.{mg_journal.specs.Held.Store, mg_model.specs.{State.{ObjectRow, ThreadRow}, declared.accounts.AccRow.AccRow}}
use Rattle.{mg_objects.specs.Held.objects_in, mg_pages.specs.declared.pages.Pages.Pages, mg_space.specs.Space.ArePaid}
use Rattle.mg_volume.specs.Numbered.{numbered}
use Rattle.mg_journal.specs.Standing as journal
use Rattle.mg_pages.specs.Meaning as pages

-- they have these entries of a frame table, nothing is staged, and their journal, of n blocks, stands on the disk as it is now
pub record ArePagesOver {D : Type 0} (facts : Ghosts D) (store : Store) (entries : List ℕ) (n : ℕ) (p : Pages) (now : D) : Type 0 where
  pub stands : journal.Stands facts store now
  pub total : journal.total_of store ≡ n
  pub frames : pages.frame_count p ≡ length entries
  pub table : pages.table_in p ≡ entries
  pub live : pages.is_live p ≡ true
  pub staged : pages.staged_of p ≡ 0
  pub coming : (image : Image) → pages.coming p image ≡ pages.replayed (journal.total_of store) image
  pub spelled : (image : Image) → journal.IsFitting store image → journal.total_of store ≤ length image → pages.HasTable entries (pages.replayed (journal.total_of store) image) → pages.IsSpelledBy p image

-- the lists of these tables: their objects, their accounts with the pages that each pays for, and their threads by number
pub record AreListsOf (table : List (Option ObjectRow)) (rows : List (ℕ × ThreadRow)) (accounts : List AccRow) (objects : List (ℕ × ObjectRow)) (bank : BankHeld) (threads : List (ℕ × ThreadRow)) : Type 0 where
  pub objects_are : objects ≡ objects_in table
  pub accounts_are : bank.accounts ≡ accounts
  pub paid : ArePaid bank.pages objects
  pub threads_are : threads ≡ numbered rows
