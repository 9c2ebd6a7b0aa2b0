-- Reading the blocks of a lifted image.
use Rattle.{mg_disk.specs.Disk.{HasBlocks, Image, block_at}, mg_journal.specs.Looked.{Fits, Placed}, mg_migrate.proofs.LiftedBlocks.at_behind}
use Rattle.mg_migrate.{proofs.LiftedBlocks.{at_object, at_row, at_super, block-of-lifted}, specs.{Layout1.table1_block, Lifted.lifted}}
use Rattle.{mg_migrate.specs.{Lifted.{lifted_block, lifted_objects}, LiftedView.LiftedView}, mg_model.specs.Layout.first_object_block}
use Rattle.mg_model.specs.{Layout.{globals_block, super_block, table_block, total_blocks}, Replay.{block_of, replay}, Settings.Settings}
use Rattle.{mg_model.specs.Spelling.super_bytes, std.{proofs.Common.{refl, sym, ap, subst, ◌∙◌, arith}, specs.{Option.ForSome, Prelude.{◌≡◌, ℕ}}}}
use Rattle.std.specs.Prelude.{◌+◌, ◌-◌, ◌/◌, ◌%◌, ◌<◌, ◌≤◌, List, length, Option, None, Some, option_map}

pub super_at : (settings : Settings) (r : Image) (i : ℕ) → i ≡ super_block → lifted_block settings r i ≡ super_bytes settings
super_at settings r i is = ap (lifted_block settings r) is ∙ at_super settings r

-- what a lifted image is of
of_lifted : (settings : Settings) (o : Option Image) (l : Image) → option_map (lifted settings) o ≡ Some l → (r : Image) × ((o ≡ Some r) × (l ≡ lifted settings r))
of_lifted settings None l is = absurd (cc)
of_lifted settings (Some r) l is = (r, (refl, (cc)))

-- a view of these parts
module _ (l : LiftedView) (view : Placed) (settings : Settings) (is : record { placed = view; settings = settings } ≡ l) where
  pub fits_so : (seen : Option Image) → ForSome seen (λ image. Fits l.placed image) → ForSome seen (λ image. Fits view image)
  fits_so seen fits image told = subst (λ (v : LiftedView). Fits v.placed image) (sym is) (fits image told)

  -- what is said of a block by what the journal gives, said by the lifted image
  pub seen_so : (seen : Option Image) (out : List ℕ) (i : ℕ) (P : Image → Type 0) → i < total_blocks l.settings.frames → ((r : Image) → P r → out ≡ lifted_block settings r i)
      → ForSome seen (λ image. ForSome (replay image view.total) P) → ForSome seen (λ image. ForSome (option_map (lifted l.settings) (replay image l.placed.total)) (λ x. out ≡ block_at x i))
  seen_so seen out i P below each told image at x lift =
      let r = of_lifted l.settings (replay image l.placed.total) x lift in
      let same : replay image view.total ≡ Some r.0 = ap (λ (v : LiftedView). replay image v.placed.total) is ∙ r.1.0 in
      let block : block_of x i ≡ lifted_block l.settings r.0 i = ap (λ (x : Image). block_of x i) r.1.1 ∙ block-of-lifted l.settings r.0 i below in
      each r.0 (told image at r.0 same) ∙ ap (λ (v : LiftedView). lifted_block v.settings r.0 i) is ∙ sym block

  -- whatever the journal gives
  pub any_so : (seen : Option Image) (out : List ℕ) (i : ℕ) → i < total_blocks l.settings.frames → ((r : Image) → out ≡ lifted_block settings r i)
      → ForSome seen (λ image. ForSome (option_map (lifted l.settings) (replay image l.placed.total)) (λ x. out ≡ block_at x i))
  any_so seen out i below each = seen_so seen out i (λ _. Unit {0}) below (λ r _. each r) (λ image at r is. tt)

  pub row_so : (seen : Option Image) (out : List ℕ) (i : ℕ) → i < total_blocks l.settings.frames → globals_block ≤ i → i < first_object_block
      → ForSome seen (λ image. ForSome (replay image view.total) (λ r. out ≡ block_at r i))
      → ForSome seen (λ image. ForSome (option_map (lifted l.settings) (replay image l.placed.total)) (λ x. out ≡ block_at x i))
  row_so seen out i below low high = seen_so seen out i (λ r. out ≡ block_at r i) below (λ r same. same ∙ sym (at_row settings r i low high))

  pub object_so : (seen : Option Image) (out : List ℕ) (i k : ℕ) → i < total_blocks l.settings.frames → first_object_block ≤ i → i < table_block → k ≡ i - first_object_block
      → ForSome seen (λ image. ForSome (replay image view.total) (λ r. out ≡ lifted_objects (block_of r (first_object_block + k / 2)) (k % 2)))
      → ForSome seen (λ image. ForSome (option_map (lifted l.settings) (replay image l.placed.total)) (λ x. out ≡ block_at x i))
  object_so seen out i k below low high is =
      seen_so seen out i (λ r. out ≡ lifted_objects (block_of r (first_object_block + k / 2)) (k % 2)) below
      (λ r same. same ∙ ap (λ k. lifted_objects (block_of r (first_object_block + k / 2)) (k % 2)) is ∙ sym (at_object settings r i low high))

  pub behind_so : (seen : Option Image) (out : List ℕ) (i k : ℕ) → i < total_blocks l.settings.frames → table1_block ≤ k → i ≡ k + 512
      → ForSome seen (λ image. ForSome (replay image view.total) (λ r. out ≡ block_at r k))
      → ForSome seen (λ image. ForSome (option_map (lifted l.settings) (replay image l.placed.total)) (λ x. out ≡ block_at x i))
  behind_so seen out i k below low is = seen_so seen out i (λ r. out ≡ block_at r k) below (λ r same. same ∙ sym (at_behind settings r i k low is))

  -- blocks from the frame table on, together
  pub blocks_so : (seen : Option Image) (out : Image) (first from : ℕ) → first + length out ≤ total_blocks l.settings.frames → table1_block ≤ from → first ≡ from + 512
      → ForSome seen (λ image. ForSome (replay image view.total) (HasBlocks from out))
      → ForSome seen (λ image. ForSome (option_map (lifted l.settings) (replay image l.placed.total)) (HasBlocks first out))
  blocks_so seen out first from room low is told image at x lift k below =
      sym (behind_so seen (block_at out k) (first + k) (from + k) (omega arith) (omega arith) (omega arith) (λ image at r so. sym (told image at r so k below)) image at x lift)
