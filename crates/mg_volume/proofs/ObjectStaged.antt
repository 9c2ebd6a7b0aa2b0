-- An object's row is staged, and the state has it.
use Rattle.{mg_disk.specs.Disk.Image, mg_model.specs.{Abbreviations.object_row_bytes, Layout.first_object_block, Limits.object_limit}}
use Rattle.{mg_model.specs.{Replay.block_of, Spelling.{Read, object_read}, State.ObjectRow, Volume.live_rows}, mg_objects.specs.Held.by_base}
use Rattle.{mg_pages.specs.declared.pages.Pages.Pages, mg_rows.specs.Blocks.object_in, mg_volume.proofs.ObjectLists.{by_base_distinct, by_base_row}}
use Rattle.mg_volume.proofs.{ObjectLists.placed_distinct, ObjectRemoved.{apart_pairs, bases_differ}, Staged.{accounts_stay, block_there, but_block}}
use Rattle.mg_volume.{proofs.Staged.{but_one, counters_stay, threads_stay}, specs.{Held.VolumeHeld, Meaning.{IsKept, Spelled, objects_in}}}
use Rattle.{mg_volume.specs.{RowLists.{DistinctBy, ArePlaced, row_at, tell, told}, StagesRows.StagesRows}, std.proofs.Common.{sym, ap, subst, ◌∙◌}}
use Rattle.std.{proofs.{Common.{⊎_elim, arith, inl}, lemmas.Bool.cases_eq}, specs.Prelude.{◌≡◌, ◌≢◌, ◌+◌, ◌*◌, ◌/◌, ◌%◌, ◌<◌, ℕ, List, Some}}
use Rattle.mg_pages.specs.Meaning as pages

abbrev pub with_objects : VolumeHeld → List (ℕ × ObjectRow) → Pages → VolumeHeld
with_objects v objects p = record v { objects = objects; pages = p }

rows-told : (f g : ℕ → Read ObjectRow) (quad : ℕ) (rows rows' : List (ℕ × ObjectRow)) → live_rows f 0 object_limit ≡ Some rows → ArePlaced 0 object_limit rows'
    → ((j : ℕ) → j < object_limit → j / 4 ≡ quad → g j ≡ Some (row_at j rows')) → ((j : ℕ) → j < object_limit → j / 4 ≢ quad → g j ≡ f j) → ((j : ℕ) → j / 4 ≢ quad → row_at j rows' ≡ row_at j rows)
    → live_rows g 0 object_limit ≡ Some rows'
rows-told f g quad rows rows' is placed here there others =
    let all = told f 0 object_limit rows is in
    tell g 0 object_limit rows'
    (record {
      placed = placed;
      each = λ j low high.
          ⊎_elim (λ same. here j (omega arith) same)
          (λ other. there j (omega arith) other ∙ all.each j low high ∙ ap (λ o. Some o) (sym (others j other))) (cases_eq (j / 4) quad);
    })

-- four rows were staged, as they are held now
pub objects_staged : (v : VolumeHeld) (p : Pages) (image : Image) (place : ℕ) (rows' objects' : List (ℕ × ObjectRow)) (s : Spelled v image) → StagesRows objects' place v.pages p → place < object_limit → ArePlaced 0 object_limit rows' → by_base rows' ≡ objects'
    → ((j : ℕ) → j / 4 ≢ place / 4 → row_at j rows' ≡ row_at j s.objects) → Spelled (with_objects v objects' p) image
objects_staged v p image place rows' objects' s staged few placed order others =
    let at = first_object_block + place / 4 in
    let same = but_block v.pages p image at staged.bytes staged.block in
    record {
      fitting = staged.block.spelled image s.fitting;
      frames = staged.block.shape.frames ∙ s.frames;
      gated = s.gated;
      super = s.super;
      counters_are = counters_stay v p image s at (at + 1) same (inl (omega arith));
      accounts_are = accounts_stay v p image s at (at + 1) same (inl (omega arith));
      threads = s.threads;
      threads_are = threads_stay v p image s at (at + 1) same (inl (omega arith));
      numbered = s.numbered;
      objects = rows';
      objects_are =
          rows-told (λ j. object_read (object_row_bytes (pages.coming v.pages image) j)) (λ j. object_read (object_row_bytes (pages.coming p image) j)) (place / 4) s.objects rows' s.objects_are placed
          (λ j within same.
          let there : first_object_block + j / 4 ≡ at = omega arith in
          let whole : 4 * (place / 4) + j % 4 ≡ j = omega arith in
          ap (λ k. object_in (block_of (pages.coming p image) k) (j % 4)) there
          ∙ ap (λ (b : List ℕ). object_in b (j % 4)) (block_there v.pages p image at staged.bytes staged.block s.fitting (omega arith))
          ∙ staged.rows (j % 4) (omega arith)
          ∙ ap (λ k. Some (row_at k objects')) whole
          ∙ ap (λ l. Some (row_at j l)) (sym order)
          ∙ ap (λ o. Some o) (by_base_row j rows' (placed_distinct 0 object_limit rows' placed)))
          (λ j within other. ap (λ (b : List ℕ). object_in b (j % 4)) (but_one v.pages p image at staged.bytes staged.block (first_object_block + j / 4) (λ is. other (omega arith))))
          others;
      ordered = order;
      kept = s.kept;
      is = s.is;
    }

pub placed_of : (v : VolumeHeld) (image : Image) (s : Spelled v image) → ArePlaced 0 object_limit s.objects
placed_of v image s = (told (λ i. object_read (object_row_bytes (pages.coming v.pages image) i)) 0 object_limit s.objects s.objects_are).placed

pub distinct_of : (v : VolumeHeld) (image : Image) → Spelled v image → DistinctBy (λ (y : ℕ × ObjectRow). y.0) v.objects
distinct_of v image s = subst (DistinctBy (λ (y : ℕ × ObjectRow). y.0)) s.ordered (by_base_distinct s.objects (placed_distinct 0 object_limit s.objects (placed_of v image s)))

pub bases_distinct : (v : VolumeHeld) → IsKept v → DistinctBy (λ (y : ℕ × ObjectRow). y.1.base) v.objects
unfolding objects_in
bases_distinct v kept = bases_differ v.objects kept.rows (apart_pairs v.objects kept.apart)
