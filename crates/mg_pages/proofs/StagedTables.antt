-- Blocks of the frame table are staged one after another.
use Rattle.{mg_disk.specs.Disk.{Image, block_at}, mg_frames.specs.Words.{is_within, unless_within}, mg_journal.specs.Staged.staged}
use Rattle.{mg_journal.specs.WrittenLemmas.written_elsewhere, mg_model.specs.{Layout.table_block, Replay.written}}
use Rattle.mg_pages.proofs.{OneBlock.still-named, Staging.{fit-staged, length-kept, length-staged, once-staged, written-staged}}
use Rattle.{mg_pages.specs.{Entries.HoldsEntries, Parts.StagesTable}, std.proofs.{Common.{ap, ◌∙◌, ⊎_elim, inl, inr, arith}, lemmas.Bool.cases_eq}}
use Rattle.std.{proofs.lemmas.{Bool.cases_lt, List.{get_or-map, get_or-set_other, get_or-set_same, get_or_past, length-map}}, specs.Prelude.◌≡◌}
use Rattle.std.specs.Prelude.{◌≢◌, ◌+◌, ◌*◌, ◌/◌, ◌≤◌, ◌<◌, ℕ, false, List, [], length, map, slice_index}

module _ (frames new_frames : List ℕ) (k : ℕ) (old mid : List (ℕ × List ℕ)) (so_far : StagesTable frames new_frames k old mid) where
  -- a block more that is staged
  pub more-staged : (entries : List ℕ) → HoldsEntries new_frames k entries → StagesTable frames new_frames (k + 1) old (staged mid (table_block + k) entries)
  more-staged entries hold = record {
    once = once-staged mid (table_block + k) entries so_far.once;
    least = let least = so_far.least in let e = length-kept mid (table_block + k) entries in omega arith;
    few = let few = so_far.few in let e = length-staged mid (table_block + k) entries in omega arith;
    still = λ block is. still-named mid (table_block + k) entries block (so_far.still block is);
    homes = λ total room fit. fit-staged total mid (table_block + k) entries (omega arith) (omega arith) (so_far.homes total (omega arith) fit);
    apart = λ r block out. elsewhere r block (⊎_elim (λ low same. omega arith) (λ high same. omega arith) out) ∙ so_far.apart r block (⊎_elim (λ low. inl low) (λ high. inr (omega arith)) out);
    holds = λ r j below long hold_old. ⊎_elim (here r j long) (there r j below long hold_old) (cases_eq j k);
  }
    where
      elsewhere : (r : Image) (block : ℕ) → block ≢ table_block + k → block_at (written r (staged mid (table_block + k) entries)) block ≡ block_at (written r mid) block
      elsewhere r block other = ap (λ i. block_at i block) (written-staged mid r (table_block + k) entries so_far.once) ∙ get_or-set_other (written r mid) (table_block + k) block entries [] other

      here : (r : Image) (j : ℕ) → table_block + (k + 1) ≤ length r → j ≡ k → HoldsEntries new_frames j (block_at (written r (staged mid (table_block + k) entries)) (table_block + j))
      here r j long is i below = grind (arith, written_elsewhere, written-staged, get_or-set_same)

      there : (r : Image) (j : ℕ) → j < k + 1 → table_block + (k + 1) ≤ length r → HoldsEntries frames j (block_at (written r old) (table_block + j)) → j ≢ k → HoldsEntries new_frames j (block_at (written r (staged mid (table_block + k) entries)) (table_block + j))
      there r j below long hold_old other i few = grind (arith, elsewhere)

  -- a block that is as it was
  pub more-same : ((i : ℕ) → i < 512 → slice_index new_frames (512 * k + i) ≡ slice_index frames (512 * k + i)) → StagesTable frames new_frames (k + 1) old mid
  more-same same = record {
    once = so_far.once;
    least = so_far.least;
    few = let few = so_far.few in omega arith;
    still = so_far.still;
    homes = λ total room fit. so_far.homes total (omega arith) fit;
    apart = λ r block out. so_far.apart r block (⊎_elim (λ low. inl low) (λ high. inr (omega arith)) out);
    holds = λ r j below long hold_old. ⊎_elim (here r j hold_old) (λ other. so_far.holds r j (omega arith) (omega arith) hold_old) (cases_eq j k);
  }
    where
      here : (r : Image) (j : ℕ) → HoldsEntries frames j (block_at (written r old) (table_block + j)) → j ≡ k → HoldsEntries new_frames j (block_at (written r mid) (table_block + j))
      here r j hold_old is i few = grind arith

-- a block that names no page of the range is the same once they are released
pub same-entries : (frames : List ℕ) (first pages k : ℕ) → ((i : ℕ) → i < length frames → i / 512 ≡ k → is_within first pages (slice_index frames i) ≡ false) → (i : ℕ) → i < 512
    → slice_index (map (unless_within first pages) frames) (512 * k + i) ≡ slice_index frames (512 * k + i)
same-entries frames first pages k none i few = grind (arith, get_or-map, get_or_past, length-map, cases_lt)
