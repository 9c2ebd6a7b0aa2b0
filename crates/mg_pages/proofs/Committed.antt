-- What a commit leaves, in the words of the pages.
use Rattle.mg_disk.specs.{BecomesLemmas.becomes-of, Disk.{Image, SameBut, SeenBut}, Reads.Becomes, declared.disk.Disk.Ghosts}
use Rattle.mg_journal.specs.{Contents.{InJournal, NewContents, SameContents}, Held.Store, WrittenLemmas.written_elsewhere}
use Rattle.{mg_model.specs.{Layout.{first_frame, table_block, table_blocks}, Replay.written}, mg_pages.proofs.Awaited.{fits-replayed, length-coming}}
use Rattle.mg_pages.{proofs.{Entries.{holds-spelled, spelled-past, spelled-table}, Tables.holds-apart}, specs.Committing.HasContents}
use Rattle.mg_pages.specs.{Entries.HoldsTable, Kept.AreKept, Meaning.{IsSpelledBy, StandsOn, coming, frame_count, kept_in, replayed, table_in}}
use Rattle.{mg_pages.specs.{Meaning.total_of, Parts.coming_of, declared.pages.Pages.Pages}, std.proofs.Common.{sym, subst, ◌∙◌, ⊎_elim, inl, inr}}
use Rattle.std.{proofs.Common.arith, specs.Prelude.{◌≡◌, ◌⊎◌, ◌+◌, ◌≤◌, ℕ, Bool, true, List, [], length, MatchResult, OnOk, Option, Some, Result, Ok}}
use Rattle.std.specs.Prelude.{Err, is_ok}
use Rattle.mg_journal.specs.Standing as journal

-- the contents with the writes over them are what is coming
new-coming : (store : Store) (writes : List (ℕ × List ℕ)) (image c : Image) → journal.IsFitting store image → NewContents store.total image writes c → HasContents store.total (coming_of store writes image) c
new-coming store writes image c fits new = grind (arith, fits-replayed)

-- so the blocks after the journal are those that were coming
same-behind : (store : Store) (r now : Image) → journal.IsFitting store now → HasContents store.total r now → SameBut InJournal r (replayed store.total now)
same-behind store r now fits has = subst (λ (o : Option Image). SeenBut InJournal (Some r) o) (fits-replayed store now fits) has

pub has-coming : (p : Pages) (image c : Image) → IsSpelledBy p image → NewContents p.blocks.store.total image p.blocks.writes c → HasContents (total_of p) (coming p image) c
unfolding IsSpelledBy total_of coming
has-coming p image c is new = new-coming p.blocks.store p.blocks.writes image c is.fitting new

pub old-or-coming : (p : Pages) (image c : Image) → IsSpelledBy p image → journal.OldOrNew p.blocks.store.total p.blocks.writes image c → SameContents (total_of p) image c ⊎ HasContents (total_of p) (coming p image) c
unfolding total_of
old-or-coming p image c is may = ⊎_elim (λ old. inl old) (λ new. inr (has-coming p image c is new)) may

-- what is told after the commit spells the same table
module _ (p q : Pages) (same : q.blocks.store.total ≡ p.blocks.store.total) (frames : q.frames ≡ p.frames) (none : q.blocks.writes ≡ [])
    (refreshed : (r : Image) → p.blocks.store.total ≤ length r → AreKept (first_frame (length p.frames)) r p.blocks.kept → AreKept (first_frame (length p.frames)) (written r p.blocks.writes) q.blocks.kept) where
  pub spelled-then : (image now : Image) → journal.IsFitting q.blocks.store now → p.blocks.store.total ≤ length now → IsSpelledBy p image → NewContents p.blocks.store.total image p.blocks.writes now → IsSpelledBy q now
  unfolding IsSpelledBy total_of coming frame_count table_in kept_in
  spelled-then image now fits long old new =
      let r = coming_of p.blocks.store p.blocks.writes image in
      let size = p.sound.size in
      let there = same-behind q.blocks.store r now fits (subst (λ total. HasContents total r now) (sym same) (new-coming p.blocks.store p.blocks.writes image now old.fitting new)) in
      let table : HoldsTable q.frames (table_blocks (length q.frames)) (coming_of q.blocks.store q.blocks.writes now) =
      rw (frames, none)
      (holds-apart p.frames (table_blocks (length p.frames)) r (replayed q.blocks.store.total now) (λ k few. there.others (table_block + k) (λ in'. let low = in'.0 in let high = in'.1 in absurd (omega arith)))
      (holds-spelled p.frames r old.table old.past)) in
      record {
        fitting = fits;
        long = omega arith;
        table = spelled-table q.frames (coming_of q.blocks.store q.blocks.writes now) table;
        past = spelled-past q.frames (coming_of q.blocks.store q.blocks.writes now) table;
        kept =
            subst (λ (fs : List ℕ). AreKept (first_frame (length fs)) (replayed q.blocks.store.total now) q.blocks.kept) (sym frames)
            (λ i bytes found high.
            let n = length-coming p.blocks.store p.blocks.writes image old.fitting in
            let m = (written_elsewhere p.blocks.writes (replayed p.blocks.store.total image)).count in
            let far = old.long in
            refreshed (replayed p.blocks.store.total image) (omega arith) old.kept i bytes found high ∙ sym (there.others i (λ in'. let low = in'.1 in absurd (omega arith))));
      }

  -- and the pages stand there
  pub stands-then : {D : Type 0} (facts : Ghosts D) (disk disk' : D) → journal.Stands facts q.blocks.store disk' → ((now : Image) → facts.seen disk' ≡ Some now → length now ≡ facts.block_count disk')
      → StandsOn facts p disk → Becomes (journal.IsCommitted p.blocks.store.total p.blocks.writes) (facts.seen disk) (facts.seen disk') → StandsOn facts q disk'
  unfolding total_of
  stands-then facts disk disk' stands counted old came =
      let room = stands.room in
      record {
        room = room;
        settled = stands.settled;
        fits = λ now told.
            let image = becomes-of (journal.IsCommitted p.blocks.store.total p.blocks.writes) (facts.seen disk) (facts.seen disk') now came told in
            let long = counted now told in
            spelled-then image.0 now (stands.fits now told) (omega arith) (old.fits image.0 image.1) image.2.contents;
      }

-- what holds of a good answer
pub taken : {T E : Type 0} (done failed : Type 0) (r : Result T E) → MatchResult r (λ _. done) (λ _. failed) → OnOk r done
taken done failed (Ok x) is = is
taken done failed (Err e) is = tt

pub live-ok : {T E : Type 0} (live : Bool) (r : Result T E) → live ≡ is_ok r → OnOk r (live ≡ true)
live-ok live (Ok x) is = is
live-ok live (Err e) is = tt
