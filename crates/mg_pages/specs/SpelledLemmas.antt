-- Lemmas on an image that spells the pages: what the layer above may know of it.
use Rattle.std.{proofs.Common.{refl, sym, ap, ◌∙◌, arith}, specs.{Option.{ForSome, option_map_or}, Prelude.{◌≡◌, ◌≤◌}}}
use Rattle.std.specs.Prelude.{ℕ, true, List, [], ◌∷◌, drop, length, Option, Some}
use Rattle.{mg_disk.specs.{Disk.Image, declared.disk.Disk.Ghosts}, mg_journal.specs.Held.Store}
use Rattle.mg_model.specs.{Abbreviations.{table_of, whole_table}, Bytes.are_zeros, Layout.total_blocks, Replay.replay}
use Rattle.{mg_model.specs.{Replay.written, Tests.all_distinct, Volume.bound_pages}, mg_pages.specs.Meaning.IsSpelledBy}
use Rattle.mg_pages.specs.Meaning.{Spelled, StandsOn, coming, frame_count, replayed, staged_in, staged_of, store_of}
use Rattle.mg_pages.specs.{Meaning.{table_in, total_of}, declared.pages.Pages.Pages}
use Rattle.mg_journal.specs.Standing as journal

spelled : (p : Pages) (image : Image) → IsSpelledBy p image → Spelled p image
unfolding IsSpelledBy
spelled p image is = is

pub long_of : (p : Pages) (image : Image) → IsSpelledBy p image → total_of p ≤ length image
long_of p image is = (spelled p image is).long

pub some_frames : (p : Pages) (image : Image) → IsSpelledBy p image → 16 ≤ frame_count p
unfolding total_of frame_count table_in
some_frames p image is = p.sound.some

pub few_frames : (p : Pages) (image : Image) → IsSpelledBy p image → frame_count p ≤ 65536
unfolding total_of frame_count table_in
few_frames p image is = p.sound.few

pub size_of : (p : Pages) (image : Image) → IsSpelledBy p image → total_of p ≡ total_blocks (frame_count p)
unfolding total_of frame_count table_in
size_of p image is = p.sound.size

-- what is coming spells the frame table, and no page is there twice
pub table_spelled : (p : Pages) (image : Image) → IsSpelledBy p image → table_of (coming p image) (frame_count p) ≡ table_in p
table_spelled p image is = (spelled p image is).table

pub past_spelled : (p : Pages) (image : Image) → IsSpelledBy p image → are_zeros (drop (frame_count p) (whole_table (coming p image) (frame_count p))) ≡ true
past_spelled p image is = (spelled p image is).past

pub no_page_twice : (p : Pages) (image : Image) → IsSpelledBy p image → all_distinct (bound_pages (table_in p)) ≡ true
unfolding total_of frame_count table_in
no_page_twice p image is = p.sound.distinct

-- pages whose journal stands on a disk stand there, if what its reads give spells them
pub stands_spelled : {D : Type 0} (facts : Ghosts D) (store : Store) (p : Pages) (disk : D) → store_of p ≡ store → journal.Stands facts store disk → ForSome (facts.seen disk) (IsSpelledBy p) → StandsOn facts p disk
unfolding total_of store_of
stands_spelled facts store p disk is stands spells =
    let e : total_of p ≡ store.total = ap (λ (s : Store). s.total) is in
    let room = stands.room in
    record {
      room = omega arith;
      settled = stands.settled;
      fits = spells;
    }

-- if what is staged stays, its number stays
pub same_number : (p q : Pages) → staged_in q ≡ staged_in p → staged_of q ≡ staged_of p
unfolding staged_in staged_of
same_number p q same = ap (λ (ws : List (ℕ × List ℕ)). length ws) same

-- the journal can be replayed
pub replayed_is : (total : ℕ) (image r : Image) → replay image total ≡ Some r → replayed total image ≡ r
replayed_is total image r is = ap (λ (o : Option Image). option_map_or (λ (v : Image). v) o image) is

pub replays : (p : Pages) (image : Image) → IsSpelledBy p image → (r : Image) × (replay image (total_of p) ≡ Some r)
unfolding total_of
replays p image is = journal.fitting_replays p.blocks.store image (spelled p image is).fitting

-- with nothing staged, what is coming is the replay
none_written : (writes : List (ℕ × List ℕ)) (image : Image) → length writes ≡ 0 → written image writes ≡ image
none_written [] image none = refl
none_written (w ∷ writes) image none = absurd (omega arith)

pub coming_still : (p : Pages) (image : Image) → IsSpelledBy p image → staged_of p ≡ 0 → replay image (total_of p) ≡ Some (coming p image)
unfolding total_of coming staged_of
coming_still p image is none =
    let r = replays p image is in
    r.1 ∙ ap (λ (v : Image). Some v) (sym (none_written p.blocks.writes (replayed (journal.total_of p.blocks.store) image) none ∙ replayed_is (journal.total_of p.blocks.store) image r.0 r.1))
