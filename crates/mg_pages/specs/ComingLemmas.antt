-- Lemmas on what lies outside the journal's reach: the length of an image, and the blocks before the globals.
use Rattle.std.proofs.{Common.{refl, sym, ap, ◌∙◌, ⊎_elim, arith}, lemmas.Bool.{and_from, and_parts, cases_Bool}}
use Rattle.std.{proofs.lemmas.{Bool.leb-true, List.get_or-set_other}, specs.Prelude.{◌≡◌, ◌+◌, ◌<◌, ◌&&◌, nat_le}}
use Rattle.std.specs.Prelude.{nat_lt, ℕ, zero, suc, true, false, List, [], ◌∷◌, ◌++◌, length, slice_set, Some}
use Rattle.{mg_disk.specs.Disk.Image, mg_journal.specs.{Contents.bodies_of, JournalLemmas.{open_writes, replayed-fits}}}
use Rattle.mg_journal.specs.{JournalLemmas.replayed-is, SegmentLemmas.{fits-open, writes-closed, writes-open}}
use Rattle.mg_model.specs.{Abbreviations.{segments_fit, writes_since}, Layout.{body_limit, globals_block}}
use Rattle.mg_model.specs.{Layout.segment_count, Replay.{block_of, body_count, homes_fit, is_open, replay}}
use Rattle.mg_model.specs.{Replay.{segment_fits, writes_of, written}, VolumeLemmas.length-written}
use Rattle.mg_pages.specs.{Meaning.{IsSpelledBy, coming, replayed, total_of}, SpelledLemmas.{replayed_is, replays}}
use Rattle.mg_pages.specs.declared.pages.Pages.{Pages}
use Rattle.mg_journal.specs.Standing as journal

-- no home lies before the globals
written_low : (total : ℕ) (image : Image) (writes : List (ℕ × List ℕ)) (k : ℕ) → homes_fit total writes ≡ true → k < globals_block → block_of (written image writes) k ≡ block_of image k
written_low total image [] k fit low = refl
written_low total image ((i, block) ∷ writes) k fit low =
    let parts = and_parts (nat_le globals_block i && nat_lt i total) (homes_fit total writes) fit in
    let home = leb-true globals_block i (and_parts (nat_le globals_block i) (nat_lt i total) parts.0).0 in
    written_low total (slice_set image i block) writes k parts.1 low ∙ get_or-set_other image i k block [] (λ is. omega arith)

homes_both : (total : ℕ) (first last : List (ℕ × List ℕ)) → homes_fit total first ≡ true → homes_fit total last ≡ true → homes_fit total (first ++ last) ≡ true
homes_both total [] last fit fit' = fit'
homes_both total ((i, block) ∷ first) last fit fit' =
    let parts = and_parts (nat_le globals_block i && nat_lt i total) (homes_fit total first) fit in
    and_from (nat_le globals_block i && nat_lt i total) (homes_fit total (first ++ last)) parts.0 (homes_both total first last parts.1 fit')

segment_homes : (total : ℕ) (a : Image) (s : ℕ) → segment_fits total a s ≡ true → homes_fit total (writes_of a s) ≡ true
segment_homes total a s fit = ⊎_elim opened shut (cases_Bool (is_open a s))
  where
    opened : is_open a s ≡ true → homes_fit total (writes_of a s) ≡ true
    opened is =
        ap (homes_fit total) (writes-open a s is)
        ∙ (and_parts (nat_le (body_count a s) body_limit) (homes_fit total (bodies_of a s)) (sym (fits-open total a s is) ∙ fit)).1

    shut : is_open a s ≡ false → homes_fit total (writes_of a s) ≡ true
    shut is = ap (homes_fit total) (writes-closed a s is)

open_homes : (total : ℕ) (a : Image) (from n : ℕ) → segments_fit total a from n ≡ true → homes_fit total (writes_since a from n) ≡ true
open_homes total a from zero fit = refl
open_homes total a from (suc n) fit =
    let parts = and_parts (segment_fits total a from) (segments_fit total a (from + 1) n) fit in
    homes_both total (writes_of a from) (writes_since a (from + 1) n) (segment_homes total a from parts.0) (open_homes total a (from + 1) n parts.1)

-- A replay leaves the blocks before the globals, and the length.
pub replay_low : (total : ℕ) (a r : Image) (k : ℕ) → replay a total ≡ Some r → k < globals_block → block_of r k ≡ block_of a k
replay_low total a r k is low =
    ap (λ i. block_of i k) (replayed-is total a r is)
    ∙ written_low total a (open_writes a) k (open_homes total a 0 segment_count (replayed-fits total a r is)) low

pub length_replay : (total : ℕ) (a r : Image) → replay a total ≡ Some r → length r ≡ length a
length_replay total a r is = ap (λ (i : Image). length i) (replayed-is total a r is) ∙ length-written a (open_writes a)

-- So does what is staged.
pub length_coming : (p : Pages) (image : Image) → IsSpelledBy p image → length (coming p image) ≡ length image
unfolding coming total_of
length_coming p image is =
    let r = replays p image is in
    length-written (replayed (journal.total_of p.blocks.store) image) p.blocks.writes
    ∙ ap (λ (i : Image). length i) (replayed_is (journal.total_of p.blocks.store) image r.0 r.1)
    ∙ length_replay (journal.total_of p.blocks.store) image r.0 r.1

pub low_coming : (p : Pages) (image : Image) (k : ℕ) → IsSpelledBy p image → k < globals_block → block_of (coming p image) k ≡ block_of image k
unfolding coming total_of IsSpelledBy
low_coming p image k is low =
    let r = replays p image is in
    let fit : homes_fit (total_of p) p.blocks.writes ≡ true = p.sound.homes in
    written_low (total_of p) (replayed (journal.total_of p.blocks.store) image) p.blocks.writes k fit low
    ∙ ap (λ i. block_of i k) (replayed_is (journal.total_of p.blocks.store) image r.0 r.1)
    ∙ replay_low (journal.total_of p.blocks.store) image r.0 k r.1 low
