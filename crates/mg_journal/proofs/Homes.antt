-- What changes at the homes of open segments do to the contents, and what closing the gates does once the homes are written.
use Rattle.{mg_disk.specs.Disk.{Image, SameBut, block_at, only_place}, mg_journal.specs.Contents.{ClosedBelow, InJournal, names}}
use Rattle.mg_journal.specs.{JournalLemmas.{open_writes, replay-some, replayed-fits, replayed-is, same_gate, same_wider}, SegmentLemmas.IsAlike}
use Rattle.mg_journal.specs.SegmentLemmas.{all-write, alike-gates, alike-whole, each-fits, fits-closed, fits-each, fits-open, writes-closed}
use Rattle.mg_journal.specs.{SegmentLemmas.{writes-open, writes_since-none, writes_since-split}, WrittenLemmas.last_change_nothing}
use Rattle.{mg_journal.specs.WrittenLemmas.{written_elsewhere, written_over, written_same}, mg_model.specs.Abbreviations.{segments_fit, writes_since}}
use Rattle.mg_model.specs.{Layout.{globals_block, segment_count, segment_gate}, Replay.{homes_fit, is_open, replay, segment_fits, writes_of, written}}
use Rattle.std.proofs.{Common.{refl, sym, ap, subst, ◌∙◌, ⊎_elim, inl, inr, arith}, lemmas.Bool.{and_parts, both_ways, cases_Bool, cases_eq}}
use Rattle.std.proofs.lemmas.{Bool.{cases_lt, eqb-true, leb-true, or_cases, or_left, or_right, Decides.nat_tests}, List.ext_get_or}
use Rattle.std.specs.Prelude.{◌≡◌, ◌≢◌, ◌⊎◌, ◌+◌, ◌-◌, ◌≤◌, ◌<◌, ◌==◌, ◌&&◌, nat_le, nat_lt, ℕ, zero, suc, true, false, List, [], ◌∷◌, ◌++◌, Some}

-- a home that fits lies after the journal
pub fit-behind : (total : ℕ) (writes : List (ℕ × List ℕ)) (k : ℕ) → homes_fit total writes ≡ true → names writes k ≡ true → globals_block ≤ k
fit-behind total [] k fit named = absurd (both_ways false refl named)
fit-behind total ((i, x) ∷ writes) k fit named =
    let here_and = and_parts (nat_le globals_block i && nat_lt i total) (homes_fit total writes) fit in
    let home = leb-true globals_block i (and_parts (nat_le globals_block i) (nat_lt i total) here_and.0).0 in
    ⊎_elim (λ is. let e = eqb-true i k is in omega arith) (λ later. fit-behind total writes k here_and.1 later) (or_cases (i == k) (names writes k) named)

names-append : (first last : List (ℕ × List ℕ)) (k : ℕ) → names (first ++ last) k ≡ true → (names first k ≡ true) ⊎ (names last k ≡ true)
names-append [] last k named = inr named
names-append ((i, x) ∷ first) last k named =
    ⊎_elim (λ is. inl (or_left (i == k) (names first k) is))
    (λ later. ⊎_elim (λ a. inl (or_right (i == k) (names first k) a)) (λ b. inr b) (names-append first last k later))
    (or_cases (i == k) (names (first ++ last) k) named)

names-last : (first last : List (ℕ × List ℕ)) (k : ℕ) → names last k ≡ true → names (first ++ last) k ≡ true
names-last [] last k named = named
names-last ((i, x) ∷ first) last k named = or_right (i == k) (names (first ++ last) k) (names-last first last k named)

-- so do those of open segments that fit
segment-behind : (total : ℕ) (a : Image) (s k : ℕ) → segment_fits total a s ≡ true → names (writes_of a s) k ≡ true → globals_block ≤ k
segment-behind total a s k fit named = grind (arith, nat_tests, fit-behind, and_parts, fits-open, writes-open, both_ways, writes-closed)

pub since-behind : (total : ℕ) (a : Image) (from n k : ℕ) → segments_fit total a from n ≡ true → names (writes_since a from n) k ≡ true → globals_block ≤ k
since-behind total a from zero k fit named = absurd (both_ways false refl named)
since-behind total a from (suc n) k fit named =
    let parts = and_parts (segment_fits total a from) (segments_fit total a (from + 1) n) fit in
    ⊎_elim (segment-behind total a from k parts.0) (since-behind total a (from + 1) n k parts.1) (names-append (writes_of a from) (writes_since a (from + 1) n) k named)

-- when the replay takes the same from each segment
alike_replays : (total : ℕ) (a b r : Image) → segments_fit total a 0 segment_count ≡ true → ((s : ℕ) → s < segment_count → IsAlike total a b s) → written b (open_writes a) ≡ r → replay b total ≡ Some r
alike_replays total a b r fit alike is =
    replay-some total b (fits-each total b 0 segment_count (λ s low high. (alike s (omega arith)).fits ∙ each-fits total a 0 segment_count s fit low high))
    ∙ ap (λ w. Some (written b w)) (all-write a b 0 segment_count (λ s low high. (alike s (omega arith)).writes (each-fits total a 0 segment_count s fit low high)))
    ∙ ap (λ i. Some i) is

-- Any bytes in the homes that open segments name leave the replay.
pub homes_torn : (total : ℕ) (a b r : Image) → replay a total ≡ Some r → SameBut (λ k. names (open_writes a) k ≡ true) a b → replay b total ≡ Some r
homes_torn total a b r is same =
    let fit = replayed-fits total a r is in
    let journal : (k : ℕ) → k < globals_block → block_at b k ≡ block_at a k = λ k low. same.others k (λ named. let high = since-behind total a 0 segment_count k fit named in omega arith) in
    alike_replays total a b r fit (λ s few. alike-whole total a b s (λ k from to. journal k (omega arith))) (written_over (open_writes a) a b same ∙ sym (replayed-is total a r is))

-- Once all homes are written the image is its own replay.
pub homes_written : (total : ℕ) (a r : Image) → replay a total ≡ Some r → replay r total ≡ Some r
homes_written total a r is =
    homes_torn total a r r is
    (let P : Image → Type 0 = λ i. SameBut (λ k. names (open_writes a) k ≡ true) a i in subst P (sym (replayed-is total a r is)) (written_elsewhere (open_writes a) a))

-- an image that is its own replay, changed within the journal so that the last of its writes are left
still_written : (a b : Image) (first last : List (ℕ × List ℕ)) → written a (first ++ last) ≡ a → ((k : ℕ) → names last k ≡ true → globals_block ≤ k) → SameBut InJournal a b → written b last ≡ b
still_written a b first last is behind same =
    ext_get_or [] (written b last) b (written_elsewhere last b).count (λ k below. ⊎_elim (there k) (elsewhere k) (cases_Bool (names last k)))
  where
    over : SameBut (λ k. InJournal k × (names last k ≡ false)) (written a last) (written b last)
    over = written_same last InJournal a b same

    elsewhere : (k : ℕ) → names last k ≡ false → block_at (written b last) k ≡ block_at b k
    elsewhere k never = (written_elsewhere last b).others k (both_ways (names last k) never)

    there : (k : ℕ) → names last k ≡ true → block_at (written b last) k ≡ block_at b k
    there k named =
        over.others k (λ p. both_ways (names last k) p.1 named)
        ∙ ap (λ i. block_at i k) (last_change_nothing a first last is)
        ∙ sym (same.others k (λ p. let high = p.1 in let low = behind k named in omega arith))

-- Closing gates first to last leaves an image its own replay, whatever is in the closed segments.
pub closing : (total : ℕ) (a b : Image) (m : ℕ) → m ≤ segment_count → replay a total ≡ Some a → ClosedBelow m a b → replay b total ≡ Some b
closing total a b m few is below =
    replay-some total b fits ∙ ap (λ w. Some (written b w)) writes
    ∙ ap (λ i. Some i) (still_written a b (writes_since a 0 m) (writes_since a m (segment_count - m)) settled (λ k named. since-behind total a 0 segment_count k fit (ap (λ w. names w k) split ∙ names-last (writes_since a 0 m) (writes_since a m (segment_count - m)) k named)) below.journal)
  where
    fit : segments_fit total a 0 segment_count ≡ true
    fit = replayed-fits total a a is

    split_of : (i : Image) → open_writes i ≡ writes_since i 0 m ++ writes_since i m (segment_count - m)
    split_of i =
        let all : m + (segment_count - m) ≡ segment_count = omega arith in
        let from : 0 + m ≡ m = omega arith in
        ap (writes_since i 0) (sym all) ∙ writes_since-split i 0 m (segment_count - m) ∙ ap (λ t. writes_since i 0 m ++ writes_since i t (segment_count - m)) from

    split : open_writes a ≡ writes_since a 0 m ++ writes_since a m (segment_count - m)
    split = split_of a

    settled : written a (writes_since a 0 m ++ writes_since a m (segment_count - m)) ≡ a
    settled = ap (written a) (sym split) ∙ sym (replayed-is total a a is)

    fits_at : (s : ℕ) → s < segment_count → segment_fits total b s ≡ true
    fits_at s high =
        ⊎_elim (λ low. fits-closed total b s (below.shut s low))
        (λ low. (alike-whole total a b s (below.rest s low high)).fits ∙ each-fits total a 0 segment_count s fit (omega arith) high) (cases_lt s m)

    fits : segments_fit total b 0 segment_count ≡ true
    fits = fits-each total b 0 segment_count (λ s low high. fits_at s (omega arith))

    writes : open_writes b ≡ writes_since a m (segment_count - m)
    writes =
        split_of b
        ∙ ap (λ w. w ++ writes_since b m (segment_count - m)) (writes_since-none b 0 m (λ s low high. below.shut s (omega arith)))
        ∙ all-write a b m (segment_count - m) (λ s low high. (alike-whole total a b s (below.rest s low (omega arith))).writes (each-fits total a 0 segment_count s fit (omega arith) (omega arith)))

-- Any bytes in the gate of the first open segment do so too.
pub first_gate_torn : (total : ℕ) (a b : Image) (s : ℕ) → s < segment_count → ((t : ℕ) → t < s → is_open a t ≡ false) → is_open a s ≡ true → replay a total ≡ Some a
    → SameBut (only_place (segment_gate s)) a b → replay b total ≡ Some b
first_gate_torn total a b s few before opened is same = ⊎_elim still shut (cases_Bool (is_open b s))
  where
    fit : segments_fit total a 0 segment_count ≡ true
    fit = replayed-fits total a a is

    elsewhere : (t k : ℕ) → t ≢ s → segment_gate t ≤ k → k < segment_gate (t + 1) → block_at b k ≡ block_at a k
    elsewhere t k other low high = same.others k (λ e. other (omega arith))

    journal : SameBut InJournal a b
    journal = same_wider (only_place (segment_gate s)) InJournal a b (λ k e. (omega arith, omega arith)) same

    before_shut : (t : ℕ) → t < s → is_open b t ≡ false
    before_shut t low = same_gate a b t (elsewhere t (segment_gate t) (λ e. omega arith) (omega arith) (omega arith)) ∙ before t low

    -- it is closed now
    shut : is_open b s ≡ false → replay b total ≡ Some b
    shut shut' =
        closing total a b (s + 1) (omega arith) is (record {
          journal = journal;
          shut = λ t low. ⊎_elim (λ e. ap (is_open b) e ∙ shut') (λ other. before_shut t (omega arith)) (cases_eq t s);
          rest = λ t low high k from to. elsewhere t k (λ e. omega arith) from to;
        })

    -- it is still open, so the same segments are
    alike : is_open b s ≡ true → (t : ℕ) → IsAlike total a b t
    alike opened' t =
        ⊎_elim (λ e. let P : ℕ → Type 0 = λ n. IsAlike total a b n in subst P (sym e) (alike-gates total a b s (λ k low high. same.others k (λ e'. omega arith)) (opened' ∙ sym opened)))
        (λ other. alike-whole total a b t (λ k low high. elsewhere t k other low high)) (cases_eq t s)

    still : is_open b s ≡ true → replay b total ≡ Some b
    still opened' =
        alike_replays total a b b fit (λ t few. alike opened' t) (still_written a b [] (open_writes a) (sym (replayed-is total a a is)) (λ k named. since-behind total a 0 segment_count k fit named) journal)
