-- Lemmas on what changes inside the journal do to the contents. No disk is spoken of.
use Rattle.std.proofs.{Common.{sym, ap, subst, ◌∙◌, ⊎_elim, inl, inr, arith}, lemmas.Bool.{and_parts, both_ways}}
use Rattle.std.{proofs.lemmas.{Bool.{cases_Bool, cases_eq}, List.append-nil}, specs.Prelude.{◌≡◌, ◌≢◌, ◌⊎◌, ◌+◌, ◌-◌}}
use Rattle.std.specs.Prelude.{◌≤◌, ◌<◌, ◌==◌, nat_le, ℕ, suc, true, false, List, [], ◌++◌, if◌then◌else◌, slice_index}
use Rattle.std.specs.Prelude.{option_map, Option, Some, None}
use Rattle.{mg_disk.specs.Disk.{Image, SameBut, SeenBut, block_at, only_place}, mg_journal.specs.Contents.InClosed}
use Rattle.mg_journal.specs.Contents.{InJournal, NewContents, SameContents, bodies_fit, bodies_of, names}
use Rattle.mg_journal.specs.SegmentLemmas.{IsAlike, all-fit, all-write, alike-closed, alike-whole, each-fits}
use Rattle.mg_journal.specs.SegmentLemmas.{fits-closed, fits-open, same-bodies_fit, same-bodies_of, writes-closed}
use Rattle.mg_journal.specs.SegmentLemmas.{writes-open, writes_since-none, writes_since-split}
use Rattle.{mg_journal.specs.WrittenLemmas.{written-append, written_same}, mg_model.specs.Abbreviations.segments_fit}
use Rattle.mg_model.specs.{Abbreviations.writes_since, Layout.{body_limit, gate_open, segment_count, segment_gate}}
use Rattle.mg_model.specs.Replay.{body_count, homes_fit, is_open, replay, segment_fits, writes_of, written}

abbrev pub open_writes : Image → List (ℕ × List ℕ)
open_writes a = writes_since a 0 segment_count

pub same_wider : (P Q : ℕ → Type 0) (a b : Image) → ((k : ℕ) → P k → Q k) → SameBut P a b → SameBut Q a b
same_wider P Q a b sub same = record { count = same.count; others = λ k out. same.others k (λ p. out (sub k p)) }

pub seen_both : (P : ℕ → Type 0) (x y : Option Image) (a b : Image) → x ≡ Some a → y ≡ Some b → SameBut P a b → SeenBut P x y
seen_both P x y a b is is' same = subst (λ v. SeenBut P v y) (sym is) (subst (λ v. SeenBut P (Some a) v) (sym is') same)

seen_none : (P : ℕ → Type 0) (x y : Option Image) → x ≡ None → y ≡ None → SeenBut P x y
seen_none P x y is is' = subst (λ v. SeenBut P v y) (sym is) (subst (λ v. SeenBut P None v) (sym is') tt)

pub replay-some : (total : ℕ) (a : Image) → segments_fit total a 0 segment_count ≡ true → replay a total ≡ Some (written a (open_writes a))
replay-some total a fit = ap (λ t. if t then Some (written a (open_writes a)) else None) fit

pub replay-none : (total : ℕ) (a : Image) → segments_fit total a 0 segment_count ≡ false → replay a total ≡ None
replay-none total a unfit = ap (λ t. if t then Some (written a (open_writes a)) else None) unfit

some_is : (a b : Image) → Some a ≡ Some b → a ≡ b
some_is a b is = cc

none_some : (a : Image) → None ≡ Some a → ⊥
none_some a is = cc

-- when a replay gives an image, each segment fits
pub replayed-fits : (total : ℕ) (a r : Image) → replay a total ≡ Some r → segments_fit total a 0 segment_count ≡ true
replayed-fits total a r is =
    ⊎_elim (λ fit. fit) (λ unfit. absurd (none_some r (sym (replay-none total a unfit) ∙ is))) (cases_Bool (segments_fit total a 0 segment_count))

pub replayed-is : (total : ℕ) (a r : Image) → replay a total ≡ Some r → r ≡ written a (open_writes a)
replayed-is total a r is = sym (some_is (written a (open_writes a)) r (sym (replay-some total a (replayed-fits total a r is)) ∙ is))

-- when a replay takes the same from each segment
contents_alike : (total : ℕ) (a b : Image) → ((s : ℕ) → s < segment_count → IsAlike total a b s)
    → (segments_fit total a 0 segment_count ≡ true → SameBut InJournal (written a (open_writes a)) (written b (open_writes a))) → SameContents total a b
contents_alike total a b alike same = ⊎_elim fitting unfit (cases_Bool (segments_fit total a 0 segment_count))
  where
    fits : segments_fit total b 0 segment_count ≡ segments_fit total a 0 segment_count
    fits = all-fit total a b 0 segment_count (λ s low high. (alike s (omega arith)).fits)

    fitting : segments_fit total a 0 segment_count ≡ true → SameContents total a b
    fitting fit =
        let writes : open_writes b ≡ open_writes a = all-write a b 0 segment_count (λ s low high. (alike s (omega arith)).writes (each-fits total a 0 segment_count s fit low high)) in
        seen_both InJournal (replay a total) (replay b total) (written a (open_writes a)) (written b (open_writes a)) (replay-some total a fit)
        (replay-some total b (fits ∙ fit) ∙ ap (λ w. Some (written b w)) writes) (same fit)

    unfit : segments_fit total a 0 segment_count ≡ false → SameContents total a b
    unfit never = seen_none InJournal (replay a total) (replay b total) (replay-none total a never) (replay-none total b (fits ∙ never))

pub same_gate : (a b : Image) (s : ℕ) → block_at b (segment_gate s) ≡ block_at a (segment_gate s) → is_open b s ≡ is_open a s
same_gate a b s same = ap (λ (block : List ℕ). slice_index block 0 == gate_open) same

-- when no segment after s is open
pub up_to : (i : Image) (s n count : ℕ) → s + suc n ≡ count → ((t : ℕ) → s < t → t < count → is_open i t ≡ false) → writes_since i 0 count ≡ writes_since i 0 s ++ writes_of i s
up_to i s n count is closed =
    let from : 0 + s ≡ s = omega arith in
    let behind : writes_since i (s + 1) n ≡ [] = writes_since-none i (s + 1) n (λ t low high. closed t (omega arith) (omega arith)) in
    ap (writes_since i 0) (sym is) ∙ writes_since-split i 0 s (suc n)
    ∙ ap (λ t. writes_since i 0 s ++ writes_since i t (suc n)) from
    ∙ ap (λ w. writes_since i 0 s ++ (writes_of i s ++ w)) behind
    ∙ ap (λ w. writes_since i 0 s ++ w) (append-nil (writes_of i s))

-- Any bytes in the indexes and bodies of closed segments leave the contents.
pub closed_segments : (total : ℕ) (a b : Image) → SameBut (InClosed a) a b → SameContents total a b
closed_segments total a b same = contents_alike total a b alike (λ fit. written_in (open_writes a))
  where
    gates : (s : ℕ) → is_open b s ≡ is_open a s
    gates s = same_gate a b s (same.others (segment_gate s) (λ at. let low = at.above in let high = at.below in omega arith))

    opened : (s : ℕ) → is_open a s ≡ true → (k : ℕ) → segment_gate s ≤ k → k < segment_gate (s + 1) → InClosed a k → ⊥
    opened s open_now k low high at =
        let above = at.above in
        let below = at.below in
        let is : at.segment ≡ s = omega arith in
        both_ways (is_open a s) (ap (is_open a) (sym is) ∙ at.shut) open_now

    alike : (s : ℕ) → s < segment_count → IsAlike total a b s
    alike s few =
        ⊎_elim (λ open_now. alike-whole total a b s (λ k low high. same.others k (opened s open_now k low high)))
        (λ shut. alike-closed total a b s shut (gates s ∙ shut)) (cases_Bool (is_open a s))

    written_in : (w : List (ℕ × List ℕ)) → SameBut InJournal (written a w) (written b w)
    written_in w =
        same_wider (λ k. InClosed a k × (names w k ≡ false)) InJournal (written a w) (written b w)
        (λ k p. let few = p.0.few in let above = p.0.above in let below = p.0.below in (omega arith, omega arith))
        (written_same w (InClosed a) a b same)

-- Any bytes in the gate of a written segment give the old contents or the new, if no later segment is open.
module _ (total : ℕ) (a b : Image) (s : ℕ) (few : s < segment_count) (shut : is_open a s ≡ false) (last : (t : ℕ) → s < t → t < segment_count → is_open a t ≡ false)
    (fit : bodies_fit total a s ≡ true) (same : SameBut (only_place (segment_gate s)) a b) where
  elsewhere : (t : ℕ) → t ≢ s → (k : ℕ) → segment_gate t ≤ k → k < segment_gate (t + 1) → block_at b k ≡ block_at a k
  elsewhere t other k low high = same.others k (λ is. other (omega arith))

  behind_gate : (k : ℕ) → segment_gate s < k → k < segment_gate (s + 1) → block_at b k ≡ block_at a k
  behind_gate k low high = same.others k (λ is. omega arith)

  alike_other : (t : ℕ) → t ≢ s → IsAlike total a b t
  alike_other t other = alike-whole total a b t (elsewhere t other)

  in_journal : (w : List (ℕ × List ℕ)) → SameBut InJournal (written a w) (written b w)
  in_journal w =
      same_wider (λ k. (k ≡ segment_gate s) × (names w k ≡ false)) InJournal (written a w) (written b w)
      (λ k p. let is = p.0 in (omega arith, omega arith))
      (written_same w (only_place (segment_gate s)) a b same)

  pub gate_shut : is_open b s ≡ false → SameContents total a b
  gate_shut shut' = contents_alike total a b alike (λ fit. in_journal (open_writes a))
    where
      alike : (t : ℕ) → t < segment_count → IsAlike total a b t
      alike t below =
          ⊎_elim (λ is. let P : ℕ → Type 0 = λ n. IsAlike total a b n in subst P (sym is) (alike-closed total a b s shut shut')) (alike_other t) (cases_eq t s)

  pub gate_opened : is_open b s ≡ true → NewContents total a (bodies_of a s) b
  gate_opened opened = ⊎_elim fitting unfit (cases_Bool (segments_fit total a 0 segment_count))
    where
      fits_here : segment_fits total b s ≡ segment_fits total a s
      fits_here = fits-open total b s opened ∙ same-bodies_fit total a b s behind_gate ∙ fit ∙ sym (fits-closed total a s shut)

      fits : segments_fit total b 0 segment_count ≡ segments_fit total a 0 segment_count
      fits =
          all-fit total a b 0 segment_count
          (λ t low high. ⊎_elim (λ is. ap (segment_fits total b) is ∙ fits_here ∙ ap (segment_fits total a) (sym is)) (λ other. (alike_other t other).fits) (cases_eq t s))

      old_writes : open_writes a ≡ writes_since a 0 s
      old_writes =
          up_to a s (segment_count - (s + 1)) segment_count (omega arith) last
          ∙ ap (λ w. writes_since a 0 s ++ w) (writes-closed a s shut)
          ∙ append-nil (writes_since a 0 s)

      new_writes : segments_fit total a 0 segment_count ≡ true → open_writes b ≡ open_writes a ++ bodies_of a s
      new_writes is =
          up_to b s (segment_count - (s + 1)) segment_count (omega arith)
          (λ t low high. same_gate a b t (elsewhere t (λ e. omega arith) (segment_gate t) (omega arith) (omega arith)) ∙ last t low high)
          ∙ ap (λ w. w ++ writes_of b s)
          (all-write a b 0 s (λ t low high. (alike_other t (λ e. omega arith)).writes (each-fits total a 0 segment_count t is (omega arith) (omega arith))))
          ∙ ap (λ w. writes_since a 0 s ++ w)
          (writes-open b s opened ∙ same-bodies_of total a b s behind_gate (and_parts (nat_le (body_count a s) body_limit) (homes_fit total (bodies_of a s)) fit).0)
          ∙ ap (λ w. w ++ bodies_of a s) (sym old_writes)

      fitting : segments_fit total a 0 segment_count ≡ true → NewContents total a (bodies_of a s) b
      fitting is =
          seen_both InJournal (option_map (λ r. written r (bodies_of a s)) (replay a total)) (replay b total)
          (written (written a (open_writes a)) (bodies_of a s)) (written b (open_writes a ++ bodies_of a s))
          (ap (option_map (λ r. written r (bodies_of a s))) (replay-some total a is))
          (replay-some total b (fits ∙ is) ∙ ap (λ w. Some (written b w)) (new_writes is))
          (subst (λ i. SameBut InJournal i (written b (open_writes a ++ bodies_of a s))) (written-append (open_writes a) (bodies_of a s) a) (in_journal (open_writes a ++ bodies_of a s)))

      unfit : segments_fit total a 0 segment_count ≡ false → NewContents total a (bodies_of a s) b
      unfit never =
          seen_none InJournal (option_map (λ r. written r (bodies_of a s)) (replay a total)) (replay b total)
          (ap (option_map (λ r. written r (bodies_of a s))) (replay-none total a never)) (replay-none total b (fits ∙ never))

  pub any_gate : SameContents total a b ⊎ NewContents total a (bodies_of a s) b
  any_gate = ⊎_elim (λ opened. inr (gate_opened opened)) (λ shut'. inl (gate_shut shut')) (cases_Bool (is_open b s))
