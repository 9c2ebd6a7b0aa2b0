-- What reads give, one after another, and what the lists that are read add to marks.
use Rattle.{mg_check.specs.ReadRuns.{same_contents, still_read}, mg_disk.specs.{Disk.Image, Reads.OnlyRead}, mg_journal.specs.Looked.Fits}
use Rattle.{mg_model.specs.{State.ObjectRow, declared.slots.Slot.Slot}, mg_show.{proofs.Marked.{marks_none, marks_then}, specs.Marking.Finds}}
use Rattle.mg_show.specs.{Marking.{Learns, Marks, named_by}, Shown.CanShow, Writing.Held, WritingLemmas.{reads_none, reads_kept, reads_then}}
use Rattle.{mg_show.specs.declared.held.Shown.Shown, std.{proofs.Common.{◌≡◌, ℕ, List, [], ◌++◌, ap, refl, subst, ◌∙◌}, specs.Prelude.{Bool, Option}}}
use Rattle.mg_disk.specs.declared.disk.Disk as disks

module _ {D : Type 0} (facts : disks.Ghosts D) where
  pub still_shown : (shown : Shown) {d d' : D} → CanShow facts shown d → OnlyRead facts d d' → CanShow facts shown d'
  still_shown shown {d} {d'} can reads = still_read facts shown.view.total (Fits shown.view) d d' can reads

module _ {D : Type 0} (facts : disks.Ghosts D) {of : Image → Option Image} where
  -- what needs no read
  pub learns_none : {P : Image → Type 0} (d : D) (o : Held) → (facts.time d).has_been (facts.time d).moment → ((r : Image) → P r) → Learns facts of P d d o o
  learns_none d o been is = record { is = λ none r told. is r; reads = reads_none facts d o been }

  -- what follows from two
  pub learns_then : {P Q S : Image → Type 0} {d d' d'' : D} {o o' o'' : Held}
      → ((r : Image) → P r → Q r → S r) → Learns facts of P d d' o o' → Learns facts of Q d' d'' o' o'' → Learns facts of S d d'' o o''
  learns_then {P} {Q} {S} {d} {d'} {d''} {o} {o'} {o''} joined first second = record {
    is = λ none r told.
        joined r (first.is (reads_kept facts second.reads none) r told)
        (second.is none r (same_contents facts of d d' first.reads.reads ∙ told));
    reads = reads_then facts first.reads second.reads;
  }

  -- what follows from one
  pub learns_so : {P Q : Image → Type 0} {d d' : D} {o o' : Held} → ((r : Image) → P r → Q r) → Learns facts of P d d' o o' → Learns facts of Q d d' o o'
  learns_so so first = record { is = λ none r told. so r (first.is none r told); reads = first.reads }

  module _ {Key : Type 0} {has : ℕ → Key → Bool} {gives : ObjectRow → ℕ → Key → Bool} {objects : List (ℕ × ObjectRow)} where
    -- no list
    pub found_none : (d : D) (p : List ℕ) (o : Held) → (facts.time d).has_been (facts.time d).moment
        → Finds facts of has gives objects (λ r. []) d d p p o o
    found_none d p o been = record { learns = learns_none d o been (λ r. marks_none has gives objects p); long = refl }

    -- a list whose capabilities are added
    pub found_list : {a : Image → List (ℕ × ℕ)} {d d' : D} {p p' : List ℕ} {o o' : Held} (slots items : List Slot) → slots ≡ items
        → Learns facts of (λ r. named_by items ≡ a r) d d' o o' → Marks has gives objects (named_by slots) p p'
        → Finds facts of has gives objects a d d' p p' o o'
    found_list {a} {d} {d'} {p} {p'} slots items same learned marks = record {
      learns = learns_so (λ r is. subst (λ c. Marks has gives objects c p p') (ap named_by same ∙ is) marks) learned;
      long = marks.long;
    }

    -- the capabilities of one list behind those of others
    pub found_then : {a b : Image → List (ℕ × ℕ)} {d d' d'' : D} {p p' p'' : List ℕ} {o o' o'' : Held}
        → Finds facts of has gives objects a d d' p p' o o'
        → Finds facts of has gives objects b d' d'' p' p'' o' o'' → Finds facts of has gives objects (λ r. a r ++ b r) d d'' p p'' o o''
    found_then {a} {b} {d} {d'} {d''} {p} {p'} {p''} first second = record {
      learns = learns_then (λ r. marks_then has gives objects (a r) (b r) p p' p'') first.learns second.learns;
      long = second.long ∙ first.long;
    }

    -- the same in other words
    pub found_same : {a b : Image → List (ℕ × ℕ)} {d d' : D} {p p' : List ℕ} {o o' : Held}
        → ((r : Image) → a r ≡ b r) → Finds facts of has gives objects a d d' p p' o o' → Finds facts of has gives objects b d d' p p' o o'
    found_same {a} {b} {d} {d'} {p} {p'} is found = record {
      learns = learns_so (λ r marks. subst (λ c. Marks has gives objects c p p') (is r) marks) found.learns;
      long = found.long;
    }
